-- What is left of the field decides, from the value so far.
use Rattle.std.proofs.Common.{ℕ, ◌≡◌, ◌+◌, ◌*◌, drop, get_or, sym, ap, ◌∙◌, arith}
use lib.ListN.{drop_of_length-le}
use Rattle.numbers.specs.Numbers.{one_more}
use Rattle.numbers.proofs.Laws.{number_from, number-empty, number-long, number-all, number-none, number-below, number_above, number_more, one-more_lt}
use Rattle.numbers.proofs.read_number.Goals as goal

pub returns-then-field-lt1 : goal.returns-then-field-lt1
returns-then-field-lt1 c = sym (number-empty c.args.field.now c.if-field-lt1.true)

pub returns-then-field-gt3 : goal.returns-then-field-gt3
returns-then-field-gt3 c = sym (number-long c.args.field.now c.if-field-gt3.true)

pub loop-b-init : goal.loop-b-init
loop-b-init c = (omega arith, number-all c.args.field.now (omega arith) (omega arith))

pub returns-then-b-lt48 : goal.returns-then-b-lt48
returns-then-b-lt48 c = sym (c.loop-b.invariant.1 ∙ number-below c.loop-b.value c.args.field.now c.loop-b.b-index (omega arith) c.if-b-lt48.true)

pub returns-then-b-gt57 : goal.returns-then-b-gt57
returns-then-b-gt57 c = sym (c.loop-b.invariant.1 ∙ number_above c.loop-b.value c.args.field.now c.loop-b.b-index (omega arith) c.if-b-gt57.true)

pub loop-b-preserved : goal.loop-b-preserved
loop-b-preserved c =
    let a = c.args.field.now in
    let i = c.loop-b.b-index in
    let v = c.loop-b.value in
    let b = get_or a i 0 in
    let w = v * 10 + c.from.result in
    let e : w ≡ one_more v b = omega (arith, c.from.ensures) in (
      one-more_lt v b i c.loop-b.invariant.0 (omega arith) w e,
      c.loop-b.invariant.1 ∙ number_more v a i (omega arith) (omega arith) (omega arith) ∙ ap (λ (x : ℕ). number_from x (drop (i + 1) a)) (sym e),
    )

pub returns : goal.returns
returns c =
    let i = c.loop-b.b-index in
    sym (c.loop-b.invariant.1 ∙ rw (drop_of_length-le c.args.field.now {i = i} (omega arith)) (number-none c.loop-b.value))

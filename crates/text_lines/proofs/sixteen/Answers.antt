-- One byte more.
use Rattle.std.proofs.Common.{◌≡◌, Bool, ◌+◌, ◌||◌, get_or, drop, sym, ap, ◌∙◌, arith}
use lib.Dec.{eqb}
use borrow.Author.Tests.{le-ltb}
use Rattle.text_lines.specs.Within.{before_newline}
use Rattle.text_lines.proofs.Laws.{newline-among}
use Rattle.text_lines.proofs.sixteen.Goals as goal

pub loop-i-init : goal.loop-i-init
loop-i-init c = (omega arith, sym (le-ltb (before_newline (drop c.args.at c.args.text.now)) 0 (omega arith)))

pub loop-i-preserved : goal.loop-i-preserved
loop-i-preserved c =
    let a = c.args in
    let i = c.loop-i.i in (
      omega arith,
      ap (λ (t : Bool). t || eqb (get_or a.text.now (a.at + i) 0) 10) c.loop-i.invariant.1 ∙ sym (newline-among a.text.now a.at i (omega arith)),
    )

pub returns : goal.returns
returns c = let e : c.loop-i.i ≡ 16 = omega arith in rw (← e) c.loop-i.invariant.1

-- The run is followed byte by byte; where the loop is left, by either way, the field ends.
use Rattle.std.proofs.Common.{◌≡◌, ◌<◌, false, refl, sym, ap, ◌∙◌, drop, length, arith}
use borrow.Author.Tests.{eq-eqb, ne_eqb}
use Rattle.alphabet.specs.Alphabet.{class_of}
use Rattle.alphabet.specs.Within.{run}
use Rattle.alphabet.proofs.Laws.{blank_told, run-stop, run_more, run_past}
use Rattle.alphabet.proofs.Joined.{items-length, item-at, joined-none, joined-more, label-field-ends, label-field_finds}
use Rattle.alphabet.proofs.next_label_field.Goals as goal
use Rattle.alphabet.proofs.next_label_field.Goals.{else-loop-b-test, then-loop-b-test+then-class-eq-BLANK}

pub returns-then-line-end : goal.returns-then-line-end
returns-then-line-end c = sym (label-field-ends _ _ _ c.skip-end.ensures c.if-line-end.true)

pub loop-b-init : goal.loop-b-init
loop-b-init c = (omega arith, refl, joined-none c.args.line.now c.skip-end.result)

pub loop-b-preserved : goal.loop-b-preserved
loop-b-preserved c =
    let i = c.loop-b.invariant in
    let line = c.args.line.now in
    let end = c.loop-b.end in
    let size = items-length line c.skip-end.result in
    let class = c.class-class.ensures ∙ ap class_of (item-at line c.skip-end.result c.loop-b.b-index end (omega arith)) in
    let h : end < length line = omega (arith, c.loop-b-test.true) in
    let more = run_more false line end h (sym (blank_told _ _ class) ∙ ne_eqb _ 1 c.if-class-eq-BLANK.false) in
    (omega arith, omega arith, joined-more line _ end c.loop-b.joined _ (omega arith) h i.2 class)

pub returns : goal.returns
returns c =
    let line = c.args.line.now in
    let end = c.loop-b.end in
    let size = items-length line c.skip-end.result in
    let stop : run false (drop end line) ≡ 0 =
    elim c.loop-b-test.branch [
      | else-loop-b-test w ↦ run_past false line end (omega (arith, w.loop-b-test.false))
      | then-loop-b-test+then-class-eq-BLANK w ↦
          let class = w.class-class.ensures ∙ ap class_of (item-at line c.skip-end.result c.loop-b.b-index end (omega arith)) in
          run-stop false line end (omega (arith, w.loop-b-test.true)) (sym (blank_told _ _ class) ∙ eq-eqb _ 1 w.if-class-eq-BLANK.true)
    ] in
    sym (label-field_finds _ _ _ _ c.loop-b.joined c.skip-end.ensures (omega arith) c.if-line-end.false c.loop-b.invariant.2)

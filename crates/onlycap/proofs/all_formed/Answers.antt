-- Each field passed is well formed, or one is not.
use Rattle.std.proofs.Common.{sym, ◌∙◌, arith}
use Rattle.alphabet.proofs.Laws.{field-some}
use Rattle.onlycap.proofs.Laws.{formed-end, formed_turn}
use Rattle.onlycap.proofs.all_formed.Goals as goal

pub returns-in_default : goal.returns-in_default
returns-in_default c = sym (c.loop-start.invariant.1 ∙ formed-end c.args.text.now c.loop-start.at (sym c.next_field.ensures ∙ c.in_default.is))

pub slice_bounds-well_formed-count : goal.slice_bounds-well_formed-count
slice_bounds-well_formed-count c = let f = field-some c.args.text.now c.loop-start.at _ _ (sym c.in-Part.ensures) in omega (arith, f.starts)

pub slice_bounds-well_formed-start : goal.slice_bounds-well_formed-start
slice_bounds-well_formed-start c = let f = field-some c.args.text.now c.loop-start.at _ _ (sym c.in-Part.ensures) in omega (arith, f.starts)

pub slice_bounds-well_formed-end : goal.slice_bounds-well_formed-end
slice_bounds-well_formed-end c = (field-some c.args.text.now c.loop-start.at _ _ (sym c.in-Part.ensures)).ends

pub returns-then-not-well_formed : goal.returns-then-not-well_formed
returns-then-not-well_formed c =
    let e = sym c.well_formed-in-loop-start.ensures ∙ c.if-not-well_formed.true in
    sym (c.loop-start.invariant.1 ∙ formed_turn c.args.text.now c.loop-start.at _ _ (sym c.in-Part.ensures) ∙ rw e)

pub loop-start-smaller : goal.loop-start-smaller
loop-start-smaller c =
    let f = field-some c.args.text.now c.loop-start.at _ _ (sym c.in-Part.ensures) in
    omega (arith, f.after, f.starts, f.ends)

pub loop-start-preserved : goal.loop-start-preserved
loop-start-preserved c =
    let f = field-some c.args.text.now c.loop-start.at _ _ (sym c.in-Part.ensures) in
    let e = sym c.well_formed-in-loop-start.ensures ∙ c.if-not-well_formed.false in
    (f.ends, c.loop-start.invariant.1 ∙ formed_turn c.args.text.now c.loop-start.at _ _ (sym c.in-Part.ensures) ∙ rw e)

-- A field that is no label ends the search, behind one it goes on, and the text's end ends it.
use Rattle.std.proofs.Common.{ap, sym, ◌∙◌, arith}
use Rattle.refusals.specs.Refusals.{bad_label_at}
use Rattle.alphabet.proofs.Laws.{field-some, label-field-some, label-field-none}
use Rattle.alphabet.proofs.Places.{place-all, place_none, place_here, place-later}
use Rattle.alphabet.proofs.bad_label_in.Goals as goal

pub loop-start-init : goal.loop-start-init
loop-start-init c = (omega arith, place-all _)

pub returns-in_default : goal.returns-in_default
returns-in_default c =
    let none = label-field-none _ _ (sym c.next_label_field.ensures ∙ c.in_default.is) in
    ap bad_label_at (sym (c.loop-start.invariant.1 ∙ place_none _ _ none))

pub slice_bounds-bad_label_at-count : goal.slice_bounds-bad_label_at-count
slice_bounds-bad_label_at-count c =
    let w = field-some _ _ _ _ (label-field-some _ _ _ _ _ (sym c.in-Part.ensures)).0 in
    omega (arith, w.starts)

pub slice_bounds-bad_label_at-start : goal.slice_bounds-bad_label_at-start
slice_bounds-bad_label_at-start c =
    let w = field-some _ _ _ _ (label-field-some _ _ _ _ _ (sym c.in-Part.ensures)).0 in
    omega (arith, w.starts)

pub slice_bounds-bad_label_at-end : goal.slice_bounds-bad_label_at-end
slice_bounds-bad_label_at-end c =
    let w = field-some _ _ _ _ (label-field-some _ _ _ _ _ (sym c.in-Part.ensures)).0 in
    omega (arith, w.ends)

pub bad_label_at-requires : goal.bad_label_at-requires
bad_label_at-requires c =
    let w = field-some _ _ _ _ (label-field-some _ _ _ _ _ (sym c.in-Part.ensures)).0 in
    omega (arith, w.starts, w.ends, c.requires)

pub returns-then-not-formed : goal.returns-then-not-formed
returns-then-not-formed c =
    let e = place_here _ _ _ _ (sym c.in-Part.ensures) c.if-not-formed.true in
    c.bad_label_at.ensures ∙ ap bad_label_at (sym (c.loop-start.invariant.1 ∙ e))

pub loop-start-smaller : goal.loop-start-smaller
loop-start-smaller c =
    let w = field-some _ _ _ _ (label-field-some _ _ _ _ _ (sym c.in-Part.ensures)).0 in
    omega (arith, w.after, w.starts, w.ends)

pub loop-start-preserved : goal.loop-start-preserved
loop-start-preserved c =
    let w = field-some _ _ _ _ (label-field-some _ _ _ _ _ (sym c.in-Part.ensures)).0 in
    (w.ends, c.loop-start.invariant.1 ∙ place-later _ _ _ _ (sym c.in-Part.ensures) c.if-not-formed.false)

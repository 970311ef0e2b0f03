-- By the first field and what stands behind it.
use Rattle.std.proofs.Common.{sym, ◌∙◌, arith}
use Rattle.alphabet.proofs.Laws.{field-some}
use Rattle.onlycap.proofs.Laws.{dash-none, dash-more, dash-one}
use Rattle.onlycap.proofs.lone_dash.Goals as goal

pub returns-in_default : goal.returns-in_default
returns-in_default c = dash-none c.args.text.now (sym c.next_field.ensures ∙ c.in_default.is)

pub returns-in_default-next_field : goal.returns-in_default-next_field
returns-in_default-next_field c = dash-more c.args.text.now _ _ _ _ (sym c.in-Part.ensures) (sym c.next_field-2.ensures ∙ c.in_default-next_field.is)

pub slice_bounds-same_bytes-count : goal.slice_bounds-same_bytes-count
slice_bounds-same_bytes-count c = let f = field-some c.args.text.now 0 _ _ (sym c.in-Part.ensures) in omega (arith, f.starts)

pub slice_bounds-same_bytes-start : goal.slice_bounds-same_bytes-start
slice_bounds-same_bytes-start c = let f = field-some c.args.text.now 0 _ _ (sym c.in-Part.ensures) in omega (arith, f.starts)

pub slice_bounds-same_bytes-end : goal.slice_bounds-same_bytes-end
slice_bounds-same_bytes-end c = (field-some c.args.text.now 0 _ _ (sym c.in-Part.ensures)).ends

pub returns : goal.returns
returns c = c.same_bytes.ensures ∙ dash-one c.args.text.now _ _ (sym c.in-Part.ensures) (sym c.in-End.ensures)

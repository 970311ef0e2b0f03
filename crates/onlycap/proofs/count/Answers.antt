-- One field more, counted as it would enter the list and the table.
use Rattle.std.proofs.Common.{◌≡◌, ◌≤◌, [], sym, ◌∙◌, ap, length, arith}
use Rattle.search.specs.Search.{first, entries}
use Rattle.search.specs.Bytes.{same_bytes}
use Rattle.search.proofs.Laws.{entries-length}
use Rattle.alphabet.specs.Alphabet.{fields}
use Rattle.alphabet.specs.Within.{part}
use Rattle.alphabet.proofs.Laws.{field-some}
use Rattle.store.specs.Layout.{label_at}
use Rattle.onlycap.specs.declared.Counted.{Counted}
use Rattle.onlycap.proofs.Laws.{passed_none, passed-more, passed-all, counted_up_to, counted_none, counted-more, same_count, joined_le}
use Rattle.onlycap.proofs.count.Goals as goal

pub loop-start-init : goal.loop-start-init
loop-start-init c =
    let a = c.args.labels.now in
    (passed_none _, omega arith, counted_none (entries (label_at a) c.args.stored) (fields c.args.text.now) c.args.stored (sym (entries-length (label_at a) c.args.stored)))

pub returns-in_default : goal.returns-in_default
returns-in_default c =
    let l = c.loop-start in
    let e = passed-all c.args.text.now l.at l.i l.invariant.0 (sym c.next_field.ensures ∙ c.in_default.is) in
    let z : l.i ≡ length (fields c.args.text.now) = omega (arith, e, l.invariant.1) in
    l.invariant.2 ∙ ap (counted_up_to (entries (label_at c.args.labels.now) c.args.stored) (fields c.args.text.now)) z

pub slice_bounds-seen_before-count : goal.slice_bounds-seen_before-count
slice_bounds-seen_before-count c = let f = passed-more c.args.text.now c.loop-start.at c.loop-start.i _ _ c.loop-start.invariant.0 (sym c.in-Part.ensures) in omega (arith, f.starts)

pub slice_bounds-seen_before-start : goal.slice_bounds-seen_before-start
slice_bounds-seen_before-start c = let f = passed-more c.args.text.now c.loop-start.at c.loop-start.i _ _ c.loop-start.invariant.0 (sym c.in-Part.ensures) in omega (arith, f.starts)

pub slice_bounds-seen_before-end : goal.slice_bounds-seen_before-end
slice_bounds-seen_before-end c = (passed-more c.args.text.now c.loop-start.at c.loop-start.i _ _ c.loop-start.invariant.0 (sym c.in-Part.ensures)).ends

pub slice_bounds-count_label-count : goal.slice_bounds-count_label-count
slice_bounds-count_label-count c = let f = passed-more c.args.text.now c.loop-start.at c.loop-start.i _ _ c.loop-start.invariant.0 (sym c.in-Part.ensures) in omega (arith, f.starts)

pub slice_bounds-count_label-start : goal.slice_bounds-count_label-start
slice_bounds-count_label-start c = let f = passed-more c.args.text.now c.loop-start.at c.loop-start.i _ _ c.loop-start.invariant.0 (sym c.in-Part.ensures) in omega (arith, f.starts)

pub slice_bounds-count_label-end : goal.slice_bounds-count_label-end
slice_bounds-count_label-end c = (passed-more c.args.text.now c.loop-start.at c.loop-start.i _ _ c.loop-start.invariant.0 (sym c.in-Part.ensures)).ends

pub count_label-counted-requires : goal.count_label-counted-requires
count_label-counted-requires c =
    let l = c.loop-start in
    let q = l.invariant.2 in
    let ls = entries (label_at c.args.labels.now) c.args.stored in
    let fs = fields c.args.text.now in
    let d = ap (λ (x : Counted). x.different) q in
    let n = ap (λ (x : Counted). x.labels) q in
    let small : l.i ≤ 600 = omega (arith, l.invariant.0.fewer, l.invariant.0.inside, c.requires.2) in (
      c.requires.0,
      c.requires.1,
      omega (arith, d, joined_le [] fs l.i),
      omega (arith, n, joined_le ls fs l.i, entries-length (label_at c.args.labels.now) c.args.stored, c.requires.1),
    )

pub loop-start-smaller : goal.loop-start-smaller
loop-start-smaller c =
    let f = passed-more c.args.text.now c.loop-start.at c.loop-start.i _ _ c.loop-start.invariant.0 (sym c.in-Part.ensures) in
    let after = (field-some c.args.text.now c.loop-start.at _ _ (sym c.in-Part.ensures)).after in
    omega (arith, after, f.starts, f.ends)

pub loop-start-preserved : goal.loop-start-preserved
loop-start-preserved c =
    let l = c.loop-start in
    let f = passed-more c.args.text.now c.loop-start.at c.loop-start.i _ _ c.loop-start.invariant.0 (sym c.in-Part.ensures) in
    let x = part c.args.text.now c.in-Part.start c.in-Part.end in
    let ls = entries (label_at c.args.labels.now) c.args.stored in (
      f.on,
      omega (arith, f.some),
      c.count_label-counted.ensures
          ∙ same_count (first (same_bytes x) ls) l.invariant.2 c.seen_before-seen.ensures
          ∙ counted-more ls (fields c.args.text.now) l.i x f.some f.field,
    )

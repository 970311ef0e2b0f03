-- A field that has the label's bytes, or one more that has not.
use Rattle.std.proofs.Common.{◌≡◌, false, [], sym, ◌∙◌, ap, get_or, arith}
use Rattle.search.specs.Bytes.{same_bytes}
use Rattle.alphabet.specs.Alphabet.{fields}
use Rattle.onlycap.proofs.Laws.{passed_none, passed-more, passed-all, appears_none, appears_more, appears_found, appears_all}
use Rattle.onlycap.proofs.seen_before.Goals as goal

pub loop-init : goal.loop-init
loop-init c = (passed_none _, appears_none _ (fields c.args.text.now))

pub returns-in_default : goal.returns-in_default
returns-in_default c =
    let l = c.loop in
    let e = passed-all c.args.text.now l.at l.counter l.invariant.0 (sym c.next_field.ensures ∙ c.in_default.is) in
    sym (appears_all c.args.label.now (fields c.args.text.now) c.args.count l.counter e (omega arith) ∙ l.invariant.1)

pub slice_bounds-same_bytes-count : goal.slice_bounds-same_bytes-count
slice_bounds-same_bytes-count c = let f = passed-more c.args.text.now c.loop.at c.loop.counter _ _ c.loop.invariant.0 (sym c.in-Part.ensures) in omega (arith, f.starts)

pub slice_bounds-same_bytes-start : goal.slice_bounds-same_bytes-start
slice_bounds-same_bytes-start c = let f = passed-more c.args.text.now c.loop.at c.loop.counter _ _ c.loop.invariant.0 (sym c.in-Part.ensures) in omega (arith, f.starts)

pub slice_bounds-same_bytes-end : goal.slice_bounds-same_bytes-end
slice_bounds-same_bytes-end c = (passed-more c.args.text.now c.loop.at c.loop.counter _ _ c.loop.invariant.0 (sym c.in-Part.ensures)).ends

pub returns-then-same_bytes : goal.returns-then-same_bytes
returns-then-same_bytes c =
    let f = passed-more c.args.text.now c.loop.at c.loop.counter _ _ c.loop.invariant.0 (sym c.in-Part.ensures) in
    sym
    (appears_found c.args.label.now (fields c.args.text.now) c.args.count c.loop.counter (omega arith) f.some
    (ap (same_bytes c.args.label.now) (sym f.field) ∙ sym c.same_bytes.ensures ∙ c.if-same_bytes.true))

pub loop-preserved : goal.loop-preserved
loop-preserved c =
    let f = passed-more c.args.text.now c.loop.at c.loop.counter _ _ c.loop.invariant.0 (sym c.in-Part.ensures) in
    let e : same_bytes c.args.label.now (get_or (fields c.args.text.now) c.loop.counter []) ≡ false =
    ap (same_bytes c.args.label.now) (sym f.field) ∙ sym c.same_bytes.ensures ∙ c.if-same_bytes.false in
    (f.on, appears_more c.args.label.now (fields c.args.text.now) c.loop.counter f.some ∙ rw (c.loop.invariant.1, e))

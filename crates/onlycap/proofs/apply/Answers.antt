-- One field more is taken, where it was not seen before.
use Rattle.std.proofs.Common.{◌≡◌, ◌+◌, ℕ, true, false, refl, sym, ◌∙◌, ap, length, arith, Option}
use lib.ListN.{set}
use Rattle.alphabet.specs.Alphabet.{fields}
use Rattle.alphabet.proofs.Laws.{field-some}
use Rattle.search.specs.Within.{count_after}
use Rattle.search.specs.Search.{place_of}
use Rattle.alphabet.specs.Within.{part}
use Rattle.places.specs.declared.Numbered.{Numbered}
use Rattle.store.specs.declared.LentMut.{LentMut}
use Rattle.store.specs.Layout.{Store}
use Rattle.store.specs.Lent.{lent_mut}
use Rattle.store.specs.Within.{entered}
use Rattle.onlycap.specs.Within.{found_in, taken_up_to}
use Rattle.onlycap.proofs.Laws.{passed_none, passed-more, passed-all, taken, ready-here, taken_more, taken-all}
use Rattle.onlycap.proofs.apply.Goals as goal
use Rattle.onlycap.proofs.apply.Goals.{then-not-seen_before, else-not-seen_before}

pub loop-start-init : goal.loop-start-init
unfolding taken_up_to
loop-start-init c = (passed_none _, omega arith, refl, refl, (refl, refl, refl))

pub returns-in_default-clause-stored : goal.returns-in_default-clause-stored
returns-in_default-clause-stored c =
    let l = c.loop-start in
    let e = passed-all c.args.text.now l.at l.i l.invariant.0 (sym c.next_field.ensures ∙ c.in_default.is) in
    let z : l.i ≡ length (fields c.args.text.now) = omega (arith, e, l.invariant.1) in
    taken-all (lent_mut c.args.state.now) c.args.text.now l.i l.state.labels.now l.state.entries.now l.state.words.now l.stored l.listed z l.invariant.2 l.invariant.3

pub slice_bounds-label-count : goal.slice_bounds-label-count
slice_bounds-label-count c =
    let f = passed-more c.args.text.now c.loop-start.at c.loop-start.i _ _ c.loop-start.invariant.0 (sym c.in-Part.ensures) in
    omega (arith, f.starts)

pub slice_bounds-label-start : goal.slice_bounds-label-start
slice_bounds-label-start c =
    let f = passed-more c.args.text.now c.loop-start.at c.loop-start.i _ _ c.loop-start.invariant.0 (sym c.in-Part.ensures) in
    omega (arith, f.starts)

pub slice_bounds-label-end : goal.slice_bounds-label-end
slice_bounds-label-end c =
    let f = passed-more c.args.text.now c.loop-start.at c.loop-start.i _ _ c.loop-start.invariant.0 (sym c.in-Part.ensures) in
    f.ends

pub find_label-found-requires : goal.find_label-found-requires
find_label-found-requires c =
    let f = passed-more c.args.text.now c.loop-start.at c.loop-start.i _ _ c.loop-start.invariant.0 (sym c.in-Part.ensures) in
    let r = ready-here (lent_mut c.args.state.now) c.args.text.now c.requires c.loop-start.i _ _ _ _ _ _ f c.loop-start.invariant.3 in
    (ap (λ (s : Store). length s.labels) c.shared.ensures ∙ r.labels, r.stored)

pub number_for-numbered-requires : goal.number_for-numbered-requires
number_for-numbered-requires c =
    let f = passed-more c.args.text.now c.loop-start.at c.loop-start.i _ _ c.loop-start.invariant.0 (sym c.in-Part.ensures) in
    let r = ready-here (lent_mut c.args.state.now) c.args.text.now c.requires c.loop-start.i _ _ _ _ _ _ f c.loop-start.invariant.3 in
    omega (arith, r.stored)

pub enter-requires : goal.enter-requires
enter-requires c =
    let f = passed-more c.args.text.now c.loop-start.at c.loop-start.i _ _ c.loop-start.invariant.0 (sym c.in-Part.ensures) in
    let r = ready-here (lent_mut c.args.state.now) c.args.text.now c.requires c.loop-start.i _ _ _ _ _ _ f c.loop-start.invariant.3 in
    let is = c.find_label-found.ensures ∙ ap (λ (s : Store). found_in (taken s.labels s.entries c.loop-start.stored c.loop-start.listed) (part c.args.text.now c.in-Part.start c.in-Part.end)) c.shared.ensures in
    (r.labels, rw is r.place, r.label)

pub overflow_cast-state : goal.overflow_cast-state
overflow_cast-state c =
    let f = passed-more c.args.text.now c.loop-start.at c.loop-start.i _ _ c.loop-start.invariant.0 (sym c.in-Part.ensures) in
    let r = ready-here (lent_mut c.args.state.now) c.args.text.now c.requires c.loop-start.i _ _ _ _ _ _ f c.loop-start.invariant.3 in
    let is = c.find_label-found.ensures ∙ ap (λ (s : Store). found_in (taken s.labels s.entries c.loop-start.stored c.loop-start.listed) (part c.args.text.now c.in-Part.start c.in-Part.end)) c.shared.ensures in
    let number = ap (λ (n : Numbered). n.number) c.number_for-numbered.ensures ∙ ap (λ (x : Option ℕ). place_of x c.loop-start.stored) is in
    omega (arith, number, r.place)

pub overflow_add-state : goal.overflow_add-state
overflow_add-state c =
    let f = passed-more c.args.text.now c.loop-start.at c.loop-start.i _ _ c.loop-start.invariant.0 (sym c.in-Part.ensures) in
    let r = ready-here (lent_mut c.args.state.now) c.args.text.now c.requires c.loop-start.i _ _ _ _ _ _ f c.loop-start.invariant.3 in
    omega (arith, r.room (sym c.seen_before.ensures ∙ c.if-not-seen_before.true))

pub bounds-state-listed : goal.bounds-state-listed
bounds-state-listed c =
    let f = passed-more c.args.text.now c.loop-start.at c.loop-start.i _ _ c.loop-start.invariant.0 (sym c.in-Part.ensures) in
    let r = ready-here (lent_mut c.args.state.now) c.args.text.now c.requires c.loop-start.i _ _ _ _ _ _ f c.loop-start.invariant.3 in
    omega (arith, r.room (sym c.seen_before.ensures ∙ c.if-not-seen_before.true), r.entries_long)

pub overflow_add-listed : goal.overflow_add-listed
overflow_add-listed c =
    let f = passed-more c.args.text.now c.loop-start.at c.loop-start.i _ _ c.loop-start.invariant.0 (sym c.in-Part.ensures) in
    let r = ready-here (lent_mut c.args.state.now) c.args.text.now c.requires c.loop-start.i _ _ _ _ _ _ f c.loop-start.invariant.3 in
    omega (arith, r.room (sym c.seen_before.ensures ∙ c.if-not-seen_before.true))

pub loop-start-smaller : goal.loop-start-smaller
loop-start-smaller c =
    let f = passed-more c.args.text.now c.loop-start.at c.loop-start.i _ _ c.loop-start.invariant.0 (sym c.in-Part.ensures) in
    let after = (field-some c.args.text.now c.loop-start.at _ _ (sym c.in-Part.ensures)).after in
    omega (arith, after, f.starts, f.ends)

pub loop-start-preserved : goal.loop-start-preserved
loop-start-preserved c =
    let l = c.loop-start in
    let f = passed-more c.args.text.now l.at l.i _ _ l.invariant.0 (sym c.in-Part.ensures) in
    let x = part c.args.text.now c.in-Part.start c.in-Part.end in
    let is = c.find_label-found.ensures ∙ ap (λ (s : Store). found_in (taken s.labels s.entries l.stored l.listed) x) c.shared.ensures in
    let labels = c.enter.ensures.labels_after ∙ ap (λ (y : Option ℕ). entered y l.state.labels.now l.stored x) is in
    let number = ap (λ (n : Numbered). n.number) c.number_for-numbered.ensures ∙ ap (λ (y : Option ℕ). place_of y l.stored) is in
    let count = ap (λ (n : Numbered). n.count) c.number_for-numbered.ensures ∙ ap (λ (y : Option ℕ). count_after y l.stored) is in
    let more =
    taken_more (lent_mut c.args.state.now) c.args.text.now l.i c.in-Part.start c.in-Part.end l.state.labels.now l.state.entries.now c.if-not-seen_before.state.labels.now c.if-not-seen_before.state.entries.now
    l.stored l.listed c.number_for-numbered.result.count c.if-not-seen_before.listed in (
      f.on,
      omega (arith, f.some),
      elim c.if-not-seen_before.branch [
        | then-not-seen_before w ↦ ap (λ (s : LentMut). s.words.now) w.state-is ∙ l.invariant.2
        | else-not-seen_before w ↦ ap (λ (s : LentMut). s.words.now) w.state-is ∙ l.invariant.2
      ],
      elim c.if-not-seen_before.branch [
        | then-not-seen_before w ↦
            more false f l.invariant.3 (sym c.seen_before.ensures ∙ w.if-not-seen_before.true) (ap (λ (s : LentMut). s.labels.now) w.state-is ∙ labels) count
            (ap (λ (s : LentMut). s.entries.now) w.state-is ∙ ap (λ (v : ℕ). set l.state.entries.now (832 + l.listed) v) number) w.listed-is
        | else-not-seen_before w ↦
            more true f l.invariant.3 (sym c.seen_before.ensures ∙ w.if-not-seen_before.false) (ap (λ (s : LentMut). s.labels.now) w.state-is ∙ labels) count
            (ap (λ (s : LentMut). s.entries.now) w.state-is) w.listed-is
      ],
      elim c.if-not-seen_before.branch [
        | then-not-seen_before w ↦ rw w.state-is l.invariant.4
        | else-not-seen_before w ↦ rw w.state-is l.invariant.4
      ],
    )

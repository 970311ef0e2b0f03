-- Where the check says done the number names a stored label, and that stands in its place.
use Rattle.std.proofs.Common.{◌*◌, ◌+◌, ◌<◌, ℕ, List, sym, ap, ◌∙◌, length, take, drop, arith, Ok}
use Rattle.store.specs.Layout.{store}
use Rattle.listing.specs.Listing.{label_given}
use Rattle.listing.proofs.Laws.{label-done, label_is, label-refused}
use Rattle.answers.specs.Answers.{part_shown}
use Rattle.balqirven.proofs.Laws.{label-stands}
use Rattle.balqirven.proofs.bq_label.Goals as goal

pub overflow_mul-start : goal.overflow_mul-start
overflow_mul-start c =
    let h = label-done (store c.args.labels.now c.args.entries.now c.args.words.now) c.args.k (sym c.in-Ok.ensures) in
    record { fits = omega (arith, h.1, h.0.counts.labels) }

pub overflow_add-start : goal.overflow_add-start
overflow_add-start c =
    let h = label-done (store c.args.labels.now c.args.entries.now c.args.words.now) c.args.k (sym c.in-Ok.ensures) in
    record { fits = omega (arith, h.1, h.0.counts.labels) }

pub label_at-held-requires : goal.label_at-held-requires
label_at-held-requires c =
    let h = label-done (store c.args.labels.now c.args.entries.now c.args.words.now) c.args.k (sym c.in-Ok.ensures) in
    (h.0.sizes.labels, omega (arith, h.1, h.0.counts.labels))

pub returns-in-Err : goal.returns-in-Err
returns-in-Err c =
    let s = store c.args.labels.now c.args.entries.now c.args.words.now in
    let k = c.args.k in
    let e = sym c.in-Err.ensures in
    record { value = rw c.number.ensures (sym (ap (part_shown k (length (label_given s k))) e)); bytes = label-refused s k _ e }

pub returns-in-Ok : goal.returns-in-Ok
returns-in-Ok c =
    let s = store c.args.labels.now c.args.entries.now c.args.words.now in
    let k = c.args.k in
    let e = sym c.in-Ok.ensures in
    let h = label-done s k e in
    let few : k < 64 = omega (arith, h.1, h.0.counts.labels) in
    let held = c.label_at-held.ensures.bytes ∙ label_is s k h.0 h.1 in
    record {
      value = ap (λ (l : List ℕ). part_shown k (length l) (Ok tt)) held ∙ sym (ap (part_shown k (length (label_given s k))) e);
      bytes =
          ap (λ (l : List ℕ). take (length l) (drop (k * 256 + 1) s.labels)) c.label_at-held.ensures.bytes
          ∙ label-stands s.labels k h.0.sizes.labels few
          ∙ label_is s k h.0 h.1;
    }

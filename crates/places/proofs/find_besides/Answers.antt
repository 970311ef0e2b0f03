-- No place that was passed holds the label.
use Rattle.std.proofs.Common.{ℕ, ◌*◌, ◌≤◌, ◌<◌, ◌≡◌, sym, ap, ◌∙◌, true, get_or, arith}
use Rattle.search.specs.Bytes.{same_bytes}
use Rattle.search.proofs.Laws.{found-at, found_none, same_lengths}
use Rattle.store.specs.Layout.{label_at}
use Rattle.places.proofs.Laws.{held-length, not_held-more}
use Rattle.places.proofs.find_besides.Goals as goal

-- a place holds at most 255 bytes
pub returns-then-label-gt255 : goal.returns-then-label-gt255
returns-then-label-gt255 c =
    let a = c.args in
    sym (found_none (same_bytes a.label.now) (label_at a.labels.now) a.count (λ (k : ℕ) h.
    let byte : get_or a.labels.now (k * 256) 0 ≤ 255 = omega (arith, c.type_inv.labels (k * 256)) in
    let n = held-length a.labels.now k c.requires.0 (omega (arith, c.requires.1)) byte in
    same_lengths a.label.now (label_at a.labels.now k) (λ e. absurd (omega (arith, c.if-label-gt255.true, n, e)))))

pub returns-then-count-k : goal.returns-then-count-k
returns-then-count-k c =
    let a = c.args in
    sym (found_none (same_bytes a.label.now) (label_at a.labels.now) a.count (λ k h.
    not_held-more a.label.now a.labels.now c.loop-i.i c.next_like-k.result c.loop-i.invariant c.next_like-k.ensures.1 k (omega arith) (omega (arith, c.requires.1))))

pub returns-then-same_bytes : goal.returns-then-same_bytes
returns-then-same_bytes c =
    let a = c.args in
    let k = c.next_like-k.result in
    let stored : k < a.count = omega arith in
    let here : same_bytes a.label.now (label_at a.labels.now k) ≡ true = sym (c.same_bytes.ensures ∙ ap (same_bytes a.label.now) c.label_at-held.ensures.bytes) ∙ c.if-same_bytes.true in
    sym (found-at (same_bytes a.label.now) (label_at a.labels.now) a.count k stored (λ j h.
    not_held-more a.label.now a.labels.now c.loop-i.i k c.loop-i.invariant c.next_like-k.ensures.1 j h (omega (arith, c.requires.1, stored, h))) here)

pub returns : goal.returns
returns c =
    let a = c.args in
    sym (found_none (same_bytes a.label.now) (label_at a.labels.now) a.count (λ k h. c.loop-i.invariant k (omega arith)))

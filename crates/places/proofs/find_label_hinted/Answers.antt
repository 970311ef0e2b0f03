-- A place that holds the label and is the first that holds what it holds is the label's; it is one of those that are stored.
use Rattle.std.proofs.Common.{◌<◌, ◌≡◌, sym, ap, ◌∙◌, true, List, ℕ, arith}
use Rattle.search.specs.Bytes.{same_bytes}
use Rattle.search.specs.Search.{first, entries as listed}
use Rattle.search.proofs.Laws.{same-equal}
use Rattle.store.specs.Layout.{label_at}
use Rattle.places.proofs.Laws.{found_below}
use Rattle.places.proofs.find_label_hinted.Goals as goal

pub label_at-hinted-requires : goal.label_at-hinted-requires
label_at-hinted-requires c =
    let a = c.args in
    let k = c.in-Some.k in
    let below : k < a.count = found_below (same_bytes (label_at a.labels.now k)) (label_at a.labels.now) a.count k (c.requires.2 k c.in-Some.is) in
    (c.requires.0, omega arith)

pub returns-then-same_bytes : goal.returns-then-same_bytes
returns-then-same_bytes c =
    let a = c.args in
    let k = c.in-Some.k in
    let here : same_bytes a.label.now (label_at a.labels.now k) ≡ true = sym (c.same_bytes.ensures ∙ ap (same_bytes a.label.now) c.label_at-hinted.ensures.bytes) ∙ c.if-same_bytes.true in
    sym (ap (λ (l : List ℕ). first (same_bytes l) (listed (label_at a.labels.now) a.count)) (same-equal a.label.now (label_at a.labels.now k) here) ∙ c.requires.2 k c.in-Some.is)

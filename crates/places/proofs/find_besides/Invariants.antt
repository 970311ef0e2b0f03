-- No place that was passed holds the label.
use Rattle.std.proofs.Common.{ℕ, ◌<◌, ◌-◌, ◌≡◌, false}
use Rattle.search.specs.Bytes.{same_bytes}
use Rattle.store.specs.Layout.{label_at}
use Rattle.places.proofs.find_besides.Given as goal

abbrev pub invariant-loop-i : goal.invariant-loop-i
invariant-loop-i l = (k : ℕ) → k < l.i → same_bytes l.label (label_at l.labels k) ≡ false

abbrev pub decreases-loop-i : goal.decreases-loop-i
decreases-loop-i l = l.count - l.i

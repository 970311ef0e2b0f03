-- No place passed is like the label.
use Rattle.std.proofs.Common.{ℕ, ◌≤◌, ◌<◌, max}
use Rattle.places.specs.Within.{Unlike}
use Rattle.places.proofs.next_short.Given as goal

abbrev pub invariant-loop-k : goal.invariant-loop-k
invariant-loop-k l = (l.k ≤ max l.from l.count) × ((k : ℕ) → k < l.k → l.from ≤ k → Unlike l.labels k l.n l.last)

-- No place passed has the word.
use Rattle.std.proofs.Common.{◌≤◌, ◌-◌, max}
use Rattle.places.specs.Within.{NoWord}
use Rattle.places.proofs.next_with.Given as goal

abbrev pub invariant-loop-i : goal.invariant-loop-i
invariant-loop-i l = (l.from ≤ l.i) × (l.i ≤ 64) × NoWord l.labels l.offset l.word l.from l.i

abbrev pub decreases-loop-i : goal.decreases-loop-i
decreases-loop-i l = 64 - l.i

abbrev pub invariant-loop-k : goal.invariant-loop-k
invariant-loop-k l = (l.from ≤ l.k) × (l.k ≤ max l.i l.count) × NoWord l.labels l.offset l.word l.from l.k

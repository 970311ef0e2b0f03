-- No number before index i is the label's.
use Rattle.std.proofs.Common.{ℕ, ◌+◌, ◌≡◌, ◌<◌, false, get_or}
use lib.Dec.{eqb}
use Rattle.access.proofs.on_list.Given as goal

abbrev pub invariant-loop-i : goal.invariant-loop-i
invariant-loop-i l = (k : ℕ) → k < l.i → eqb l.s (get_or l.entries (832 + k) 0) ≡ false

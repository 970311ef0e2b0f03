-- No mapping passed names the label.
use Rattle.std.proofs.Common.{ℕ, ◌+◌, ◌<◌, ◌≡◌, false, get_or}
use lib.Dec.{eqb}
use Rattle.places.proofs.find_mapping.Given as goal

abbrev pub invariant-loop-i : goal.invariant-loop-i
invariant-loop-i l = (k : ℕ) → k < l.i → eqb (get_or l.entries (768 + k) 0) l.number ≡ false

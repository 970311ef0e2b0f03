-- After i turns none of the first i rules exceeds the two numbers.
use Rattle.std.proofs.Common.{ℕ, ◌<◌}
use Rattle.damage.specs.Within.{Bounded}
use Rattle.damage.proofs.largest.Given as goal

abbrev pub invariant-loop-i : goal.invariant-loop-i
invariant-loop-i l = (k : ℕ) → k < l.i → Bounded l.entries k l.label l.modes

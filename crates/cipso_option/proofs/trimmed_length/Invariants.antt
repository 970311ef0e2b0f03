-- The bytes behind those left are 0.
use Rattle.std.proofs.Common.{◌≡◌, ◌≤◌, length, take}
use Rattle.cipso_option.specs.Option.{trimmed}
use Rattle.cipso_option.proofs.trimmed_length.Given as goal

abbrev pub invariant-loop-n : goal.invariant-loop-n
invariant-loop-n l = (l.n ≤ length l.bytes) × (trimmed (take l.n l.bytes) ≡ trimmed l.bytes)

abbrev pub decreases-loop-n : goal.decreases-loop-n
decreases-loop-n l = l.n

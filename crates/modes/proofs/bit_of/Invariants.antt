-- With i letters passed, what the letters from i on pick is left to be joined.
use Rattle.std.proofs.Common.{◌≡◌, drop}
use mathlib.Core.List.{foldl}
use Rattle.modes.specs.Modes.{bit_of, letters}
use Rattle.modes.proofs.Laws.{picked}
use Rattle.modes.proofs.bit_of.Given as goal

abbrev pub invariant-loop-entry : goal.invariant-loop-entry
invariant-loop-entry l = foldl (picked l.small) l.bit (drop l.entry-index letters) ≡ bit_of l.b

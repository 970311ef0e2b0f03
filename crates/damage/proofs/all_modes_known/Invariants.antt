-- After i turns `ok` tells of the first i numbers.
use Rattle.std.proofs.Common.{◌≡◌, take}
use Rattle.search.specs.Search.{all}
use Rattle.modes.specs.Modes.{known_modes}
use Rattle.damage.proofs.all_modes_known.Given as goal

abbrev pub invariant-loop-modes : goal.invariant-loop-modes
invariant-loop-modes l = l.ok ≡ all known_modes (take l.modes-index (take l.count l.run))

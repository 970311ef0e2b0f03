-- What is left of the field is read with the modes so far.
use Rattle.std.proofs.Common.{◌≡◌, drop}
use Rattle.modes.specs.Modes.{read_modes}
use Rattle.modes.proofs.Laws.{read_from}
use Rattle.modes.proofs.read_modes.Given as goal

abbrev pub invariant-loop-b : goal.invariant-loop-b
invariant-loop-b l = read_modes l.allowed l.dashes l.field ≡ read_from l.allowed l.dashes l.modes (drop l.b-index l.field)

-- With i places passed, their bytes are written.
use Rattle.std.proofs.Common.{◌≡◌}
use lib.Seq.{paste}
use Rattle.fixed_load.specs.Records.{five_letters, in_places}
use Rattle.fixed_load.proofs.Laws.{place_bit}
use Rattle.fixed_load.proofs.write_access.Given as goal

abbrev pub invariant-loop-i : goal.invariant-loop-i
invariant-loop-i l = (l.bit ≡ place_bit l.i) × (l.out ≡ paste l.initial.out l.at (in_places five_letters l.modes) l.i)

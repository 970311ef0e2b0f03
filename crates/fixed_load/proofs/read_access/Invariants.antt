-- With i places passed, what is left is read with the modes so far.
use Rattle.std.proofs.Common.{◌≡◌, drop}
use Rattle.fixed_load.specs.Records.{five_letters, record_access}
use Rattle.fixed_load.proofs.Laws.{place_bit, own_from}
use Rattle.fixed_load.proofs.read_access.Given as goal

abbrev pub invariant-loop-i : goal.invariant-loop-i
invariant-loop-i l = (l.bit ≡ place_bit l.i) × (record_access l.access ≡ own_from l.modes (drop l.i five_letters) (drop l.i l.access))

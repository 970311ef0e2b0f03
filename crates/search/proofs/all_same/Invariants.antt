-- After i turns the rest decides, where all before it is the same.
use Rattle.std.proofs.Common.{◌≡◌, ◌≤◌, ◌&&◌, length, drop}
use Rattle.search.specs.Bytes.{same_bytes}
use Rattle.search.proofs.all_same.Given as goal

abbrev pub invariant-loop-i : goal.invariant-loop-i
invariant-loop-i l = (l.i ≤ length l.a) × (same_bytes l.a l.b ≡ (l.same && same_bytes (drop l.i l.a) (drop l.i l.b)))

-- After i turns the first i bytes are written.
use Rattle.std.proofs.Common.{◌≡◌}
use lib.Seq.{paste}
use Rattle.search.specs.Search.{entries}
use Rattle.numbers.specs.Categories.{byte_of}
use Rattle.set_bytes.proofs.write_bytes.Given as goal

abbrev pub invariant-loop-i : goal.invariant-loop-i
invariant-loop-i l = l.out ≡ paste l.fn.out l.at (entries (byte_of (record { first = l.first; second = l.second; third = l.third })) l.count) l.i

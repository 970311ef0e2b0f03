-- After i turns `low` tells of the first i bytes from there on.
use Rattle.std.proofs.Common.{◌+◌, ◌≡◌}
use Rattle.alphabet.specs.Within.{label_bytes, high_bit}
use Rattle.alphabet.proofs.lowest_of.Given as goal

abbrev pub invariant-loop-i : goal.invariant-loop-i
invariant-loop-i g l = high_bit l.low ≡ label_bytes l.label l.at (l.at + l.i)

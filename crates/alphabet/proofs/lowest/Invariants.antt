-- After i turns `low` tells of the first i bytes; in the second loop, of the last 32 too.
use Rattle.std.proofs.Common.{◌+◌, ◌-◌, ◌<◌, ◌≡◌, ◌&&◌, length}
use Rattle.alphabet.specs.Within.{label_bytes, high_bit}
use Rattle.alphabet.proofs.lowest.Given as goal

abbrev pub invariant-loop-b : goal.invariant-loop-b
invariant-loop-b l = high_bit l.low ≡ label_bytes l.label 0 l.b-index

abbrev pub invariant-loop-i : goal.invariant-loop-i
invariant-loop-i l =
    (l.i < length l.label) × (high_bit l.low ≡ (label_bytes l.label (length l.label - 32) (length l.label - 32 + 32) && label_bytes l.label 0 l.i))

abbrev pub decreases-loop-i : goal.decreases-loop-i
decreases-loop-i l = length l.label - l.i

-- Behind fields that are labels the place is sought in what is left.
use Rattle.std.proofs.Common.{◌-◌, ◌≤◌, ◌≡◌, length}
use Rattle.alphabet.specs.Alphabet.{bad_byte_in}
use Rattle.alphabet.proofs.Places.{bad_byte_at}
use Rattle.alphabet.proofs.bad_label_in.Given as goal

abbrev pub invariant-loop-start : goal.invariant-loop-start
invariant-loop-start l = (l.at ≤ length l.text) × (bad_byte_in l.text ≡ bad_byte_at l.text l.at)

abbrev pub decreases-loop-start : goal.decreases-loop-start
decreases-loop-start l = length l.text - l.at

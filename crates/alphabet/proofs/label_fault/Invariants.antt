-- After i turns the first i bytes are label bytes.
use Rattle.std.proofs.Common.{length, ◌≡◌, ◌≤◌, ◌<◌, get_or, ℕ, true}
use Rattle.alphabet.specs.Alphabet.{label_byte, label_longest}
use Rattle.alphabet.proofs.label_fault.Given as goal

abbrev pub invariant-loop-i : goal.invariant-loop-i
invariant-loop-i l = (l.i ≤ length l.label) × (l.i ≤ label_longest) × ((k : ℕ) → k < l.i → label_byte (get_or l.label k 0) ≡ true)

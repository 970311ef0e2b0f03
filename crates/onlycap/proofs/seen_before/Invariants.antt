-- No field passed has the label's bytes.
use Rattle.std.proofs.Common.{◌≡◌, false, take}
use Rattle.alphabet.specs.Alphabet.{fields}
use Rattle.onlycap.specs.Within.{appears_in}
use Rattle.onlycap.proofs.Laws.{Passed}
use Rattle.onlycap.proofs.seen_before.Given as goal

abbrev pub invariant-loop : goal.invariant-loop
invariant-loop l = Passed l.text l.at l.counter × (appears_in l.label (take l.counter (fields l.text)) ≡ false)

-- Each field passed is well formed.
use Rattle.std.proofs.Common.{◌-◌, ◌≤◌, ◌≡◌, length, drop}
use Rattle.search.specs.Search.{all}
use Rattle.alphabet.specs.Alphabet.{fields, well_formed}
use Rattle.onlycap.proofs.all_formed.Given as goal

abbrev pub invariant-loop-start : goal.invariant-loop-start
invariant-loop-start l = (l.at ≤ length l.text) × (all well_formed (fields l.text) ≡ all well_formed (fields (drop l.at l.text)))

abbrev pub decreases-loop-start : goal.decreases-loop-start
decreases-loop-start l = length l.text - l.at

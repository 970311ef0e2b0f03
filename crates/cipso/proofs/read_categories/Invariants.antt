-- The fields that are left are read with the set of those before.
use Rattle.std.proofs.Common.{◌≡◌, ◌-◌, length, drop}
use Rattle.alphabet.specs.Alphabet.{fields}
use Rattle.cipso.specs.Cipso.{categories_of}
use Rattle.cipso.proofs.Laws.{categories_from}
use Rattle.cipso.proofs.read_categories.Given as goal

abbrev pub invariant-loop-start : goal.invariant-loop-start
invariant-loop-start l = categories_of (fields (drop l.from l.text)) ≡ categories_from l.set (fields (drop l.at l.text))

abbrev pub decreases-loop-start : goal.decreases-loop-start
decreases-loop-start l = length l.text - l.at

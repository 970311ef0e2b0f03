-- After i turns `ok` tells of the first i words.
use Rattle.std.proofs.Common.{◌≡◌, take}
use Rattle.search.specs.Search.{all}
use Rattle.numbers.specs.Categories.{known_third}
use Rattle.damage.proofs.all_known.Given as goal

abbrev pub invariant-loop-word : goal.invariant-loop-word
invariant-loop-word l = l.ok ≡ all known_third (take l.word-index (take l.count l.run))

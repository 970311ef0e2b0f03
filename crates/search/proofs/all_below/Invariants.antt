-- `ok` tells of the numbers passed.
use Rattle.std.proofs.Common.{ℕ, ◌≡◌, ltb, take}
use Rattle.search.specs.Search.{all}
use Rattle.search.proofs.all_below.Given as goal

abbrev pub invariant-loop-x : goal.invariant-loop-x
invariant-loop-x l = l.ok ≡ all (λ (x : ℕ). ltb x l.limit) (take l.x-index (take l.count l.run))

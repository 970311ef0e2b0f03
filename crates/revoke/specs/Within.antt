-- How the code goes: of the first k rules, those with that subject get no modes. Assumes nothing.
use Rattle.std.specs.Prelude.{ℕ, zero, suc, ◌+◌, cond, List, get_or, set, eqb}
use Rattle.store.specs.Layout.{modes_from}

unfoldable pub cleared : List ℕ → ℕ → ℕ → List ℕ
cleared e n zero = e
cleared e n (suc k) = cond (eqb (get_or e k 0) n) (set (cleared e n k) (modes_from + k) 0) (cleared e n k)

-- What the functions within the crate say of a run: how many records it has, and how many of them are looked at. No public contract names it. Assumes nothing.
use Rattle.std.specs.Prelude.{ℕ, ◌≤◌, ◌<◌, cond}
use Rattle.numbers.specs.declared.CategorySet.{CategorySet}
use Rattle.lookups.specs.Lookups.{sought}

-- all, or none where the level or the set is refused
unfoldable pub searched : ℕ → ℕ → CategorySet → ℕ
searched count level s = cond (sought level s) count 0

-- r is the shortest of three lengths: no longer than any, and not shorter than all
pub record Shortest (a b c r : ℕ) : Type 0 where
  pub first : r ≤ a
  pub second : r ≤ b
  pub third : r ≤ c
  pub one : r < a → r < b → r < c → ⊥

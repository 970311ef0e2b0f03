-- 01: 'the lowest label number whose level and set both match, or none', of a run of records. Assumes nothing.
use Rattle.std.specs.Prelude.{ℕ, ◌≤◌, true, false, ◌≡◌}
use mathlib.Core.List.{List, Memᴰ}
use Rattle.numbers.specs.declared.CategorySet.{CategorySet}
use Rattle.run.specs.declared.Record.{Record}
use Rattle.run.specs.Run.{matches}

-- n is the lowest label of the records that match: one of them has it, and none has a lower one
pub record LowestInRun (run : List Record) (level : ℕ) (s : CategorySet) (n : ℕ) : Type 0 where
  pub found : (r : Record) × Memᴰ r run × (matches level s r ≡ true) × (r.label ≡ n)
  pub least : (r : Record) → Memᴰ r run → matches level s r ≡ true → n ≤ r.label

-- none of the records matches
abbrev pub Unmatched : List Record → ℕ → CategorySet → Type 0
Unmatched run level s = (r : Record) → Memᴰ r run → matches level s r ≡ false

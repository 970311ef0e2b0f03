-- 01, the paragraph after the single writes, and 02, Four: a lent run of records, each a label number, a level and a set, of any length and content,
-- searched for the lowest label number whose level and set both match, or none. Refusal 9 comes first. That the best of a run is the lowest of
-- those that match is shown: specs/Lowest.antt. Assumes nothing.
use Rattle.std.specs.Prelude.{ℕ, Bool, cond, ◌&&◌, eqb, ltb, Option, Some, None, Result, Ok, Err}
use mathlib.Core.List.{List, [], ◌∷◌, foldl}
use Rattle.refusals.specs.Refusals.{bad_level_or_category}
use Rattle.numbers.specs.Categories.{same_set}
use Rattle.numbers.specs.declared.CategorySet.{CategorySet}
use Rattle.lookups.specs.Lookups.{sought}
use Rattle.refusals.specs.declared.Refusal.{Refusal}
use Rattle.run.specs.declared.Record.{Record}

-- a record's level and set both match. (A record whose set has a bit that is no category matches no set that can be searched for.)
abbrev pub matches : ℕ → CategorySet → Record → Bool
matches level s r = eqb r.level level && same_set r.set s

-- the lower of a label number and the best so far
abbrev pub lower_label : ℕ → Option ℕ → Option ℕ
lower_label n (Some k) = Some (cond (ltb n k) n k)
lower_label n None = Some n

-- the best so far and one record more
unfoldable pub lower_of : ℕ → CategorySet → Option ℕ → Record → Option ℕ
lower_of level s b r = cond (matches level s r) (lower_label r.label b) b

-- the best of a run
unfoldable pub lowest_of : List Record → ℕ → CategorySet → Option ℕ
lowest_of run level s = foldl (lower_of level s) None run

-- ---- the search

-- 9 the level is over 255, or the set has a bit that is no category; then the best of the run
unfoldable pub settled_of : Option ℕ → ℕ → CategorySet → Result (Option ℕ) Refusal
settled_of b level s = cond (sought level s) (Ok b) (Err bad_level_or_category)

-- the search of a run
unfoldable pub run_of : List Record → ℕ → CategorySet → Result (Option ℕ) Refusal
run_of run level s = settled_of (lowest_of run level s) level s

-- the run whose fields stand in three lists, a set as its three words one after another: as many records as the shortest has room for
unfoldable pub records_of : List ℕ → List ℕ → List ℕ → List Record
records_of [] levels words = []
records_of (a ∷ labels) [] words = []
records_of (a ∷ labels) (b ∷ levels) [] = []
records_of (a ∷ labels) (b ∷ levels) (x ∷ []) = []
records_of (a ∷ labels) (b ∷ levels) (x ∷ y ∷ []) = []
records_of (a ∷ labels) (b ∷ levels) (x ∷ y ∷ z ∷ words) = record { label = a; level = b; set = record { first = x; second = y; third = z } } ∷ records_of labels levels words

-- The search of a run: what it answers is what 01 and 02, Four, say of the records, of a run of any length and content. Assumes nothing.
use Rattle.std.specs.Prelude.{ℕ, ◌+◌, ◌*◌, ◌<◌, ◌≤◌, true, false, ◌≡◌, ◌↔◌, List, length, get_or, Some, None, Ok, Err}
use Rattle.refusals.specs.Refusals.{bad_level_or_category}
use Rattle.refusals.specs.declared.Refusal.{Refusal}
use Rattle.numbers.specs.Categories.{has_category}
use Rattle.numbers.specs.declared.CategorySet.{CategorySet}
use Rattle.run.specs.declared.Record.{Record}
use Rattle.run.specs.Lowest.{LowestInRun, Unmatched}
use Rattle.lookups.specs.Lookups.{sought}
use Rattle.run.specs.Run.{matches, run_of, records_of}

pub record SearchesTheRun : Type 0 where
  -- a number that is answered is the lowest of those whose level and set both match
  pub found : (run : List Record) (level : ℕ) (set : CategorySet) (n : ℕ) → run_of run level set ≡ Ok (Some n) → LowestInRun run level set n
  -- none is answered exactly where none matches
  pub none : (run : List Record) (level : ℕ) (set : CategorySet) → run_of run level set ≡ Ok None → Unmatched run level set
  pub unmatched : (run : List Record) (level : ℕ) (set : CategorySet) → sought level set ≡ true → Unmatched run level set → run_of run level set ≡ Ok None
  -- a level and a set can be searched for, in the table or in a run, exactly where the level is 0 to 255 and the set has no bit behind category 184
  pub searchable : (level : ℕ) (set : CategorySet) → (sought level set ≡ true) ↔ ((level ≤ 255) × ((k : ℕ) → 184 < k → k ≤ 192 → has_category set k ≡ false))
  -- 9 is answered exactly where the level or the set cannot be searched for
  pub refused : (run : List Record) (level : ℕ) (set : CategorySet) → sought level set ≡ false → run_of run level set ≡ Err bad_level_or_category
  pub only_9 : (run : List Record) (level : ℕ) (set : CategorySet) (why : Refusal) → run_of run level set ≡ Err why → (why ≡ bad_level_or_category) × (sought level set ≡ false)
  -- a record whose set has a bit that is no category matches nothing that can be searched for
  pub no_set :
      (r : Record) (level : ℕ) (set : CategorySet) →
      sought level set ≡ true →
      (k : ℕ) → 184 < k → k ≤ 192 → has_category r.set k ≡ true → matches level set r ≡ false
  -- a run whose fields stand in three slices, a set as its three words, has record i exactly where each has room for it; that record has element i of
  -- the first two, and the three words from 3 i on
  pub as_many :
      (labels levels words : List ℕ) (i : ℕ) →
      (i < length (records_of labels levels words)) ↔ ((i < length labels) × (i < length levels) × (i * 3 + 2 < length words))
  pub each :
      (labels levels words : List ℕ) (i : ℕ) (d : Record) →
      i < length (records_of labels levels words) →
      get_or (records_of labels levels words) i d
      ≡ record {
        label = get_or labels i 0;
        level = get_or levels i 0;
        set = record { first = get_or words (i * 3) 0; second = get_or words (i * 3 + 1) 0; third = get_or words (i * 3 + 2) 0 };
      }

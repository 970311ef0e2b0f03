-- 01, Single writes, the paragraph after them, and 02, Four: a mapping looked up by label, and by level and set. Refusals 0, 3 and 9. Assumes nothing.
use Rattle.std.specs.Prelude.{ℕ, Bool, false, cond, ◌&&◌, List, length, get_or, eqb, Option, Some, None, Result, Ok, Err}
use Rattle.search.specs.Search.{first, entries}
use Rattle.refusals.specs.Refusals.{damaged, bad_label_at, bad_level_or_category}
use Rattle.alphabet.specs.Alphabet.{well_formed, bad_byte}
use Rattle.numbers.specs.Categories.{is_level, categories, no_categories, same_set, known_set}
use Rattle.numbers.specs.declared.CategorySet.{CategorySet}
use Rattle.store.specs.declared.Mapping.{Mapping}
use Rattle.store.specs.Table.{Table, label_in, label_numbered, mapping_in}
use Rattle.store.specs.Layout.{Store, table_of, undamaged_of}
use Rattle.refusals.specs.declared.Refusal.{Refusal}
use Rattle.lookups.specs.declared.Cipso.{Cipso}

-- ---- looked up by label: level, set and how many categories are in the set; an unmapped label gives none

-- a level, a set, and how many categories are in that
abbrev pub mapped : ℕ → CategorySet → ℕ → Result (Option Cipso) Refusal
mapped level s count = Ok (Some (record { level = level; set = s; count = count }))

-- of a mapping
abbrev pub mapped_as : Mapping → Result (Option Cipso) Refusal
mapped_as m = mapped m.level m.set (length (categories m.set))

-- the mapping at a place
abbrev pub looked_up : List Mapping → Option ℕ → Result (Option Cipso) Refusal
looked_up ms (Some k) = mapped_as (get_or ms k (record { label = 0; level = 0; set = no_categories }))
looked_up ms None = Ok None

-- by the label's first number; a label that is not in the table is unmapped
abbrev pub lookup_by : Table → Option ℕ → Result (Option Cipso) Refusal
lookup_by t (Some n) = looked_up t.mappings (mapping_in t n)
lookup_by t None = Ok None

-- 3 the label is not well formed, with the place of its first bad byte
unfoldable pub label_lookup : Table → List ℕ → Result (Option Cipso) Refusal
label_lookup t l = cond (well_formed l) (lookup_by t (label_in t l)) (Err (bad_label_at (bad_byte l)))

-- of a lent state: 0 before every other where it is damaged
unfoldable pub by_label_of : Store → List ℕ → Result (Option Cipso) Refusal
by_label_of st l = cond (undamaged_of st) (label_lookup (table_of st) l) (Err damaged)

-- ---- looked up by level and set: the lowest-numbered label whose both are equal, or none

-- a level and a set that can be looked up: the level is 0 to 255, and the set has no bit that is no category
unfoldable pub sought : ℕ → CategorySet → Bool
sought level s = is_level level && known_set s

-- a mapping has this level and this set
abbrev pub both_equal : ℕ → CategorySet → Mapping → Bool
both_equal level s m = eqb m.level level && same_set m.set s

-- the mapping at a place has both
abbrev pub mapped_to : ℕ → CategorySet → List Mapping → Option ℕ → Bool
mapped_to level s ms (Some k) = both_equal level s (get_or ms k (record { label = 0; level = 0; set = no_categories }))
mapped_to level s ms None = false

-- n is the number that a search found
abbrev pub found_at : ℕ → Option ℕ → Bool
found_at n (Some k) = eqb k n
found_at n None = false

-- label number n counts by its first mapping, and only if n is the first number of its label
unfoldable pub has_both : Table → ℕ → CategorySet → ℕ → Bool
has_both t level s n = mapped_to level s t.mappings (mapping_in t n) && found_at n (label_in t (label_numbered t n))

-- the first of the numbers 0, 1, .. of the labels that has both; 9 a level or a set that cannot be looked up
unfoldable pub level_lookup : Table → ℕ → CategorySet → Result (Option ℕ) Refusal
level_lookup t level s =
    cond (sought level s)
    (Ok (first (has_both t level s) (entries (λ (n : ℕ). n) (length t.labels))))
    (Err bad_level_or_category)

-- of a lent state: 0 before every other where it is damaged
unfoldable pub by_level_of : Store → ℕ → CategorySet → Result (Option ℕ) Refusal
by_level_of st level s = cond (undamaged_of st) (level_lookup (table_of st) level s) (Err damaged)

-- 01, Single writes, Mapping, and 02, Four and Five: what a mapping write says, by its fields and without `categories_of` and `said_by`. Assumes nothing.
use Rattle.std.specs.Prelude.{ℕ, ◌<◌, ◌≤◌, true, ◌≡◌, ◌↔◌, List, [], ◌∷◌, length, get_or, Some}
use Rattle.alphabet.specs.Alphabet.{well_formed, fields}
use Rattle.numbers.specs.Numbers.{number_of}
use Rattle.numbers.specs.Categories.{is_mapping_level, is_category, has_category, known_set, InWords}
use Rattle.numbers.specs.declared.CategorySet.{CategorySet}
use Rattle.cipso.specs.Cipso.{mapping_longest}

-- one of these fields is the number k
abbrev pub OneIs : List (List ℕ) → ℕ → Type 0
OneIs fs k = (j : ℕ) × (j < length fs) × (number_of (get_or fs j []) ≡ Some k)

-- 01: label, level (02, Five: not 250), then no or more categories. The set has those categories that are written, repeats or not, and no other bit
pub record MappingText (text l : List ℕ) (level : ℕ) (set : CategorySet) : Type 0 where
  pub short : length text ≤ mapping_longest
  pub level_field : List ℕ
  pub category_fields : List (List ℕ)
  pub parts : fields text ≡ l ∷ level_field ∷ category_fields
  pub label : well_formed l ≡ true
  pub number : number_of level_field ≡ Some level
  pub mapping_level : is_mapping_level level ≡ true
  pub categories : (j : ℕ) → j < length category_fields → (k : ℕ) × (number_of (get_or category_fields j []) ≡ Some k) × (is_category k ≡ true)
  pub has : (k : ℕ) → is_category k ≡ true → (has_category set k ≡ true) ↔ OneIs category_fields k
  pub known : known_set set ≡ true
  pub words : InWords set

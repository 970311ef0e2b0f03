-- 01: the tables as they are spoken of, with no word of how they lie in memory: labels, rules, mappings and the onlycap list (01: the
-- override list), in order. Assumes nothing.
use Rattle.std.specs.Prelude.{ℕ, ◌<◌, Bool, false, ◌&&◌, List, [], ◌∷◌, ◌++◌, ◌↔◌, ◌≡◌, length, get_or, eqb, ltb, leb, Option, Some, None}
use Rattle.modes.specs.Modes.{known_modes}
use Rattle.numbers.specs.Categories.{no_categories, known_set}
use Rattle.search.specs.Search.{first, all, place_of}
use Rattle.search.specs.Bytes.{ascii, same_bytes}
use Rattle.store.specs.declared.Rule.{Rule}
use Rattle.store.specs.declared.Mapping.{Mapping}

-- labels by number; rules and mappings name labels by number; the onlycap list is of label numbers
pub record Table : Type 0 where
  pub labels : List (List ℕ)
  pub rules : List Rule
  pub mappings : List Mapping
  pub onlycap : List ℕ

-- a table with other labels, rules, mappings or onlycap list
abbrev pub with_labels : Table → List (List ℕ) → Table
with_labels t ls = record { labels = ls; rules = t.rules; mappings = t.mappings; onlycap = t.onlycap }

abbrev pub with_rules : Table → List Rule → Table
with_rules t rs = record { labels = t.labels; rules = rs; mappings = t.mappings; onlycap = t.onlycap }

abbrev pub with_mappings : Table → List Mapping → Table
with_mappings t ms = record { labels = t.labels; rules = t.rules; mappings = ms; onlycap = t.onlycap }

abbrev pub with_onlycap : Table → List ℕ → Table
with_onlycap t ns = record { labels = t.labels; rules = t.rules; mappings = t.mappings; onlycap = ns }

-- the labels that have numbers 0 to 4 in every table grown from a fresh one: _ ^ * ? @
abbrev pub floor : List ℕ
floor = ascii "_"

abbrev pub hat : List ℕ
hat = ascii "^"

abbrev pub star : List ℕ
star = ascii "*"

abbrev pub huh : List ℕ
huh = ascii "?"

abbrev pub web : List ℕ
web = ascii "@"

-- a fresh table has the five labels alone
abbrev pub fresh : Table
fresh =
    record {
      labels = floor ∷ hat ∷ star ∷ huh ∷ web ∷ [];
      rules = [];
      mappings = [];
      onlycap = [];
    }

-- the limits: 64 labels, 256 rules, 32 mappings, 8 onlycap labels
abbrev pub label_limit : ℕ
label_limit = 64

abbrev pub rule_limit : ℕ
rule_limit = 256

abbrev pub mapping_limit : ℕ
mapping_limit = 32

abbrev pub onlycap_limit : ℕ
onlycap_limit = 8

-- the number of a label: the first that has its bytes
abbrev pub label_in : Table → List ℕ → Option ℕ
label_in t l = first (same_bytes l) t.labels

-- the number that a label has among some that hold it: the first that has its bytes
abbrev pub number_in : List (List ℕ) → List ℕ → ℕ
number_in ls l = place_of (first (same_bytes l) ls) 0

-- a label enters: it goes last, where a search has not found it
abbrev pub labels_entered : Option ℕ → List (List ℕ) → List ℕ → List (List ℕ)
labels_entered (Some i) ls l = ls
labels_entered None ls l = ls ++ (l ∷ [])

abbrev pub enter : List (List ℕ) → List ℕ → List (List ℕ)
enter ls l = labels_entered (first (same_bytes l) ls) ls l

-- whether an entry that was sought has no place: it is not among n entries, and there may be no more
abbrev pub no_place : Option ℕ → ℕ → ℕ → Bool
no_place (Some i) n limit = false
no_place None n limit = leb limit n

-- the rule of a pair of label numbers: the first that names both
unfoldable pub is_pair : ℕ → ℕ → Rule → Bool
is_pair s o r = eqb r.subject s && eqb r.object o

abbrev pub pair_in : Table → ℕ → ℕ → Option ℕ
pair_in t s o = first (is_pair s o) t.rules

-- whether a mapping is that of label number n
unfoldable pub names : ℕ → Mapping → Bool
names n m = eqb m.label n

-- the mapping of label number n: the first that names it
abbrev pub mapping_in : Table → ℕ → Option ℕ
mapping_in t n = first (names n) t.mappings

-- label k, rule k and mapping k, from 0, in table order
abbrev pub label_numbered : Table → ℕ → List ℕ
label_numbered t k = get_or t.labels k []

abbrev pub rule_numbered : Table → ℕ → Rule
rule_numbered t k = get_or t.rules k (record { subject = 0; object = 0; modes = 0 })

abbrev pub mapping_numbered : Table → ℕ → Mapping
mapping_numbered t k = get_or t.mappings k (record { label = 0; level = 0; set = no_categories })

-- 01: 'the first counts, and a label means its first number'. A search finds number k exactly where k is stored and is what was sought, and no
-- earlier number is
pub record FirstCounts (t : Table) : Type 0 where
  pub label :
      (l : List ℕ) (k : ℕ) →
      (label_in t l ≡ Some k) ↔ ((k < length t.labels) × (label_numbered t k ≡ l) × ((j : ℕ) → j < k → label_numbered t j ≡ l → ⊥))
  pub pair :
      (s o k : ℕ) →
      (pair_in t s o ≡ Some k) ↔ (
      (k < length t.rules) × ((rule_numbered t k).subject ≡ s) × ((rule_numbered t k).object ≡ o)
      × ((j : ℕ) → j < k → (rule_numbered t j).subject ≡ s → (rule_numbered t j).object ≡ o → ⊥))
  pub mapping :
      (n k : ℕ) →
      (mapping_in t n ≡ Some k) ↔ ((k < length t.mappings) × ((mapping_numbered t k).label ≡ n) × ((j : ℕ) → j < k → (mapping_numbered t j).label ≡ n → ⊥))

-- ---- refusal 0, of what is stored: each number names a stored label (of which there are n), no unknown mode bit (02, Six: 1, which stored b, is
-- one), no unknown category bit

unfoldable pub sound_rule : ℕ → Rule → Bool
sound_rule n r = (ltb r.subject n && ltb r.object n) && known_modes r.modes

unfoldable pub sound_mapping : ℕ → Mapping → Bool
sound_mapping n m = ltb m.label n && known_set m.set

unfoldable pub sound_table : ℕ → Table → Bool
unfolding sound_rule sound_mapping
sound_table n t = (all (sound_rule n) t.rules && all (sound_mapping n) t.mappings) && all (λ (k : ℕ). ltb k n) t.onlycap

-- How the tables lie in the three lent slices, and when a lent state is damaged (01, refusal 0). Assumes nothing.
--   labels   64 places of 256 bytes: a label's length, its bytes, and bytes that mean nothing
--   entries  the rules' subjects from 0, their objects from 256, their modes from 512; the mappings' labels from 768, their levels from 800;
--            the onlycap list from 832 to 840
--   words    the counts of labels, rules, mappings and onlycap labels; the mappings' category sets: their first words from 4, their second from 36,
--            their third from 68 to 100
-- What stands at or past a count means nothing, and no answer depends on it. (A search or a test may read it, in a block of places.)
use Rattle.std.specs.Prelude.{ℕ, ◌+◌, ◌*◌, Bool, ◌&&◌, ◌≡◌, List, [], ◌∷◌, length, take, drop, get_or, eqb, leb}
use Rattle.search.specs.Search.{entries}
use Rattle.numbers.specs.declared.CategorySet.{CategorySet}
use Rattle.store.specs.declared.Rule.{Rule}
use Rattle.store.specs.declared.Mapping.{Mapping}
use Rattle.store.specs.Table.{Table, sound_table, label_limit, rule_limit, mapping_limit, onlycap_limit}

-- the three lent slices
pub record Store : Type 0 where
  pub labels : List ℕ
  pub entries : List ℕ
  pub words : List ℕ

abbrev pub store : List ℕ → List ℕ → List ℕ → Store
store l e w = record { labels = l; entries = e; words = w }

-- the full size of each slice and of a label's place, and where each run of entries, and of the sets' words, begins
abbrev pub labels_size : ℕ
labels_size = 16384

abbrev pub entries_size : ℕ
entries_size = 840

abbrev pub words_size : ℕ
words_size = 100

abbrev pub place_size : ℕ
place_size = 256

abbrev pub objects_from : ℕ
objects_from = 256

abbrev pub modes_from : ℕ
modes_from = 512

abbrev pub mapped_from : ℕ
mapped_from = 768

abbrev pub levels_from : ℕ
levels_from = 800

abbrev pub onlycap_from : ℕ
onlycap_from = 832

abbrev pub firsts_from : ℕ
firsts_from = 4

abbrev pub seconds_from : ℕ
seconds_from = 36

abbrev pub thirds_from : ℕ
thirds_from = 68

-- the label that a place holds: its length, and then its bytes
abbrev pub held : List ℕ → List ℕ
held [] = []
held (n ∷ bytes) = take n bytes

unfoldable pub label_at : List ℕ → ℕ → List ℕ
label_at labels k = held (take place_size (drop (k * place_size) labels))

unfoldable pub rule_at : List ℕ → ℕ → Rule
rule_at e k = record { subject = get_or e k 0; object = get_or e (objects_from + k) 0; modes = get_or e (modes_from + k) 0 }

-- the set of mapping k, from the three runs of words
abbrev pub set_at : List ℕ → ℕ → CategorySet
set_at w k = record { first = get_or w (firsts_from + k) 0; second = get_or w (seconds_from + k) 0; third = get_or w (thirds_from + k) 0 }

unfoldable pub mapping_at : List ℕ → List ℕ → ℕ → Mapping
mapping_at e w k = record { label = get_or e (mapped_from + k) 0; level = get_or e (levels_from + k) 0; set = set_at w k }

unfoldable pub onlycap_at : List ℕ → ℕ → ℕ
onlycap_at e k = get_or e (onlycap_from + k) 0

-- the tables that a store holds
abbrev pub table_of : Store → Table
table_of s =
    record {
      labels = entries (label_at s.labels) (get_or s.words 0 0);
      rules = entries (rule_at s.entries) (get_or s.words 1 0);
      mappings = entries (mapping_at s.entries s.words) (get_or s.words 2 0);
      onlycap = entries (onlycap_at s.entries) (get_or s.words 3 0);
    }

-- the tables' part of refusal 0, which is given when this is false (a call that takes a loader tests that too): each part has its full size,
-- no count is over its limit, and what is stored is sound. (A label's length is a byte, so none is over 255.)
unfoldable pub undamaged_of : Store → Bool
undamaged_of s =
    eqb (length s.labels) labels_size
    && (eqb (length s.entries) entries_size
    && (eqb (length s.words) words_size
    && (leb (get_or s.words 0 0) label_limit
    && (leb (get_or s.words 1 0) rule_limit
    && (leb (get_or s.words 2 0) mapping_limit
    && (leb (get_or s.words 3 0) onlycap_limit
    && sound_table (get_or s.words 0 0) (table_of s)))))))

-- whether each part of lent memory has its full size
abbrev pub full_sizes : Store → Bool
full_sizes s = eqb (length s.labels) labels_size && (eqb (length s.entries) entries_size && eqb (length s.words) words_size)

-- the same, as a fact
pub record Sizes (l e w : List ℕ) : Type 0 where
  pub labels : length l ≡ labels_size
  pub entries : length e ≡ entries_size
  pub words : length w ≡ words_size

-- What holds of every table grown from a fresh one. Of a lent state it need not hold: that can have a label, a pair or a mapping twice, a
-- rule from a label to itself, or a mapping at level 250. Assumes nothing.
use Rattle.std.specs.Prelude.{ℕ, ◌<◌, ◌≤◌, Bool, true, not, ◌≡◌, length, take, eqb, Some}
use Rattle.search.specs.Search.{all}
use Rattle.alphabet.specs.Alphabet.{well_formed}
use Rattle.numbers.specs.Categories.{is_mapping_level, InWords}
use Rattle.store.specs.declared.Rule.{Rule}
use Rattle.store.specs.declared.Mapping.{Mapping}
use Rattle.store.specs.Table.{Table, fresh, label_in, pair_in, label_numbered, rule_numbered, mapping_numbered, sound_table, label_limit, rule_limit, mapping_limit, onlycap_limit, mapping_in}

-- every label is well formed, and none is there twice: each is found at its own number
pub record LabelsOnce (t : Table) : Type 0 where
  pub formed : all well_formed t.labels ≡ true
  pub label_once : (k : ℕ) → k < length t.labels → label_in t (label_numbered t k) ≡ Some k

-- 02, Five: whether a mapping's level is one that a write may give, which 250 is not
abbrev pub at_mapping_level : Mapping → Bool
at_mapping_level m = is_mapping_level m.level

-- whether a rule's subject is not its object
abbrev pub two_labels : Rule → Bool
two_labels r = not (eqb r.subject r.object)

pub record Sane (t : Table) : Type 0 where
  -- numbers 0 to 4 are _ ^ * ? @
  pub five : take 5 t.labels ≡ fresh.labels
  pub labels_once : LabelsOnce t
  -- no rule is from a label to itself, and no pair has two rules: each is found at its own place
  pub two_labels_is : all two_labels t.rules ≡ true
  pub pair_once : (k : ℕ) → k < length t.rules → pair_in t (rule_numbered t k).subject (rule_numbered t k).object ≡ Some k
  -- every number names a stored label, and no mode or category bit is unknown
  pub sound : sound_table (length t.labels) t ≡ true
  -- no label has two mappings: each mapping is found at its own place
  pub mapping_once : (k : ℕ) → k < length t.mappings → mapping_in t (mapping_numbered t k).label ≡ Some k
  -- every mapping's level is 0 to 255 and not 250
  pub levels : all at_mapping_level t.mappings ≡ true
  -- every set is three words of 64 bits
  pub in_words : (k : ℕ) → k < length t.mappings → InWords (mapping_numbered t k).set
  -- at most 64 labels, 256 rules, 32 mappings and 8 labels in the onlycap list
  pub labels : length t.labels ≤ label_limit
  pub rules : length t.rules ≤ rule_limit
  pub mappings : length t.mappings ≤ mapping_limit
  pub onlycap : length t.onlycap ≤ onlycap_limit

-- What the code writes into the lent slices, and what it knows of a tested store. Nobody has to believe this: contracts inside the library cite it.
-- Assumes nothing.
use Rattle.std.specs.Prelude.{ℕ, ◌+◌, ◌*◌, ◌≤◌, List, ◌∷◌, length, get_or, set, Option, Some, None}
use Rattle.search.specs.Bytes.{written}
use Rattle.store.specs.declared.Rule.{Rule}
use Rattle.store.specs.declared.Mapping.{Mapping}
use Rattle.store.specs.Table.{floor, hat, star, huh, web, label_limit, rule_limit, mapping_limit, onlycap_limit}
use Rattle.store.specs.Layout.{objects_from, modes_from, mapped_from, levels_from, firsts_from, seconds_from, thirds_from, place_size}

-- a label written into place k, and a rule: nothing else changes
unfoldable pub with_label : List ℕ → ℕ → List ℕ → List ℕ
with_label labels k l = written labels (k * place_size) (length l ∷ l)

unfoldable pub with_rule : List ℕ → ℕ → Rule → List ℕ
with_rule e k r = set (set (set e k r.subject) (objects_from + k) r.object) (modes_from + k) r.modes

-- a label that a search has not found written into the next place
abbrev pub entered : Option ℕ → List ℕ → ℕ → List ℕ → List ℕ
entered (Some i) labels n l = labels
entered None labels n l = with_label labels n l

-- a mapping's label and level written into place k
unfoldable pub with_numbers : List ℕ → ℕ → Mapping → List ℕ
with_numbers e k m = set (set e (mapped_from + k) m.label) (levels_from + k) m.level

-- its set written into place k: each word into its own run
unfoldable pub with_words : List ℕ → ℕ → Mapping → List ℕ
with_words w k m = set (set (set w (firsts_from + k) m.set.first) (seconds_from + k) m.set.second) (thirds_from + k) m.set.third

-- a fresh table: the five labels are written and the counts set, and nothing else changes
unfoldable pub fresh_labels : List ℕ → List ℕ
fresh_labels l = with_label (with_label (with_label (with_label (with_label l 0 floor) 1 hat) 2 star) 3 huh) 4 web

unfoldable pub fresh_words : List ℕ → List ℕ
fresh_words w = set (set (set (set w 0 5) 1 0) 2 0) 3 0

-- no count is over its limit
pub record Counts (w : List ℕ) : Type 0 where
  pub labels : get_or w 0 0 ≤ label_limit
  pub rules : get_or w 1 0 ≤ rule_limit
  pub mappings : get_or w 2 0 ≤ mapping_limit
  pub onlycap : get_or w 3 0 ≤ onlycap_limit

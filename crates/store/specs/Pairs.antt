-- 01, Questions, rule 6, and Single writes, Change: the rule of a pair of labels, and its modes. Assumes nothing.
use Rattle.std.specs.Prelude.{ℕ, List, get_or, Option, Some, None}
use Rattle.store.specs.declared.Rule.{Rule}
use Rattle.store.specs.Table.{Table, label_in, pair_in}

-- where the rule of a pair stands, by the numbers of its labels; a label that is not in the table has no rules
abbrev pub rule_between : Table → Option ℕ → Option ℕ → Option ℕ
rule_between t (Some i) (Some j) = pair_in t i j
rule_between t (Some i) None = None
rule_between t None o = None

-- the modes of a pair: those of its rule, or that it has none
pub data PairModes : Type 0 where
  has_modes : ℕ → PairModes
  no_rule : PairModes

abbrev pub modes_found : List Rule → Option ℕ → PairModes
modes_found rules (Some k) = has_modes (get_or rules k (record { subject = 0; object = 0; modes = 0 })).modes
modes_found rules None = no_rule

-- of two labels in a table: each by its first number, and the first rule that names both
unfoldable pub modes_between : Table → List ℕ → List ℕ → PairModes
modes_between t s o = modes_found t.rules (rule_between t (label_in t s) (label_in t o))

-- the modes of the pair's rule, or none; a change starts from these
abbrev pub modes_or_none : PairModes → ℕ
modes_or_none (has_modes m) = m
modes_or_none no_rule = 0

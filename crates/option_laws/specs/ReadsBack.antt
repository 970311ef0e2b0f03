-- 02, Five: 'With one table, grown from a fresh one, reading what was written gives the label back, unless a lower-numbered label has the same mapping.'
-- Assumes nothing.
use Rattle.std.specs.Prelude.{ℕ, ◌<◌, ◌≡◌, List, Some, None, Ok}
use Rattle.numbers.specs.declared.CategorySet.{CategorySet}
use Rattle.store.specs.Table.{label_in, label_numbered}
use Rattle.store.specs.Layout.{Store, table_of}
use Rattle.lookups.specs.Lookups as lookups
use Rattle.lookups.specs.Lookups.{label_lookup}
use Rattle.cipso_option.specs.Option.{label, peer_given}
use Rattle.effects.specs.OverrideAndLookUp.{HasBoth}

-- what the reader answers to the option of a label l, in the state in which it was written
pub record ReadsBack (st : Store) (l option : List ℕ) : Type 0 where
  -- an unmapped label is given back
  pub unmapped : label_lookup (table_of st) l ≡ Ok None → peer_given st option ≡ label l
  -- so is a mapped one, where no lower-numbered label has the same mapping
  pub mapped :
      (level : ℕ) (set : CategorySet) (count k : ℕ) →
      label_lookup (table_of st) l ≡ lookups.mapped level set count →
      label_in (table_of st) l ≡ Some k →
      ((n : ℕ) → n < k → HasBoth (table_of st) level set n → ⊥) →
      peer_given st option ≡ label l
  -- and where one has, the lowest-numbered of these is given
  pub lower :
      (level : ℕ) (set : CategorySet) (count k n : ℕ) →
      label_lookup (table_of st) l ≡ lookups.mapped level set count →
      label_in (table_of st) l ≡ Some k →
      n < k →
      HasBoth (table_of st) level set n →
      ((j : ℕ) → j < n → HasBoth (table_of st) level set j → ⊥) →
      peer_given st option ≡ label (label_numbered (table_of st) n)

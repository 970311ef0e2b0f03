-- 02, Five: 'A mapped label uses its mapping. An unmapped label of at most 23 bytes goes at level 250 as its own bits [..] At level 250 the reader rebuilds the
-- label': of every table, grown or lent, what is written for a label, and which label is read. (Which refusal is given stands in faults/specs/Faults.) Assumes
-- nothing.
use Rattle.std.specs.Prelude.{ℕ, ◌+◌, ◌*◌, ◌<◌, ◌≤◌, ◌≡◌, List, length, get_or, drop, Some, None, Ok}
use Rattle.numbers.specs.declared.CategorySet.{CategorySet}
use Rattle.set_bytes.specs.SetBytes.{bit_at, set_of_bitmap, set_of_own}
use Rattle.output.specs.Output.{text}
use Rattle.store.specs.Table.{Table, label_numbered}
use Rattle.lookups.specs.Lookups as lookups
use Rattle.lookups.specs.Lookups.{label_lookup, level_lookup}
use Rattle.cipso_option.specs.Option.{option_of, label_option, label, peer_of}

-- a label that an option at level 250 says: bit j, from the top, of byte i is category 8i+j+1 of the bitmap, and there are at most 23 bytes
pub record OwnBits (bitmap l : List ℕ) : Type 0 where
  pub short : length l ≤ 23
  pub bits : (i j : ℕ) → i < 23 → j < 8 → bit_at l (8 * i + j) ≡ bit_at bitmap (8 * i + j + 1)

-- a label that an option at another level says: the one that the look-up by level and set finds, by its stored bytes
pub record FoundLabel (t : Table) (level : ℕ) (set : CategorySet) (l : List ℕ) : Type 0 where
  pub number : ℕ
  pub lowest : level_lookup t level set ≡ Ok (Some number)
  pub stored : l ≡ label_numbered t number

pub record OptionSays (t : Table) : Type 0 where
  -- written for a label
  pub mapped :
      (l : List ℕ) (level : ℕ) (set : CategorySet) (count : ℕ) →
      label_lookup t l ≡ lookups.mapped level set count →
      label_option t l ≡ text (option_of level set)
  pub unmapped : (l : List ℕ) → label_lookup t l ≡ Ok None → length l ≤ 23 → label_option t l ≡ text (option_of 250 (set_of_own l))
  -- read: byte 9 is the level, and the bitmap stands behind it
  pub own : (option l : List ℕ) → get_or option 9 0 ≡ 250 → peer_of t option ≡ label l → OwnBits (drop 10 option) l
  pub other :
      (option l : List ℕ) →
      (get_or option 9 0 ≡ 250 → ⊥) →
      peer_of t option ≡ label l →
      FoundLabel t (get_or option 9 0) (set_of_bitmap (drop 10 option)) l

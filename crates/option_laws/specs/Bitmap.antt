-- 02, Five: 'We write no trailing zero bytes; the reader takes them, up to 30 bitmap bytes.' What the written bytes have in them, and that each option that is
-- written is one that the reader takes. Assumes nothing.
use Rattle.std.specs.Prelude.{ℕ, ◌+◌, ◌-◌, ◌≤◌, true, ◌&&◌, ◌≡◌, List, ◌++◌, length, get_or}
use Rattle.numbers.specs.Categories.{is_category, has_category, known_set, InWords}
use Rattle.numbers.specs.declared.CategorySet.{CategorySet}
use Rattle.set_bytes.specs.SetBytes.{bit_at, bitmap_bytes}
use Rattle.store.specs.Table.{Table}
use Rattle.cipso_option.specs.Option.{option_bytes, our_doi, trimmed, option_of, zero_bytes, peer_at, peer_of}

pub record OptionBits : Type 0 where
  -- bytes without trailing zero bytes are the others in their places, as many at most, and the last of them is not 0
  pub same : (b : List ℕ) (i : ℕ) → get_or (trimmed b) i 0 ≡ get_or b i 0
  pub shorter : (b : List ℕ) → length (trimmed b) ≤ length b
  pub last : (b : List ℕ) → 1 ≤ length (trimmed b) → get_or (trimmed b) (length (trimmed b) - 1) 0 ≡ 0 → ⊥
  -- an option's bitmap is the 24 bytes of the set's without trailing zero bytes: it has the set's categories and no other bit. (Its other bytes, in numbers:
  -- `claims::numbers_of_02`)
  pub bytes : (level : ℕ) (s : CategorySet) → option_of level s ≡ option_bytes our_doi level (trimmed (bitmap_bytes s))
  pub bits : (s : CategorySet) → InWords s → known_set s ≡ true → (n : ℕ) → bit_at (trimmed (bitmap_bytes s)) n ≡ (is_category n && has_category s n)
  -- an option has 10 to 34 bytes
  pub least : (level : ℕ) (s : CategorySet) → 10 ≤ length (option_of level s)
  pub most : (level : ℕ) (s : CategorySet) → length (option_of level s) ≤ 34
  -- the reader takes what is written, and goes on with the level and the set
  pub taken : (t : Table) (level : ℕ) (s : CategorySet) → InWords s → known_set s ≡ true → peer_of t (option_of level s) ≡ peer_at t level s
  -- and it reads the same with zero bytes behind the bitmap, up to 30 bytes in all
  pub padded :
      (t : Table) (level : ℕ) (bitmap : List ℕ) (k : ℕ) →
      length bitmap + k ≤ 30 →
      peer_of t (option_bytes our_doi level (bitmap ++ zero_bytes k)) ≡ peer_of t (option_bytes our_doi level bitmap)

-- 02, Five: bytes by their bits, and the two orders in which the bits of bytes are categories: that of an option's bitmap, and that of a label's own bits.
-- Assumes nothing.
use Rattle.std.specs.Prelude.{ℕ, ◌+◌, ◌-◌, ◌*◌, ◌/◌, ◌%◌, ◌^◌, ◌<◌, ◌≡◌, Bool, true, false, not, ◌&&◌, ◌||◌, ◌↔◌, List, length, get_or, eqb}
use Rattle.search.specs.Search.{all, entries}
use Rattle.numbers.specs.Categories.{is_category, has_category, set_of, known_set, InWords}
use Rattle.numbers.specs.declared.CategorySet.{CategorySet}

-- ---- bytes by their bits

-- bit m of bytes: 0x80 shifted right by m mod 8, in byte m/8 rounded down; behind the bytes it is 0
abbrev pub bit_at : List ℕ → ℕ → Bool
bit_at bytes m = eqb (get_or bytes (m / 8) 0 / 2 ^ (7 - m % 8) % 2) 1

-- a test as a digit
abbrev pub digit : Bool → ℕ
digit true = 1
digit false = 0

-- the byte whose bit j, from the top, is 1 where j passes a test
unfoldable pub byte_where : (ℕ → Bool) → ℕ
byte_where p =
    digit (p 0) * 128 + digit (p 1) * 64 + digit (p 2) * 32 + digit (p 3) * 16 + digit (p 4) * 8 + digit (p 5) * 4 + digit (p 6) * 2 + digit (p 7)

-- k bytes whose bit m is 1 where m passes a test
unfoldable pub bytes_where : (ℕ → Bool) → ℕ → List ℕ
bytes_where p k = entries (λ (i : ℕ). byte_where (λ (j : ℕ). p (8 * i + j))) k

-- ---- the bitmap: category n is bit n

-- the bitmap of a set, with trailing zero bytes: 24 bytes hold category 184
unfoldable pub bitmap_bytes : CategorySet → List ℕ
bitmap_bytes s = bytes_where (has_category s) 24

-- the set of a bitmap: the categories whose bits are 1
unfoldable pub set_of_bitmap : List ℕ → CategorySet
set_of_bitmap bitmap = set_of (bit_at bitmap)

-- whether each bit that is 1 is a category: none is category 0 or above 184
unfoldable pub only_categories : List ℕ → Bool
only_categories bitmap = all (λ (n : ℕ). is_category n || not (bit_at bitmap n)) (entries (λ (n : ℕ). n) (8 * length bitmap))

-- ---- own bits: bit j, from the top, of byte i is category 8i+j+1, so that category n is bit n - 1

-- the bytes whose own bits are a set: 23 hold every category
unfoldable pub own_bytes : CategorySet → List ℕ
own_bytes s = bytes_where (λ (m : ℕ). has_category s (m + 1)) 23

-- the set of the own bits of bytes
unfoldable pub set_of_own : List ℕ → CategorySet
set_of_own bytes = set_of (λ (n : ℕ). bit_at bytes (n - 1))

-- ---- what these say of each other

-- each is a byte
abbrev pub Bytes : List ℕ → Type 0
Bytes b = (i : ℕ) → get_or b i 0 < 256

pub record BitsAndCategories : Type 0 where
  -- bytes have the bits that they are made of, and are made of the bits that they have; bit 8i+j is bit j, from the top, of byte i
  pub made : (p : ℕ → Bool) (k m : ℕ) → m < 8 * k → bit_at (bytes_where p k) m ≡ p m
  pub whole : (b : List ℕ) → Bytes b → bytes_where (bit_at b) (length b) ≡ b
  pub in_byte : (b : List ℕ) (i j : ℕ) → j < 8 → bit_at b (8 * i + j) ≡ eqb (get_or b i 0 / 2 ^ (7 - j) % 2) 1
  -- a set's bitmap has its categories and no other bit, and tells the set; a bitmap's set has the categories that are in it; and a bitmap passes
  -- `only_categories` exactly where no other bit of it is 1
  pub bitmap : (s : CategorySet) → InWords s → known_set s ≡ true → (n : ℕ) → bit_at (bitmap_bytes s) n ≡ (is_category n && has_category s n)
  pub bitmap_back : (s : CategorySet) → InWords s → known_set s ≡ true → set_of_bitmap (bitmap_bytes s) ≡ s
  pub bitmap_set : (b : List ℕ) (n : ℕ) → is_category n ≡ true → has_category (set_of_bitmap b) n ≡ bit_at b n
  pub only : (b : List ℕ) → (only_categories b ≡ true) ↔ ((n : ℕ) → bit_at b n ≡ true → is_category n ≡ true)
  -- own bits, in 02's words: bit j, from the top, of byte i is category 8i+j+1; 23 bytes tell a set, and a set 23 bytes
  pub own : (b : List ℕ) (i j : ℕ) → i < 23 → j < 8 → has_category (set_of_own b) (8 * i + j + 1) ≡ eqb (get_or b i 0 / 2 ^ (7 - j) % 2) 1
  pub own_back : (b : List ℕ) → Bytes b → length b ≡ 23 → own_bytes (set_of_own b) ≡ b
  pub own_set : (s : CategorySet) → InWords s → known_set s ≡ true → set_of_own (own_bytes s) ≡ s

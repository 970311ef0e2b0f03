-- 01, Single writes, Mapping, and 02, Four and Five: levels are 0 to 255, categories 1 to 184. A set of categories is three words of 64 bits, which make one number
-- of 192 bits, the first word highest; category n is its bit 2 ^ (192 - n): category 1 the top one. The eight lowest bits are no category. What a set of
-- categories is stands here and nowhere else. Assumes nothing.
use Rattle.std.specs.Prelude.{ℕ, suc, ◌+◌, ◌-◌, ◌*◌, ◌/◌, ◌%◌, ◌^◌, ◌<◌, ◌≤◌, ◌≡◌, Bool, true, false, cond, not, ◌&&◌, ◌||◌, ◌↔◌, length, get_or, eqb, leb}
use mathlib.Core.List.{List, Memᴰ, foldl}
use Rattle.std.specs.Int.Bits.{bit_or}
use Rattle.search.specs.Search.{those, entries}
use Rattle.numbers.specs.declared.CategorySet.{CategorySet}

-- 01: level 0 to 255
abbrev pub level_limit : ℕ
level_limit = 255

abbrev pub is_level : ℕ → Bool
is_level n = leb n level_limit

-- 02, Five: the level at which an unmapped label goes as its own bits
abbrev pub own_level : ℕ
own_level = 250

-- no mapping is written at it. (It can be looked up, and a lent state can have it)
abbrev pub is_mapping_level : ℕ → Bool
is_mapping_level n = is_level n && not (eqb n own_level)

-- 02, Four: category 1 to 184
abbrev pub category_limit : ℕ
category_limit = 184

abbrev pub is_category : ℕ → Bool
is_category n = leb 1 n && leb n category_limit

-- the number that the three words make
unfoldable pub value : CategorySet → ℕ
value s = (s.first * 2 ^ 64 + s.second) * 2 ^ 64 + s.third

-- the bit of n, from 1 to 192, in that number; n is a category where `is_category` says so
abbrev pub category_bit : ℕ → ℕ
category_bit n = 2 ^ (192 - n)

-- whether a set has the bit of n
abbrev pub has_category : CategorySet → ℕ → Bool
has_category s n = eqb (value s / category_bit n % 2) 1

-- the categories that a set has, in order
unfoldable pub categories : CategorySet → List ℕ
categories s = those (has_category s) (entries (λ (k : ℕ). k + 1) category_limit)

-- the set of no category
abbrev pub no_categories : CategorySet
no_categories = record { first = 0; second = 0; third = 0 }

-- the set with one category more: its bit in the word that has it
unfoldable pub with_category : CategorySet → ℕ → CategorySet
with_category s n =
    cond (leb n 64)
    (record { first = bit_or s.first (2 ^ (64 - n)); second = s.second; third = s.third })
    (cond (leb n 128)
    (record { first = s.first; second = bit_or s.second (2 ^ (128 - n)); third = s.third })
    (record { first = s.first; second = s.second; third = bit_or s.third (2 ^ (192 - n)) }))

-- the set of the categories that pass a test
unfoldable pub set_of : (ℕ → Bool) → CategorySet
set_of p = foldl with_category no_categories (those p (entries (λ (k : ℕ). k + 1) category_limit))

-- two sets are equal, in all three words
abbrev pub same_set : CategorySet → CategorySet → Bool
same_set a b = eqb a.first b.first && (eqb a.second b.second && eqb a.third b.third)

-- a set has no other bit than those of categories. The third word alone has others: the eight below the bit of category 184
abbrev pub known_third : ℕ → Bool
known_third w = eqb (w % 256) 0

abbrev pub known_set : CategorySet → Bool
known_set s = known_third s.third

-- ---- what these say of each other: a set is told by its categories, and made of them

-- the words are of 64 bits, as those of the code are
pub record InWords (s : CategorySet) : Type 0 where
  pub first : s.first < 2 ^ 64
  pub second : s.second < 2 ^ 64
  pub third : s.third < 2 ^ 64

-- byte i of the 24 that the three words are, the highest first
abbrev pub byte_of : CategorySet → ℕ → ℕ
byte_of s i = value s / 2 ^ (8 * (23 - i)) % 256

pub record CategorySets : Type 0 where
  -- the set of no category has none
  pub none : (k : ℕ) → is_category k ≡ true → has_category no_categories k ≡ false
  -- with one category more, a set has that one and those that it had; it is known exactly where it was, and its words stay of 64 bits
  pub one_more :
      (s : CategorySet) (n k : ℕ) → InWords s → is_category n ≡ true → is_category k ≡ true → has_category (with_category s n) k ≡ (has_category s k || eqb k n)
  pub still_known : (s : CategorySet) (n : ℕ) → is_category n ≡ true → known_set (with_category s n) ≡ known_set s
  pub still_words : (s : CategorySet) (n : ℕ) → InWords s → is_category n ≡ true → InWords (with_category s n)
  -- a set is known exactly where each of the eight bits behind the last category is 0
  pub known : (s : CategorySet) → (known_set s ≡ true) ↔ ((k : ℕ) → category_limit < k → k ≤ 192 → has_category s k ≡ false)
  -- two sets that have the same categories, and no other bit, are equal; and sets that are found equal are one set
  pub same :
      (a b : CategorySet) →
      InWords a →
      InWords b →
      known_set a ≡ true →
      known_set b ≡ true →
      ((k : ℕ) → is_category k ≡ true → has_category a k ≡ has_category b k) →
      same_set a b ≡ true
  pub equal : (a b : CategorySet) → (same_set a b ≡ true) ↔ (a ≡ b)
  -- the categories that a set has are listed, and no others, each above the one before: so the list is as long as they are many
  pub listed : (s : CategorySet) (k : ℕ) → Memᴰ k (categories s) ↔ ((is_category k ≡ true) × (has_category s k ≡ true))
  pub ascending : (s : CategorySet) (i : ℕ) → suc i < length (categories s) → get_or (categories s) i 0 < get_or (categories s) (suc i) 0
  -- a known set is made of its categories
  pub made : (s : CategorySet) → InWords s → known_set s ≡ true → foldl with_category no_categories (categories s) ≡ s
  -- the set of the categories that pass a test has just these, and no other bit
  pub passing : (p : ℕ → Bool) (k : ℕ) → is_category k ≡ true → has_category (set_of p) k ≡ p k
  pub passing_known : (p : ℕ → Bool) → known_set (set_of p) ≡ true
  pub passing_words : (p : ℕ → Bool) → InWords (set_of p)
  -- where a category lies: in which word, and at which bit of it, as the header's two macros have it; and in the bytes, category 1 first and highest, of
  -- which 23 hold them all: each is a byte, and of a known set the one behind them is 0
  pub in_first : (s : CategorySet) (n : ℕ) → InWords s → 1 ≤ n → n ≤ 64 → has_category s n ≡ eqb (s.first / 2 ^ (64 - n) % 2) 1
  pub in_second : (s : CategorySet) (n : ℕ) → InWords s → 64 < n → n ≤ 128 → has_category s n ≡ eqb (s.second / 2 ^ (128 - n) % 2) 1
  pub in_third : (s : CategorySet) (n : ℕ) → 128 < n → n ≤ category_limit → has_category s n ≡ eqb (s.third / 2 ^ (192 - n) % 2) 1
  pub in_byte : (s : CategorySet) (i j : ℕ) → i < 23 → j < 8 → has_category s (8 * i + j + 1) ≡ eqb (byte_of s i / 2 ^ (7 - j) % 2) 1
  pub byte : (s : CategorySet) (i : ℕ) → byte_of s i < 256
  pub last_byte : (s : CategorySet) → known_set s ≡ true → byte_of s 23 ≡ 0

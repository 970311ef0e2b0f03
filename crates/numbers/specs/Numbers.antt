-- 01, Single writes, Mapping: the decimal numbers of levels and categories. Assumes nothing.
use Rattle.std.specs.Prelude.{ℕ, ◌+◌, ◌-◌, ◌*◌, ◌<◌, ◌≡◌, ◌↔◌, Bool, cond, ◌&&◌, length, leb, Option, Some, None}
use mathlib.Core.List.{List, [], ◌∷◌, foldl}
use Rattle.search.specs.Search.{all}

-- an ASCII digit: 0 (48) to 9 (57)
abbrev pub is_digit : ℕ → Bool
is_digit b = leb 48 b && leb b 57

-- a number read so far and one more digit
abbrev pub one_more : ℕ → ℕ → ℕ
one_more v b = v * 10 + (b - 48)

-- 1 to 3 digits, leading zeros allowed; any other field is no number
unfoldable pub number_of : List ℕ → Option ℕ
number_of field = cond (leb 1 (length field) && leb (length field) 3 && all is_digit field) (Some (foldl one_more 0 field)) None

-- What 01 says of a number, without the test above: one, two or three digits, and their value.
pub data Digits : List ℕ → ℕ → Type 0 where
  one : (a : ℕ) → a < 10 → Digits ((48 + a) ∷ []) a
  two : (a b : ℕ) → a < 10 → b < 10 → Digits ((48 + a) ∷ (48 + b) ∷ []) (a * 10 + b)
  three : (a b c : ℕ) → a < 10 → b < 10 → c < 10 → Digits ((48 + a) ∷ (48 + b) ∷ (48 + c) ∷ []) (a * 100 + b * 10 + c)

-- a field is read as a number exactly where it is one, with that value
abbrev pub NumbersOfDigits : Type 0
NumbersOfDigits = (field : List ℕ) (n : ℕ) → (number_of field ≡ Some n) ↔ Digits field n

-- Laws of decimal numbers. Assumes nothing.
use mathlib.Core.Path.{◌≡◌, refl, sym, ap, ◌∙◌}
use mathlib.Core.Bool.{Bool, true, false, cond, and-false}
use mathlib.Core.List.{List, [], ◌∷◌, foldl}
use Prim.Native.Nat.{ℕ, ◌+◌, ◌-◌, ◌^◌, ◌<◌, ◌≤◌}
use native.Mathlib.Nat.{pow-suc, pow-le-pow_right}
use native.Mathlib.Numerals.{add-one}
use native.Mathlib.Omega.{arith}
use lib.Dec.{leb}
use borrow.Author.Tests.{leb-true, le-leb, lt-leb}
use lib.ListN.{length, drop, get_or}
use lib.Seq.{drop-cons}
use Rattle.search.specs.Search.{all}
use Rattle.search.proofs.Laws.{no, and_both}
use Rattle.numbers.specs.Numbers.{is_digit, one_more, number_of, Digits, NumbersOfDigits}
use Rattle.std.proofs.Common.{Option, Some, None}

-- ---- a number read from some digit on, with the value v of the digits before

unfoldable pub number_from : ℕ → List ℕ → Option ℕ
number_from v rest = cond (all is_digit rest) (Some (foldl one_more v rest)) None

pub number-empty : (field : List ℕ) → length field < 1 → number_of field ≡ None
unfolding number_of
number-empty field h = rw (lt-leb 1 (length field) h)

pub number-long : (field : List ℕ) → 3 < length field → number_of field ≡ None
unfolding number_of
number-long field h = rw (lt-leb (length field) 3 h, and-false (leb 1 (length field)))

pub number-all : (field : List ℕ) → 1 ≤ length field → length field ≤ 3 → number_of field ≡ number_from 0 field
unfolding number_of number_from
number-all field h₁ h₃ = rw (le-leb 1 (length field) h₁, le-leb (length field) 3 h₃)

pub number-none : (v : ℕ) → number_from v [] ≡ Some v
unfolding number_from all
number-none v = refl

module _ (v : ℕ) (field : List ℕ) (i : ℕ) (h : i < length field) where
  pub number-below : get_or field i 0 < 48 → number_from v (drop i field) ≡ None
  unfolding number_from all
  number-below b = rw (drop-cons field i 0 h, lt-leb 48 (get_or field i 0) b)

  pub number_above : 57 < get_or field i 0 → number_from v (drop i field) ≡ None
  unfolding number_from all
  number_above b = rw (drop-cons field i 0 h, lt-leb (get_or field i 0) 57 b, and-false (leb 48 (get_or field i 0)))

  pub number_more : 48 ≤ get_or field i 0 → get_or field i 0 ≤ 57 → number_from v (drop i field) ≡ number_from (one_more v (get_or field i 0)) (drop (i + 1) field)
  unfolding number_from all
  number_more b₁ b₂ = rw (add-one i, drop-cons field i 0 h, le-leb 48 (get_or field i 0) b₁, le-leb (get_or field i 0) 57 b₂)

-- one digit more is one place more
pub one-more_lt : (v b i : ℕ) → v < 10 ^ i → b ≤ 57 → (w : ℕ) → w ≡ one_more v b → w < 10 ^ (i + 1)
one-more_lt v b i h k w e = rw (e, add-one i, pow-suc 10 i) (omega arith)

pub three-digits : (v i : ℕ) → i ≤ 3 → v < 10 ^ i → v ≤ 999
three-digits v i h k = let p : 10 ^ i ≤ 10 ^ 3 = pow-le-pow_right (omega arith) h in omega arith

-- ---- a field is a number exactly where it is one, two or three digits

digit-is : (a : ℕ) → a < 10 → is_digit (48 + a) ≡ true
digit-is a h = rw (le-leb 48 (48 + a) (omega arith), le-leb (48 + a) 57 (omega arith))

is_digit_lem : (b : ℕ) → is_digit b ≡ true → (b - 48 < 10) × (48 + (b - 48) ≡ b)
is_digit_lem b e =
    let h = and_both (leb 48 b) (leb b 57) e in
    let i = leb-true 48 b h.0 in
    let j = leb-true b 57 h.1 in
    (omega arith, omega arith)

digits_number : (field : List ℕ) (n : ℕ) → Digits field n → number_of field ≡ Some n
unfolding number_of all
digits_number field n (Digits.one a ha) = rw (digit-is a ha) (ap Some (omega arith))
digits_number field n (Digits.two a b ha hb) = rw (digit-is a ha, digit-is b hb) (ap Some (omega arith))
digits_number field n (Digits.three a b c ha hb hc) = rw (digit-is a ha, digit-is b hb, digit-is c hc) (ap Some (omega arith))

-- what was answered was tested
told : (t : Bool) (v n : ℕ) → cond t (Some v) None ≡ Some n → (t ≡ true) × (v ≡ n)
told true v n e = (refl, cc)
told false v n e = let z : ◌≡◌ {A = ℕ} 0 1 = cc in absurd (omega arith)

-- digits that were found, as they are in a number
as_digits : (field ds : List ℕ) (n v : ℕ) → ds ≡ field → v ≡ n → Digits ds v → Digits field n
as_digits field ds n v p q d = rw (← p, ← q) d

number_digits : (field : List ℕ) (n : ℕ) → number_of field ≡ Some n → Digits field n
unfolding number_of all
number_digits [] n e = absurd (no (told false 0 n e).0)
number_digits (a ∷ []) n e =
    let t = told _ _ n e in
    let da = is_digit_lem a (and_both _ _ t.0).0 in
    as_digits _ _ n _ (rw da.1) (omega (arith, t.1)) (Digits.one (a - 48) da.0)
number_digits (a ∷ b ∷ []) n e =
    let t = told _ _ n e in
    let r = and_both _ _ t.0 in
    let da = is_digit_lem a r.0 in
    let db = is_digit_lem b (and_both _ _ r.1).0 in
    as_digits _ _ n _ (rw (da.1, db.1)) (omega (arith, t.1)) (Digits.two (a - 48) (b - 48) da.0 db.0)
number_digits (a ∷ b ∷ c ∷ []) n e =
    let t = told _ _ n e in
    let r = and_both _ _ t.0 in
    let q = and_both _ _ r.1 in
    let da = is_digit_lem a r.0 in
    let db = is_digit_lem b q.0 in
    let dc = is_digit_lem c (and_both _ _ q.1).0 in
    as_digits _ _ n _ (rw (da.1, db.1, dc.1)) (omega (arith, t.1)) (Digits.three (a - 48) (b - 48) (c - 48) da.0 db.0 dc.0)
number_digits (a ∷ b ∷ c ∷ d ∷ rest) n e =
    let z = sym (number-long (a ∷ b ∷ c ∷ d ∷ rest) (omega arith)) ∙ e in
    absurd (no (told false 0 n z).0)

pub numbers_of_digits : NumbersOfDigits
numbers_of_digits field n = (number_digits field n, digits_number field n)

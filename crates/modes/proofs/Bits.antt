-- Laws of modes letter by letter: what a set that was joined, met or taken away from has of one letter. Assumes nothing.
use mathlib.Core.Path.{◌≡◌, refl, sym, ◌∙◌, subst}
use mathlib.Core.Bool.{Bool, true, false, not, ◌&&◌, ◌||◌}
use Prim.Native.Nat.{ℕ, zero, suc, ◌+◌, ◌-◌, ◌*◌, ◌/◌, ◌%◌, ◌^◌, ◌<◌, ◌≤◌}
use native.Mathlib.Nat.{zero-mul, one-mul, mod-lt}
use native.Mathlib.Omega.{arith}
use lib.Dec.{eqb}
use lib.Pow.{pow_pos, pow-add}
use lib.Bits.{bit_and, bit_or, bit_xor, and_comm, and_high, and_shr, and_mod, or_shr, or_mod, xor_shr, xor_mod}
use borrow.Author.Tests.{eqb-true, eq-eqb, ne_eqb}
use Rattle.search.specs.Bytes.{ascii}
use Rattle.search.proofs.Laws.{no}
use Rattle.modes.specs.Modes.{has, one_of}

-- the bit that has k digits below it, and a number's digit there
abbrev pub single : ℕ → ℕ
single k = 2 ^ (1 + k) - 2 ^ k

abbrev digit : ℕ → ℕ → ℕ
digit k n = n / 2 ^ k % 2

digit_lt : (k n : ℕ) → digit k n < 2
digit_lt k n = mod-lt (n / 2 ^ k) (omega arith)

digit-has : (x q : ℕ) → x < 2 → 0 < q → not (eqb (x * q) 0) ≡ eqb x 1
digit-has zero q h p = rw (zero-mul q)
digit-has (suc zero) q h p = rw (one-mul q, ne_eqb q 0 (λ e. omega arith))
digit-has (suc (suc x)) q h p = absurd (omega arith)

has-digit : (k n : ℕ) → has n (single k) ≡ eqb (digit k n) 1
has-digit k n = rw (and_high n 1 k) (digit-has (digit k n) (2 ^ k) (digit_lt k n) (pow_pos k))

-- what is true of the digits 0 and 1 is true of any two digits
digits : (P : ℕ → ℕ → Type 0) → P 0 0 → P 0 1 → P 1 0 → P 1 1 → (x y : ℕ) → x < 2 → y < 2 → P x y
digits P a b c d zero zero h i = a
digits P a b c d zero (suc zero) h i = b
digits P a b c d zero (suc (suc y)) h i = absurd (omega arith)
digits P a b c d (suc zero) zero h i = c
digits P a b c d (suc zero) (suc zero) h i = d
digits P a b c d (suc zero) (suc (suc y)) h i = absurd (omega arith)
digits P a b c d (suc (suc x)) y h i = absurd (omega arith)

module _ (k a b : ℕ) where
  pub has_or : has (bit_or a b) (single k) ≡ (has a (single k) || has b (single k))
  has_or =
      rw (has-digit k (bit_or a b), has-digit k a, has-digit k b, or_shr a b k, or_mod (a / 2 ^ k) (b / 2 ^ k) 1)
      (digits (λ (x y : ℕ). eqb (bit_or x y) 1 ≡ (eqb x 1 || eqb y 1)) refl refl refl refl (digit k a) (digit k b) (digit_lt k a) (digit_lt k b))

  pub has_and : has (bit_and a b) (single k) ≡ (has a (single k) && has b (single k))
  has_and =
      rw (has-digit k (bit_and a b), has-digit k a, has-digit k b, and_shr a b k, and_mod (a / 2 ^ k) (b / 2 ^ k) 1)
      (digits (λ (x y : ℕ). eqb (bit_and x y) 1 ≡ (eqb x 1 && eqb y 1)) refl refl refl refl (digit k a) (digit k b) (digit_lt k a) (digit_lt k b))

  pub has_without : has a (single k) ≡ true → has (bit_xor a b) (single k) ≡ not (has b (single k))
  has_without e =
      rw (has-digit k (bit_xor a b), has-digit k b, xor_shr a b k, xor_mod (a / 2 ^ k) (b / 2 ^ k) 1)
      (digits (λ (x y : ℕ). eqb x 1 ≡ true → eqb (bit_xor x y) 1 ≡ not (eqb y 1)) (λ z. absurd (no z)) (λ z. absurd (no z)) (λ z. refl) (λ z. refl)
      (digit k a) (digit k b) (digit_lt k a) (digit_lt k b) (sym (has-digit k a) ∙ e))

-- a set has all of one letter's bit exactly where it has the letter
one_of_lem : (x q : ℕ) → x < 2 → 0 < q → eqb (x * q) q ≡ not (eqb (x * q) 0)
one_of_lem zero q h p = rw (zero-mul q) (ne_eqb 0 q (λ e. omega arith))
one_of_lem (suc zero) q h p = rw (one-mul q, eq-eqb q q refl, ne_eqb q 0 (λ e. omega arith))
one_of_lem (suc (suc x)) q h p = absurd (omega arith)

single-is : (k : ℕ) → single k ≡ 2 ^ k
single-is k = let z : 2 ^ (1 + k) ≡ 2 * 2 ^ k = pow-add 2 1 k in omega (arith, z)

pub all_of_one : (k n : ℕ) → eqb (bit_and (single k) n) (single k) ≡ has n (single k)
all_of_one k n = rw (and_comm (single k) n, and_high n 1 k, single-is k) (one_of_lem (digit k n) (2 ^ k) (digit_lt k n) (pow_pos k))

-- ---- laws of three sets: two ways to join and meet them are one where they are so of digits

parts_same : (x y : ℕ) → x / 2 ≡ y / 2 → x % 2 ≡ y % 2 → x ≡ y
parts_same x y h i = omega arith

-- what is done to sets is done to their halves and to their last digits
record ByDigits (f : ℕ → ℕ → ℕ → ℕ) : Type 0 where
  half : (a b c : ℕ) → f a b c / 2 ≡ f (a / 2) (b / 2) (c / 2)
  low : (a b c : ℕ) → f a b c % 2 ≡ f (a % 2) (b % 2) (c % 2)

module _ (f g : ℕ → ℕ → ℕ → ℕ) (p : ByDigits f) (q : ByDigits g) (same : (x y z : ℕ) → x < 2 → y < 2 → z < 2 → f x y z ≡ g x y z) where
  same-below : (n a b c : ℕ) → a ≤ n → b ≤ n → c ≤ n → f a b c ≡ g a b c
  same-below zero a b c h i j = same a b c (omega arith) (omega arith) (omega arith)
  same-below (suc n) a b c h i j =
      parts_same (f a b c) (g a b c)
      (p.half a b c ∙ same-below n (a / 2) (b / 2) (c / 2) (omega arith) (omega arith) (omega arith) ∙ sym (q.half a b c))
      (p.low a b c ∙ same (a % 2) (b % 2) (c % 2) (mod-lt a (omega arith)) (mod-lt b (omega arith)) (mod-lt c (omega arith)) ∙ sym (q.low a b c))

  same-sets : (a b c : ℕ) → f a b c ≡ g a b c
  same-sets a b c = same-below (a + b + c) a b c (omega arith) (omega arith) (omega arith)

-- what is true of the digits 0 and 1 is true of any three digits
three-digits : (P : ℕ → ℕ → ℕ → Type 0) → ((y z : ℕ) → y < 2 → z < 2 → P 0 y z) → ((y z : ℕ) → y < 2 → z < 2 → P 1 y z) → (x y z : ℕ) → x < 2 → y < 2 → z < 2 → P x y z
three-digits P a b zero y z h i j = a y z i j
three-digits P a b (suc zero) y z h i j = b y z i j
three-digits P a b (suc (suc x)) y z h i j = absurd (omega arith)

and_half : (a b : ℕ) → bit_and a b / 2 ≡ bit_and (a / 2) (b / 2)
and_half a b = and_shr a b 1

and_low : (a b : ℕ) → bit_and a b % 2 ≡ bit_and (a % 2) (b % 2)
and_low a b = and_mod a b 1

or_half : (a b : ℕ) → bit_or a b / 2 ≡ bit_or (a / 2) (b / 2)
or_half a b = or_shr a b 1

or_low : (a b : ℕ) → bit_or a b % 2 ≡ bit_or (a % 2) (b % 2)
or_low a b = or_mod a b 1

-- three sets met in another order
pub and_swap : (a b c : ℕ) → bit_and (bit_and a c) b ≡ bit_and a (bit_and b c)
and_swap =
    same-sets (λ a b c. bit_and (bit_and a c) b) (λ a b c. bit_and a (bit_and b c))
    (record { half = λ a b c. rw (and_half (bit_and a c) b, and_half a c); low = λ a b c. rw (and_low (bit_and a c) b, and_low a c) })
    (record { half = λ a b c. rw (and_half a (bit_and b c), and_half b c); low = λ a b c. rw (and_low a (bit_and b c), and_low b c) })
    (three-digits (λ x y z. bit_and (bit_and x z) y ≡ bit_and x (bit_and y z))
    (digits (λ y z. bit_and (bit_and 0 z) y ≡ bit_and 0 (bit_and y z)) refl refl refl refl)
    (digits (λ y z. bit_and (bit_and 1 z) y ≡ bit_and 1 (bit_and y z)) refl refl refl refl))

-- what is left of two sets that are joined is what is left of each, joined
pub and_or : (a b c : ℕ) → bit_and (bit_or a b) c ≡ bit_or (bit_and a c) (bit_and b c)
and_or =
    same-sets (λ a b c. bit_and (bit_or a b) c) (λ a b c. bit_or (bit_and a c) (bit_and b c))
    (record { half = λ a b c. rw (and_half (bit_or a b) c, or_half a b); low = λ a b c. rw (and_low (bit_or a b) c, or_low a b) })
    (record { half = λ a b c. rw (or_half (bit_and a c) (bit_and b c), and_half a c, and_half b c); low = λ a b c. rw (or_low (bit_and a c) (bit_and b c), and_low a c, and_low b c) })
    (three-digits (λ x y z. bit_and (bit_or x y) z ≡ bit_or (bit_and x z) (bit_and y z))
    (digits (λ y z. bit_and (bit_or 0 y) z ≡ bit_or (bit_and 0 z) (bit_and y z)) refl refl refl refl)
    (digits (λ y z. bit_and (bit_or 1 y) z ≡ bit_or (bit_and 1 z) (bit_and y z)) refl refl refl refl))

-- what is true of each of the five letters, and of b
module _ (P : ℕ → Type 0) (l : ℕ) where
  letter_or : (x : ℕ) (t : Bool) → P x → (t ≡ true → P l) → (eqb l x || t) ≡ true → P l
  letter_or x t p rest = by-test (eqb l x) (eqb-true l x)
    where
      by-test : (s : Bool) → (s ≡ true → l ≡ x) → (s || t) ≡ true → P l
      by-test true is e = subst P (sym (is refl)) p
      by-test false is e = rest e

  pub five : P 114 → P 119 → P 120 → P 97 → P 116 → one_of (ascii "rwxat") l ≡ true → P l
  five r w x a t = letter_or 114 _ r (letter_or 119 _ w (letter_or 120 _ x (letter_or 97 _ a (letter_or 116 _ t (λ e. absurd (no e))))))

  pub six : P 114 → P 119 → P 120 → P 97 → P 116 → P 98 → one_of (ascii "rwxatb") l ≡ true → P l
  six r w x a t b =
      letter_or 114 _ r (letter_or 119 _ w (letter_or 120 _ x (letter_or 97 _ a (letter_or 116 _ t (letter_or 98 _ b (λ e. absurd (no e)))))))

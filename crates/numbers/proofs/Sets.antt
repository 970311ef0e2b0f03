-- Laws of sets of categories: of the number that the three words make, and so of the words. Assumes nothing.
use mathlib.Core.Path.{◌≡◌, refl, sym, ap, ◌∙◌, subst}
use mathlib.Core.Bool.{Bool, true, false, cond, ◌&&◌, ◌||◌}
use mathlib.Core.Logic.{◌↔◌, ◌⊎◌, inl, inr, ⊎_elim}
use mathlib.Core.List.{List, [], ◌∷◌, ◌++◌, foldl, Memᴰ}
use Prim.Native.Nat.{ℕ, zero, suc, ◌+◌, ◌-◌, ◌*◌, ◌/◌, ◌%◌, ◌^◌, ◌<◌, ◌≤◌, max}
use native.Mathlib.Nat.{le_of_suc-le-suc, pow-suc, mod-lt, mul-mod_left, mod-eq_of_lt, one-mul, mul-div_cancel, div_self, div-eq_of_lt, div-one, mul_assoc, mul-add-div_right, suc-mul, mul-le-mul_right, add-zero, zero-add, zero-mul}
use native.Mathlib.Numerals.{add-one}
use native.Mathlib.Omega.{arith}
use lib.Dec.{eqb, leb, ltb}
use lib.Bits.{bit_or, or_step, or_shr, or_block, or_zero_r, or_lt, or_mod, block_odd}
use lib.Pow.{pow_pos, pow-lt, pow-add, shr-shr, shr_lt, high, low, field, mod-mod-pow, mod-pow-add}
use lib.Count.{ones, ones_step, ones_cat}
use borrow.Author.Tests.{eqb-true, eqb-false, eq-eqb, ltb-true, ltb-false, lt-ltb, leb-true, leb-false, le-leb, lt-leb}
use lib.ListN.{length, get_or, length-append}
use Rattle.search.specs.Search.{all, those, entries}
use Rattle.search.proofs.Laws.{no, and_both, entries-length, entries_at}
use Rattle.numbers.specs.Categories.{is_category, value, category_bit, has_category, categories, no_categories, with_category, set_of, same_set, known_set, InWords, byte_of, CategorySets}
use Rattle.numbers.specs.Within.{Category}
use Rattle.numbers.specs.declared.CategorySet.{CategorySet}

-- ---- numbers in two parts: hi * 2 ^ k + lo

-- the part above bit j, where the seam is above it too
above_seam : (hi lo j k : ℕ) → (hi * 2 ^ (k + j) + lo) / 2 ^ j ≡ hi * 2 ^ k + lo / 2 ^ j
above_seam hi lo j k = rw (pow-add 2 k j, sym (mul_assoc hi (2 ^ k) (2 ^ j))) (mul-add-div_right (pow_pos j) (hi * 2 ^ k) lo)

-- a digit below the seam is that of the lower part
below_seam : (hi lo j k : ℕ) → j < k → (hi * 2 ^ k + lo) / 2 ^ j % 2 ≡ lo / 2 ^ j % 2
below_seam hi lo j k h =
    let e : k ≡ suc (k - j - 1) + j = omega arith in
    ap (λ (x : ℕ). (hi * 2 ^ x + lo) / 2 ^ j % 2) e ∙ ap (λ (x : ℕ). x % 2) (above_seam hi lo j (suc (k - j - 1))) ∙ block_odd hi (k - j - 1) (lo / 2 ^ j)

-- both parts small make a small number
both_small : (hi lo j k : ℕ) → hi < 2 ^ j → lo < 2 ^ k → hi * 2 ^ k + lo < 2 ^ (j + k)
both_small hi lo j k h l =
    let e : suc hi * 2 ^ k ≤ 2 ^ j * 2 ^ k = mul-le-mul_right (2 ^ k) h in
    rw (pow-add 2 j k) (omega (arith, e, suc-mul hi (2 ^ k), l))

-- ---- the number of a set

module _ (s : CategorySet) (w : InWords s) where
  pub value_lt : value s < 2 ^ 192
  unfolding value
  value_lt = both_small (s.first * 2 ^ 64 + s.second) s.third 128 64 (both_small s.first s.second 64 64 w.first w.second) w.third

  value_upper : value s / 2 ^ 64 ≡ s.first * 2 ^ 64 + s.second
  unfolding value
  value_upper = high (s.first * 2 ^ 64 + s.second) 64 w.third

  pub value-first : value s / 2 ^ 64 / 2 ^ 64 ≡ s.first
  value-first = ap (λ (x : ℕ). x / 2 ^ 64) value_upper ∙ high s.first 64 w.second

  pub value-second : value s / 2 ^ 64 % 2 ^ 64 ≡ s.second
  value-second = ap (λ (x : ℕ). x % 2 ^ 64) value_upper ∙ low s.first 64 w.second

  pub value-third : value s % 2 ^ 64 ≡ s.third
  unfolding value
  value-third = low (s.first * 2 ^ 64 + s.second) 64 w.third

same-words : {a b : CategorySet} → a.first ≡ b.first → a.second ≡ b.second → a.third ≡ b.third → a ≡ b
same-words {a} {b} p q r = of b p q r
  where
    of : (s : CategorySet) {x y z : ℕ} → x ≡ s.first → y ≡ s.second → z ≡ s.third → ◌≡◌ {A = CategorySet} (record { first = x; second = y; third = z }) s
    of s i j k = rw (i, j, k)

-- so it tells the words
value_tells : (a b : CategorySet) → InWords a → InWords b → value a ≡ value b → a ≡ b
value_tells a b ha hb e =
    same-words
    (sym (value-first a ha) ∙ ap (λ (x : ℕ). x / 2 ^ 64 / 2 ^ 64) e ∙ value-first b hb)
    (sym (value-second a ha) ∙ ap (λ (x : ℕ). x / 2 ^ 64 % 2 ^ 64) e ∙ value-second b hb)
    (sym (value-third a ha) ∙ ap (λ (x : ℕ). x % 2 ^ 64) e ∙ value-third b hb)

-- the eight lowest bits are those of the third word
value_low : (s : CategorySet) → value s % 256 ≡ s.third % 256
unfolding value
value_low s = upper (s.first * 2 ^ 64 + s.second) s.third
  where
    upper : (x y : ℕ) → (x * 2 ^ 64 + y) % 256 ≡ y % 256
    upper x y = omega arith

-- ---- one bit

-- the digit j of 2 ^ i is set where j is i
bit_same : (i : ℕ) → 2 ^ i / 2 ^ i % 2 ≡ 1
bit_same i = rw (div_self (pow_pos i))

bit_under : (i j : ℕ) → j < i → 2 ^ i / 2 ^ j % 2 ≡ 0
bit_under i j h =
    let d : i ≡ suc (i - j - 1) + j = omega arith in
    let e : 2 ^ i / 2 ^ j ≡ 2 ^ (i - j - 1) * 2 = ap (λ (x : ℕ). 2 ^ x / 2 ^ j) d ∙ rw (pow-add 2 (suc (i - j - 1)) j, mul-div_cancel (2 ^ suc (i - j - 1)) (pow_pos j)) (pow-suc 2 (i - j - 1)) in
    rw e (mul-mod_left (2 ^ (i - j - 1)) 2)

bit_over : (i j : ℕ) → i < j → 2 ^ i / 2 ^ j % 2 ≡ 0
bit_over i j h = rw (div-eq_of_lt (pow-lt h))

pub bit_shift : (i : ℕ) → i < 64 → 1 * 2 ^ i % 2 ^ 64 ≡ 2 ^ i
bit_shift i h = rw (one-mul (2 ^ i)) (mod-eq_of_lt (pow-lt {j = 64} h))

-- the set of one category, and its number
single : ℕ → CategorySet
single n =
    cond (leb n 64)
    (record { first = 2 ^ (64 - n); second = 0; third = 0 })
    (cond (leb n 128) (record { first = 0; second = 2 ^ (128 - n); third = 0 }) (record { first = 0; second = 0; third = 2 ^ (192 - n) }))

module _ (n : ℕ) (h : Category n) where
  single-value : value (single n) ≡ category_bit n
  unfolding value single
  single-value = by_word (leb n 64) refl (leb n 128) refl
    where
      none : (x m : ℕ) → x * m + 0 ≡ x * m
      none x m = add-zero (x * m)

      by_word : (a : Bool) → leb n 64 ≡ a → (b : Bool) → leb n 128 ≡ b
          → value (cond a (record { first = 2 ^ (64 - n); second = 0; third = 0 }) (cond b (record { first = 0; second = 2 ^ (128 - n); third = 0 }) (record { first = 0; second = 0; third = 2 ^ (192 - n) })))
          ≡ 2 ^ (192 - n)
      by_word true p b q =
          let l = leb-true n 64 p in
          let e : 192 - n ≡ 64 - n + 64 + 64 = omega arith in
          rw (none (2 ^ (64 - n)) (2 ^ 64), none (2 ^ (64 - n) * 2 ^ 64) (2 ^ 64), e, pow-add 2 (64 - n + 64) 64, pow-add 2 (64 - n) 64)
      by_word false p true q =
          let l = leb-true n 128 q in
          let m = leb-false n 64 p in
          let e : 192 - n ≡ 128 - n + 64 = omega arith in
          rw (zero-mul (2 ^ 64), zero-add (2 ^ (128 - n)), none (2 ^ (128 - n)) (2 ^ 64), e, pow-add 2 (128 - n) 64)
      by_word false p false q = rw (zero-mul (2 ^ 64), zero-mul (2 ^ 64), zero-add (2 ^ (192 - n)))

  single-words : InWords (single n)
  unfolding single
  single-words = by_word (leb n 64) refl (leb n 128) refl
    where
      by_word : (a : Bool) → leb n 64 ≡ a → (b : Bool) → leb n 128 ≡ b
          → InWords (cond a (record { first = 2 ^ (64 - n); second = 0; third = 0 }) (cond b (record { first = 0; second = 2 ^ (128 - n); third = 0 }) (record { first = 0; second = 0; third = 2 ^ (192 - n) })))
      by_word true p b q = record { first = pow-lt {j = 64} (omega arith); second = omega arith; third = omega arith }
      by_word false p true q = let m = leb-false n 64 p in record { first = omega arith; second = pow-lt {j = 64} (omega arith); third = omega arith }
      by_word false p false q = let m = leb-false n 128 q in record { first = omega arith; second = omega arith; third = pow-lt {j = 64} (omega arith) }

-- ---- the union of two sets, word by word, and its number

union : CategorySet → CategorySet → CategorySet
union a b = record { first = bit_or a.first b.first; second = bit_or a.second b.second; third = bit_or a.third b.third }

module _ (a b : CategorySet) (ha : InWords a) (hb : InWords b) where
  union_value : value (union a b) ≡ bit_or (value a) (value b)
  unfolding value union
  union_value =
      sym (or_block 64 (a.first * 2 ^ 64 + a.second) (b.first * 2 ^ 64 + b.second) a.third b.third ha.third hb.third
      ∙ ap (λ (x : ℕ). x * 2 ^ 64 + bit_or a.third b.third) (or_block 64 a.first b.first a.second b.second ha.second hb.second))

  union_words : InWords (union a b)
  unfolding union
  union_words =
      record {
        first = or_lt 64 a.first b.first ha.first hb.first;
        second = or_lt 64 a.second b.second ha.second hb.second;
        third = or_lt 64 a.third b.third ha.third hb.third;
      }

-- a set with one category more is its union with the set of that one
with_union : (s : CategorySet) (n : ℕ) → with_category s n ≡ union s (single n)
unfolding with_category union single
with_union s n = by_word (leb n 64) (leb n 128)
  where
    by_word : (a b : Bool)
        → cond a
        (record { first = bit_or s.first (2 ^ (64 - n)); second = s.second; third = s.third })
        (cond b
        (record { first = s.first; second = bit_or s.second (2 ^ (128 - n)); third = s.third })
        (record { first = s.first; second = s.second; third = bit_or s.third (2 ^ (192 - n)) }))
        ≡ union s (cond a (record { first = 2 ^ (64 - n); second = 0; third = 0 }) (cond b (record { first = 0; second = 2 ^ (128 - n); third = 0 }) (record { first = 0; second = 0; third = 2 ^ (192 - n) })))
    by_word true b = same-words refl (sym (or_zero_r s.second)) (sym (or_zero_r s.third))
    by_word false true = same-words (sym (or_zero_r s.first)) refl (sym (or_zero_r s.third))
    by_word false false = same-words (sym (or_zero_r s.first)) (sym (or_zero_r s.second)) refl

with_value : (s : CategorySet) (n : ℕ) → InWords s → Category n → value (with_category s n) ≡ bit_or (value s) (category_bit n)
with_value s n w h = ap value (with_union s n) ∙ union_value s (single n) w (single-words n h) ∙ ap (bit_or (value s)) (single-value n h)

pub with_words_lem : (s : CategorySet) (n : ℕ) → InWords s → Category n → InWords (with_category s n)
with_words_lem s n w h = subst InWords (sym (with_union s n)) (union_words s (single n) w (single-words n h))

-- the word that has the category, by the tests of the code
pub with_first : (s : CategorySet) (n : ℕ) → n ≤ 64 → ◌≡◌ {A = CategorySet} (record { first = bit_or s.first (2 ^ (64 - n)); second = s.second; third = s.third }) (with_category s n)
unfolding with_category
with_first s n h = rw (le-leb n 64 h)

pub with_second : (s : CategorySet) (n : ℕ) → 64 < n → n ≤ 128 → ◌≡◌ {A = CategorySet} (record { first = s.first; second = bit_or s.second (2 ^ (128 - n)); third = s.third }) (with_category s n)
unfolding with_category
with_second s n h k = rw (lt-leb n 64 h, le-leb n 128 k)

pub with_third : (s : CategorySet) (n : ℕ) → 128 < n → ◌≡◌ {A = CategorySet} (record { first = s.first; second = s.second; third = bit_or s.third (2 ^ (192 - n)) }) (with_category s n)
unfolding with_category
with_third s n h = let k : 64 < n = omega arith in rw (lt-leb n 64 k, lt-leb n 128 h)

-- ---- a set with one category more

-- a digit of a union is set where it is set in one of the two
or_low : (a b : ℕ) → bit_or a b % 2 ≡ max (a % 2) (b % 2)
or_low a b =
    let e = or_step a b in
    omega arith

or_digit : (a b j : ℕ) → bit_or a b / 2 ^ j % 2 ≡ max (a / 2 ^ j % 2) (b / 2 ^ j % 2)
or_digit a b j = rw (or_shr a b j) (or_low (a / 2 ^ j) (b / 2 ^ j))

either : (x y : ℕ) → x < 2 → y < 2 → eqb (max x y) 1 ≡ (eqb x 1 || eqb y 1)
either zero zero hx hy = refl
either zero (suc zero) hx hy = refl
either (suc zero) zero hx hy = refl
either (suc zero) (suc zero) hx hy = refl
either zero (suc (suc y)) hx hy = absurd (omega arith)
either (suc zero) (suc (suc y)) hx hy = absurd (omega arith)
either (suc (suc x)) y hx hy = absurd (omega arith)

-- the digit of a category in another's bit
has_bit : (n k : ℕ) → n ≤ 192 → k ≤ 192 → eqb (category_bit n / category_bit k % 2) 1 ≡ eqb k n
has_bit n k hn hk = by-test (eqb k n) refl
  where
    by_order : (t : Bool) → ltb n k ≡ t → (k ≡ n → ⊥) → category_bit n / category_bit k % 2 ≡ 0
    by_order true e ne = let h = ltb-true n k e in bit_under (192 - n) (192 - k) (omega arith)
    by_order false e ne = let h = ltb-false n k e in bit_over (192 - n) (192 - k) (omega arith)

    by-test : (t : Bool) → eqb k n ≡ t → eqb (category_bit n / category_bit k % 2) 1 ≡ t
    by-test true e = rw (eqb-true k n e, bit_same (192 - n))
    by-test false e = rw (by_order (ltb n k) refl (eqb-false k n e))

-- the set has the categories that it had, and the one
pub has_with : (s : CategorySet) (n k : ℕ) → InWords s → Category n → Category k → has_category (with_category s n) k ≡ (has_category s k || eqb k n)
has_with s n k w hn hk =
    ap (λ (v : ℕ). eqb (v / category_bit k % 2) 1) (with_value s n w hn)
    ∙ ap (λ (x : ℕ). eqb x 1) (or_digit (value s) (category_bit n) (192 - k))
    ∙ either (value s / category_bit k % 2) (category_bit n / category_bit k % 2) (mod-lt _ (omega arith)) (mod-lt _ (omega arith))
    ∙ ap (λ (t : Bool). has_category s k || t) (has_bit n k (omega arith) (omega arith))

-- no category has a bit below 2 ^ 8
with_low : (s : CategorySet) (n : ℕ) → Category n → (with_category s n).third % 256 ≡ s.third % 256
unfolding with_category
with_low s n h = by_word (leb n 64) (leb n 128) refl
  where
    big : 128 < n → 2 ^ (192 - n) % 256 ≡ 0
    big l =
        let e : 192 - n ≡ 184 - n + 8 = omega arith in
        ap (λ (x : ℕ). 2 ^ x % 256) e ∙ rw (pow-add 2 (184 - n) 8) (mul-mod_left (2 ^ (184 - n)) 256)

    low_or : (a b : ℕ) → b % 256 ≡ 0 → bit_or a b % 256 ≡ a % 256
    low_or a b z = or_mod a b 8 ∙ rw z (or_zero_r (a % 256))

    by_word : (a b : Bool) → leb n 128 ≡ b
        → (cond {A = CategorySet} a
        (record { first = bit_or s.first (2 ^ (64 - n)); second = s.second; third = s.third })
        (cond b
        (record { first = s.first; second = bit_or s.second (2 ^ (128 - n)); third = s.third })
        (record { first = s.first; second = s.second; third = bit_or s.third (2 ^ (192 - n)) }))).third % 256
        ≡ s.third % 256
    by_word true b p = refl
    by_word false true p = refl
    by_word false false p = low_or s.third (2 ^ (192 - n)) (big (leb-false n 128 p))

pub with_known : (s : CategorySet) (n : ℕ) → Category n → known_set (with_category s n) ≡ known_set s
with_known s n h = ap (λ (x : ℕ). eqb x 0) (with_low s n h)

-- ---- how many categories a set has

those-append : (p : ℕ → Bool) (ns ms : List ℕ) → those p (ns ++ ms) ≡ those p ns ++ those p ms
those-append p [] ms = refl
those-append p (n ∷ ns) ms = by-test (p n) (those-append p ns ms)
  where
    by-test : (t : Bool) → those p (ns ++ ms) ≡ those p ns ++ those p ms → cond t (n ∷ those p (ns ++ ms)) (those p (ns ++ ms)) ≡ cond t (n ∷ those p ns) (those p ns) ++ those p ms
    by-test true e = rw e
    by-test false e = e

one-digit : (n d : ℕ) → d < 2 → length (cond (eqb d 1) (n ∷ []) []) ≡ d
one-digit n zero h = refl
one-digit n (suc zero) h = refl
one-digit n (suc (suc d)) h = absurd (omega arith)

-- the digits of a number from category m on hold those before
above : (v m : ℕ) → m < 192 → v / 2 ^ (192 - (m + 1)) / 2 ≡ v / 2 ^ (192 - m)
above v m h = let e : 192 - (m + 1) + 1 ≡ 192 - m = omega arith in shr-shr v (192 - (m + 1)) 1 ∙ ap (λ (x : ℕ). v / 2 ^ x) e

-- the first m categories are the top m digits
count_top : (v m : ℕ) → v < 2 ^ 192 → m ≤ 192 → length (those (λ (n : ℕ). eqb (v / category_bit n % 2) 1) (entries (λ (k : ℕ). k + 1) m)) ≡ ones (v / 2 ^ (192 - m))
unfolding entries ones
count_top v zero h l = rw (div-eq_of_lt h)
count_top v (suc m) h l =
    let f : ℕ → ℕ = λ (k : ℕ). k + 1 in
    let p : ℕ → Bool = λ (n : ℕ). eqb (v / category_bit n % 2) 1 in
    let top : ℕ = v / 2 ^ (192 - (m + 1)) in
    let ih = count_top v m h (omega arith) in
    let split : length (those p (entries f (suc m))) ≡ length (those p (entries f m)) + length (those p ((m + 1) ∷ [])) = ap length (those-append p (entries f m) ((m + 1) ∷ [])) ∙ length-append (those p (entries f m)) (those p ((m + 1) ∷ [])) in
    let last : length (those p ((m + 1) ∷ [])) ≡ top % 2 = one-digit (m + 1) (top % 2) (omega arith) in
    let rest : ones (top / 2) ≡ ones (v / 2 ^ (192 - m)) = ap ones (above v m (omega arith)) in
    let all-of-it : length (those p (entries f (suc m))) ≡ ones top = omega (arith, ones_step top) in
    all-of-it ∙ ap (λ (x : ℕ). ones (v / 2 ^ (192 - x))) (add-one m)

-- the ones of the three words, the third without its eight lowest bits
pub count_ones : (s : CategorySet) → InWords s → ones s.first + ones s.second + ones (s.third / 2 ^ 8) ≡ length (categories s)
unfolding categories value
count_ones s w =
    sym (count_top (value s) 184 (value_lt s w) (omega arith)
    ∙ ap ones (above_seam (s.first * 2 ^ 64 + s.second) s.third 8 56)
    ∙ ones_cat 56 (s.first * 2 ^ 64 + s.second) (s.third / 2 ^ 8) (shr_lt 56 8 w.third)
    ∙ ap (λ (x : ℕ). x + ones (s.third / 2 ^ 8)) (ones_cat 64 s.first s.second w.second))

-- ---- a set is its categories and the eight lowest bits

same-digit : (x y : ℕ) → x < 2 → y < 2 → eqb x 1 ≡ eqb y 1 → x ≡ y
same-digit zero zero hx hy e = refl
same-digit zero (suc zero) hx hy e = absurd (no e)
same-digit (suc zero) zero hx hy e = absurd (no (sym e))
same-digit (suc zero) (suc zero) hx hy e = refl
same-digit zero (suc (suc y)) hx hy e = absurd (omega arith)
same-digit (suc zero) (suc (suc y)) hx hy e = absurd (omega arith)
same-digit (suc (suc x)) y hx hy e = absurd (omega arith)

module _ (a b : CategorySet) (ha : InWords a) (hb : InWords b) (same : (k : ℕ) → Category k → has_category a k ≡ has_category b k) where
  same_top : (m : ℕ) → m ≤ 184 → value a / 2 ^ (192 - m) ≡ value b / 2 ^ (192 - m)
  same_top zero l = rw (div-eq_of_lt (value_lt a ha), div-eq_of_lt (value_lt b hb))
  same_top (suc m) l =
      let x : ℕ = value a / 2 ^ (192 - (m + 1)) in
      let y : ℕ = value b / 2 ^ (192 - (m + 1)) in
      let ih = same_top m (omega arith) in
      let halves : x / 2 ≡ y / 2 = above (value a) m (omega arith) ∙ ih ∙ sym (above (value b) m (omega arith)) in
      let digits : x % 2 ≡ y % 2 = same-digit (x % 2) (y % 2) (omega arith) (omega arith) (same (m + 1) (omega arith, omega arith)) in
      let e : x ≡ y = omega arith in
      rw (← add-one m) e

  pub same_set_lem : a.third % 256 ≡ b.third % 256 → a ≡ b
  same_set_lem low_bits =
      let top : value a / 256 ≡ value b / 256 = same_top 184 (omega arith) in
      let bottom : value a % 256 ≡ value b % 256 = value_low a ∙ low_bits ∙ sym (value_low b) in
      value_tells a b ha hb (omega (arith, top, bottom))

-- the eight bits that are no category, and the third word's remainder
eight_zero : (v : ℕ) → ((k : ℕ) → 184 < k → k ≤ 192 → eqb (v / category_bit k % 2) 1 ≡ false) → v % 256 ≡ 0
eight_zero v h =
    let zero-at : (k : ℕ) → 184 < k → k ≤ 192 → v / 2 ^ (192 - k) % 2 ≡ 0 = λ k l m. is_zero (v / 2 ^ (192 - k) % 2) (mod-lt _ (omega arith)) (h k l m) in
    one_more 7 (zero-at 185 (omega arith) (omega arith))
    (one_more 6 (zero-at 186 (omega arith) (omega arith))
    (one_more 5 (zero-at 187 (omega arith) (omega arith))
    (one_more 4 (zero-at 188 (omega arith) (omega arith))
    (one_more 3 (zero-at 189 (omega arith) (omega arith))
    (one_more 2 (zero-at 190 (omega arith) (omega arith))
    (one_more 1 (zero-at 191 (omega arith) (omega arith))
    (one_more 0 (zero-at 192 (omega arith) (omega arith)) (omega arith))))))))
  where
    one_more : (k : ℕ) → v / 2 ^ k % 2 ≡ 0 → v % 2 ^ k ≡ 0 → v % 2 ^ (1 + k) ≡ 0
    one_more k d r = mod-pow-add v 1 k ∙ rw (d, r, zero-mul (2 ^ k))

    is_zero : (x : ℕ) → x < 2 → eqb x 1 ≡ false → x ≡ 0
    is_zero zero l e = refl
    is_zero (suc zero) l e = absurd (no (sym e))
    is_zero (suc (suc x)) l e = absurd (omega arith)

zero_eight : (v : ℕ) → v % 256 ≡ 0 → (k : ℕ) → 184 < k → k ≤ 192 → eqb (v / category_bit k % 2) 1 ≡ false
zero_eight v z k l m =
    let e : v ≡ v / 256 * 2 ^ 8 + 0 = omega (arith, z) in
    ap (λ (x : ℕ). eqb (x / 2 ^ (192 - k) % 2) 1) e
    ∙ ap (λ (x : ℕ). eqb x 1) (below_seam (v / 256) 0 (192 - k) 8 (omega arith) ∙ ap (λ (x : ℕ). x % 2) (div-eq_of_lt (pow_pos (192 - k))))

known-bits : (s : CategorySet) → (known_set s ≡ true) ↔ ((k : ℕ) → 184 < k → k ≤ 192 → has_category s k ≡ false)
known-bits s = (
  λ e. zero_eight (value s) (value_low s ∙ eqb-true _ _ e),
  λ h. eq-eqb _ _ (sym (value_low s) ∙ eight_zero (value s) h),
)

-- ---- where a category lies

module _ (s : CategorySet) (n : ℕ) where
  pub in_first : InWords s → 1 ≤ n → n ≤ 64 → has_category s n ≡ eqb (s.first / 2 ^ (64 - n) % 2) 1
  in_first w l m =
      let e : 192 - n ≡ 64 + (64 + (64 - n)) = omega arith in
      ap (λ (x : ℕ). eqb (x % 2) 1)
      (ap (λ (x : ℕ). value s / 2 ^ x) e
      ∙ sym (shr-shr (value s) 64 (64 + (64 - n)))
      ∙ sym (shr-shr (value s / 2 ^ 64) 64 (64 - n))
      ∙ ap (λ (x : ℕ). x / 2 ^ (64 - n)) (value-first s w))

  pub in_second : InWords s → 64 < n → n ≤ 128 → has_category s n ≡ eqb (s.second / 2 ^ (128 - n) % 2) 1
  in_second w l m =
      let e : 192 - n ≡ 64 + (128 - n) = omega arith in
      ap (λ (x : ℕ). eqb x 1)
      (ap (λ (x : ℕ). x % 2) (ap (λ (x : ℕ). value s / 2 ^ x) e ∙ sym (shr-shr (value s) 64 (128 - n)) ∙ ap (λ (x : ℕ). x / 2 ^ (128 - n)) (value_upper s w))
      ∙ below_seam s.first s.second (128 - n) 64 (omega arith))

  pub in_third : 128 < n → n ≤ 184 → has_category s n ≡ eqb (s.third / 2 ^ (192 - n) % 2) 1
  unfolding value
  in_third l m = ap (λ (x : ℕ). eqb x 1) (below_seam (s.first * 2 ^ 64 + s.second) s.third (192 - n) 64 (omega arith))

-- bit j, from the top, of the byte that stands k bits up
pub byte-digit : (v k j : ℕ) → j < 8 → v / 2 ^ k % 256 / 2 ^ (7 - j) % 2 ≡ v / 2 ^ (k + (7 - j)) % 2
byte-digit v k j h =
    let e : 8 ≡ j + 1 + (7 - j) = omega arith in
    ap (λ (x : ℕ). x % 2) (ap (λ (x : ℕ). v / 2 ^ k % 2 ^ x / 2 ^ (7 - j)) e ∙ field (v / 2 ^ k) (j + 1) (7 - j))
    ∙ mod-mod-pow (v / 2 ^ k / 2 ^ (7 - j)) j 1
    ∙ ap (λ (x : ℕ). x % 2) (shr-shr v k (7 - j))

pub in_byte : (s : CategorySet) (i j : ℕ) → i < 24 → j < 8 → has_category s (8 * i + j + 1) ≡ eqb (byte_of s i / 2 ^ (7 - j) % 2) 1
in_byte s i j hi hj =
    let e : 192 - (8 * i + j + 1) ≡ 8 * (23 - i) + (7 - j) = omega arith in
    ap (λ (x : ℕ). eqb (value s / 2 ^ x % 2) 1) e ∙ ap (λ (x : ℕ). eqb x 1) (sym (byte-digit (value s) (8 * (23 - i)) j hj))

-- ---- a number that is a category

pub is_category_lem : (n : ℕ) → is_category n ≡ true → Category n
is_category_lem n e = let h = and_both (leb 1 n) (leb n 184) e in (leb-true 1 n h.0, leb-true n 184 h.1)

pub category_is : (n : ℕ) → Category n → is_category n ≡ true
category_is n h = rw (le-leb 1 n h.0, le-leb n 184 h.1)

-- ---- the categories of a set, listed

those_member : (p : ℕ → Bool) (k : ℕ) (l : List ℕ) → Memᴰ k (those p l) ↔ ((p k ≡ true) × Memᴰ k l)
those_member p k [] = (λ m. absurd (mathlib.Core.List.Memᴰ.not-nil m), λ q. absurd (mathlib.Core.List.Memᴰ.not-nil q.1))
those_member p k (x ∷ xs) = by-test (p x) refl (those_member p k xs)
  where
    by-test :
        (b : Bool) →
        p x ≡ b →
        Memᴰ k (those p xs) ↔ ((p k ≡ true) × Memᴰ k xs) →
        Memᴰ k (cond b (x ∷ those p xs) (those p xs)) ↔ ((p k ≡ true) × Memᴰ k (x ∷ xs))
    by-test true e ih = (
      λ m.
          ⊎_elim
          (λ (z : k ≡ x). (ap p z ∙ e, mathlib.Core.List.Memᴰ.head z))
          (λ (q : Memᴰ k (those p xs)). let h = ih.0 q in (h.0, mathlib.Core.List.Memᴰ.tail h.1))
          (mathlib.Core.List.Memᴰ.cases_cons m),
      λ q. ⊎_elim (λ (z : k ≡ x). mathlib.Core.List.Memᴰ.head z) (λ (m : Memᴰ k xs). mathlib.Core.List.Memᴰ.tail (ih.1 (q.0, m))) (mathlib.Core.List.Memᴰ.cases_cons q.1),
    )
    by-test false e ih = (
      λ m. let h = ih.0 m in (h.0, mathlib.Core.List.Memᴰ.tail h.1),
      λ q. ⊎_elim (λ (z : k ≡ x). absurd (no (sym e ∙ ap p (sym z) ∙ q.0))) (λ (m : Memᴰ k xs). ih.1 (q.0, m)) (mathlib.Core.List.Memᴰ.cases_cons q.1),
    )

member_passes : (p : ℕ → Bool) (k : ℕ) (l : List ℕ) → all p l ≡ true → Memᴰ k l → p k ≡ true
unfolding all
member_passes p k [] e m = absurd (mathlib.Core.List.Memᴰ.not-nil m)
member_passes p k (x ∷ xs) e m =
    let h = and_both (p x) (all p xs) e in
    ⊎_elim (λ (z : k ≡ x). ap p z ∙ h.0) (λ (q : Memᴰ k xs). member_passes p k xs h.1 q) (mathlib.Core.List.Memᴰ.cases_cons m)

entry_member : (l : List ℕ) (i : ℕ) → i < length l → Memᴰ (get_or l i 0) l
entry_member [] i h = absurd (omega arith)
entry_member (x ∷ xs) zero h = mathlib.Core.List.Memᴰ.head refl
entry_member (x ∷ xs) (suc i) h = mathlib.Core.List.Memᴰ.tail (entry_member xs i (le_of_suc-le-suc h))

abbrev candidates : List ℕ
candidates = entries (λ (k : ℕ). k + 1) 184

candidates_are : all is_category candidates ≡ true
unfolding all entries
candidates_are = refl

category_member : (k : ℕ) → Category k → Memᴰ k candidates
category_member k h =
    let i : k - 1 < 184 = omega arith in
    let e : get_or candidates (k - 1) 0 ≡ k = entries_at (λ (j : ℕ). j + 1) 0 184 (k - 1) i ∙ omega arith in
    subst (λ (x : ℕ). Memᴰ x candidates) e (entry_member candidates (k - 1) (omega (arith, entries-length (λ (j : ℕ). j + 1) 184)))

-- each above the one before, and the first above b
abbrev ascends : ℕ → List ℕ → Bool
ascends b [] = true
ascends b (x ∷ xs) = ltb b x && ascends x xs

ascends_from : (a b : ℕ) (l : List ℕ) → a < b → ascends b l ≡ true → ascends a l ≡ true
ascends_from a b [] h e = refl
ascends_from a b (x ∷ xs) h e =
    let q = and_both (ltb b x) (ascends x xs) e in
    rw (lt-ltb a x (omega (arith, ltb-true b x q.0)), q.1)

those_ascend : (p : ℕ → Bool) (b : ℕ) (l : List ℕ) → ascends b l ≡ true → ascends b (those p l) ≡ true
those_ascend p b [] e = refl
those_ascend p b (x ∷ xs) e =
    let q = and_both (ltb b x) (ascends x xs) e in
    by-test (p x) q.0 (those_ascend p x xs q.1)
  where
    by-test : (t : Bool) → ltb b x ≡ true → ascends x (those p xs) ≡ true → ascends b (cond t (x ∷ those p xs) (those p xs)) ≡ true
    by-test true h ih = rw (h, ih)
    by-test false h ih = ascends_from b x (those p xs) (ltb-true b x h) ih

ascends_at : (b : ℕ) (l : List ℕ) (i : ℕ) → ascends b l ≡ true → suc i < length l → get_or l i 0 < get_or l (suc i) 0
ascends_at b [] i e h = absurd (omega arith)
ascends_at b (x ∷ []) i e h = absurd (omega arith)
ascends_at b (x ∷ y ∷ ys) zero e h = ltb-true x y (and_both (ltb x y) (ascends y ys) (and_both (ltb b x) (ltb x y && ascends y ys) e).1).0
ascends_at b (x ∷ y ∷ ys) (suc i) e h = ascends_at x (y ∷ ys) i (and_both (ltb b x) (ltb x y && ascends y ys) e).1 (le_of_suc-le-suc h)

candidates_ascend : ascends 0 candidates ≡ true
unfolding entries
candidates_ascend = refl

listed_are : (s : CategorySet) (k : ℕ) → Memᴰ k (categories s) ↔ ((is_category k ≡ true) × (has_category s k ≡ true))
unfolding categories
listed_are s k =
    let h = those_member (has_category s) k candidates in (
      λ m. let q = h.0 m in (member_passes is_category k candidates candidates_are q.1, q.0),
      λ q. h.1 (q.1, category_member k (is_category_lem k q.0)),
    )

listed_ascend : (s : CategorySet) (i : ℕ) → suc i < length (categories s) → get_or (categories s) i 0 < get_or (categories s) (suc i) 0
unfolding categories
listed_ascend s i h = ascends_at 0 (those (has_category s) candidates) i (those_ascend (has_category s) 0 candidates candidates_ascend) h

-- ---- a known set is made of its categories

-- what a list of categories makes of a set: it has what it had, and those of the list
module _ (k : ℕ) (hk : Category k) where
  made-has :
      (s : CategorySet) (l : List ℕ) → InWords s → all is_category l ≡ true → (has_category (foldl with_category s l) k ≡ true) ↔ ((has_category s k ≡ true) ⊎ Memᴰ k l)
  unfolding all
  made-has s [] w h = (λ e. inl e, λ q. ⊎_elim (λ e. e) (λ m. absurd (mathlib.Core.List.Memᴰ.not-nil m)) q)
  made-has s (n ∷ l) w h =
      let t = and_both (is_category n) (all is_category l) h in
      let hn = is_category_lem n t.0 in
      let ih = made-has (with_category s n) l (with_words_lem s n w hn) t.1 in
      let one = has_with s n k w hn hk in (
        λ e. ⊎_elim (λ e₁. came (has_category s k) (eqb k n) refl refl (sym one ∙ e₁)) (λ m. inr (mathlib.Core.List.Memᴰ.tail m)) (ih.0 e),
        λ q. ih.1 (⊎_elim (λ e₁. inl (one ∙ rw e₁)) (λ m. ⊎_elim (λ (z : k ≡ n). inl (one ∙ ap (λ (t : Bool). has_category s k || t) (eq-eqb k n z) ∙ or-true (has_category s k))) (λ m₁. inr m₁) (mathlib.Core.List.Memᴰ.cases_cons m)) q),
      )
    where
      or-true : (b : Bool) → (b || true) ≡ true
      or-true true = refl
      or-true false = refl

      came : (b c : Bool) → has_category s k ≡ b → eqb k n ≡ c → (b || c) ≡ true → (has_category s k ≡ true) ⊎ Memᴰ k (n ∷ l)
      came true c p q e = inl p
      came false true p q e = inr (mathlib.Core.List.Memᴰ.head (eqb-true k n q))
      came false false p q e = absurd (no e)

made-words : (s : CategorySet) (l : List ℕ) → InWords s → all is_category l ≡ true → InWords (foldl with_category s l)
unfolding all
made-words s [] w h = w
made-words s (n ∷ l) w h = let t = and_both (is_category n) (all is_category l) h in made-words (with_category s n) l (with_words_lem s n w (is_category_lem n t.0)) t.1

made-low : (s : CategorySet) (l : List ℕ) → all is_category l ≡ true → (foldl with_category s l).third % 256 ≡ s.third % 256
unfolding all
made-low s [] h = refl
made-low s (n ∷ l) h = let t = and_both (is_category n) (all is_category l) h in made-low (with_category s n) l t.1 ∙ with_low s n (is_category_lem n t.0)

those_pass : (p q : ℕ → Bool) (l : List ℕ) → all q l ≡ true → all q (those p l) ≡ true
unfolding all
those_pass p q [] e = refl
those_pass p q (x ∷ xs) e = let t = and_both (q x) (all q xs) e in by-test (p x) t.0 (those_pass p q xs t.1)
  where
    by-test : (b : Bool) → q x ≡ true → all q (those p xs) ≡ true → all q (cond b (x ∷ those p xs) (those p xs)) ≡ true
    by-test true a ih = rw (a, ih)
    by-test false a ih = ih

listed_pass : (s : CategorySet) → all is_category (categories s) ≡ true
unfolding categories
listed_pass s = those_pass (has_category s) is_category candidates candidates_are

pub none-words : InWords no_categories
none-words = record { first = omega arith; second = omega arith; third = omega arith }

has-none : (k : ℕ) → has_category no_categories k ≡ false
unfolding value
has-none k = rw (div-eq_of_lt (pow_pos (192 - k)))

made_of : (s : CategorySet) → InWords s → known_set s ≡ true → foldl with_category no_categories (categories s) ≡ s
made_of s w known =
    let pass = listed_pass s in
    same_set_lem (foldl with_category no_categories (categories s)) s (made-words no_categories (categories s) none-words pass) w
    (λ k hk. same_test (made-has k hk no_categories (categories s) none-words pass) (listed_are s k) hk)
    (made-low no_categories (categories s) pass ∙ sym (eqb-true _ _ known))
  where
    same_test : {k : ℕ} {a : Bool} → (a ≡ true) ↔ ((has_category no_categories k ≡ true) ⊎ Memᴰ k (categories s)) → Memᴰ k (categories s) ↔ ((is_category k ≡ true) × (has_category s k ≡ true)) → Category k → a ≡ has_category s k
    same_test {k} {a} h m hk = by-test a (has_category s k) refl refl
      where
        by-test : (x y : Bool) → a ≡ x → has_category s k ≡ y → x ≡ y
        by-test true true p q = refl
        by-test false false p q = refl
        by-test true false p q = absurd (no (sym q ∙ ⊎_elim (λ e. absurd (no (sym (has-none k) ∙ e))) (λ l. (m.0 l).1) (h.0 p)))
        by-test false true p q = absurd (no (sym p ∙ h.1 (inr (m.1 (category_is k hk, q)))))

-- ---- the set of the categories that pass a test

module _ (p : ℕ → Bool) where
  passing-all : all is_category (those p candidates) ≡ true
  passing-all = those_pass p is_category candidates candidates_are

  pub passing_words : InWords (set_of p)
  unfolding set_of
  passing_words = made-words no_categories (those p candidates) none-words passing-all

  pub passing_known : known_set (set_of p) ≡ true
  unfolding set_of
  passing_known = rw (made-low no_categories (those p candidates) passing-all)

  pub passing-has : (k : ℕ) → Category k → has_category (set_of p) k ≡ p k
  unfolding set_of
  passing-has k hk = by-test (has_category (foldl with_category no_categories (those p candidates)) k) (p k) refl refl
    where
      by-test : (x y : Bool) → has_category (foldl with_category no_categories (those p candidates)) k ≡ x → p k ≡ y → x ≡ y
      by-test true true e q = refl
      by-test false false e q = refl
      by-test true false e q = absurd (no (sym q ∙ ⊎_elim (λ h. absurd (no (sym (has-none k) ∙ h))) (λ m. ((those_member p k candidates).0 m).0) ((made-has k hk no_categories (those p candidates) none-words passing-all).0 e)))
      by-test false true e q = absurd (no (sym e ∙ (made-has k hk no_categories (those p candidates) none-words passing-all).1 (inr ((those_member p k candidates).1 (q, category_member k hk)))))

-- ---- a set is told by its categories, and made of them

set-equal : (a b : CategorySet) → (same_set a b ≡ true) ↔ (a ≡ b)
set-equal a b = (
  λ e.
      let t = and_both _ _ e in
      let u = and_both _ _ t.1 in
      same-words (eqb-true _ _ t.0) (eqb-true _ _ u.0) (eqb-true _ _ u.1),
  λ e. rw (e, eq-eqb b.first b.first refl, eq-eqb b.second b.second refl, eq-eqb b.third b.third refl),
)

pub category_sets : CategorySets
category_sets =
    record {
      none = λ k h. has-none k;
      one_more = λ s n k w hn hk. has_with s n k w (is_category_lem n hn) (is_category_lem k hk);
      still_known = λ s n hn. with_known s n (is_category_lem n hn);
      still_words = λ s n w hn. with_words_lem s n w (is_category_lem n hn);
      known = known-bits;
      same = λ a b ha hb ka kb h. (set-equal a b).1 (same_set_lem a b ha hb (λ k i. h k (category_is k i)) (eqb-true _ _ ka ∙ sym (eqb-true _ _ kb)));
      equal = set-equal;
      listed = listed_are;
      ascending = listed_ascend;
      made = made_of;
      passing = λ p k h. passing-has p k (is_category_lem k h);
      passing_known = passing_known;
      passing_words = passing_words;
      in_first = in_first;
      in_second = in_second;
      in_third = in_third;
      in_byte = λ s i j hi hj. in_byte s i j (omega arith) hj;
      byte = λ s i. mod-lt _ (omega arith);
      last_byte = λ s k. ap (λ (x : ℕ). x % 256) (div-one (value s)) ∙ value_low s ∙ eqb-true _ _ k;
    }

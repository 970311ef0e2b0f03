-- Laws of bytes by their bits, and of sets of categories as bytes. Assumes nothing.
use mathlib.Core.Path.{◌≡◌, refl, sym, ap, ◌∙◌}
use mathlib.Core.Bool.{Bool, true, false, not, ◌&&◌, ◌||◌, and-false}
use mathlib.Core.Logic.{◌⊎◌, inl, inr, ⊎_elim}
use mathlib.Core.List.{List, [], ◌∷◌}
use Prim.Native.Nat.{ℕ, zero, suc, ◌+◌, ◌-◌, ◌*◌, ◌/◌, ◌%◌, ◌^◌, ◌<◌, ◌≤◌}
use native.Mathlib.Nat.{add-zero, mod-lt, mul-div_cancel, div-eq_of_lt, div-one}
use native.Mathlib.Omega.{arith}
use lib.Dec.{eqb, leb, ltb}
use lib.Pow.{pow_pos, shr-shr, field, mod-mod-pow}
use borrow.Author.Tests.{eqb-true, eq-eqb, ne_eqb, ltb-true, ltb-false, leb-true, leb-false, lt-leb}
use lib.ListN.{length, get_or, get_or-eq_default}
use lib.Seq.{ext_get_or}
use Rattle.search.specs.Search.{entries}
use Rattle.search.proofs.Laws.{no, all-at, all-by, entries-length, entries_at, entries-same}
use Rattle.numbers.specs.Categories.{is_category, value, has_category, byte_of, set_of, known_set, InWords}
use Rattle.numbers.specs.Within.{Category}
use Rattle.numbers.specs.declared.CategorySet.{CategorySet}
use Rattle.numbers.proofs.Sets.{value_lt, value-first, value-second, value-third, byte-digit, in_byte, in_first, in_second, in_third, same_set_lem, passing-has, passing_words, passing_known, is_category_lem, category_is, category_sets}
use Rattle.set_bytes.specs.SetBytes.{bit_at, digit, byte_where, bytes_where, bitmap_bytes, set_of_bitmap, only_categories, own_bytes, set_of_own, Bytes, BitsAndCategories}
use Rattle.set_bytes.specs.Within.{word_from, halved}

-- ---- a byte and its bits

digit-is : (x : ℕ) → x < 2 → digit (eqb x 1) ≡ x
digit-is zero h = refl
digit-is (suc zero) h = refl
digit-is (suc (suc x)) h = absurd (omega arith)

halves : (x : ℕ) → x ≡ x / 2 * 2 + x % 2
halves x = omega arith

-- the byte whose bits are those of b is b
pub byte-whole : (b : ℕ) (p : ℕ → Bool) → b < 256 → ((j : ℕ) → j < 8 → p j ≡ eqb (b / 2 ^ (7 - j) % 2) 1) → byte_where p ≡ b
unfolding byte_where
byte-whole b p h same =
    let at : (j : ℕ) → j < 8 → digit (p j) ≡ b / 2 ^ (7 - j) % 2 = λ j hj. ap digit (same j hj) ∙ digit-is (b / 2 ^ (7 - j) % 2) (mod-lt _ (omega arith)) in
    let e₀ = at 0 (omega arith) in
    let e₁ = at 1 (omega arith) in
    let e₂ = at 2 (omega arith) in
    let e₃ = at 3 (omega arith) in
    let e₄ = at 4 (omega arith) in
    let e₅ = at 5 (omega arith) in
    let e₆ = at 6 (omega arith) in
    let e₇ = at 7 (omega arith) in
    rw (e₀, e₁, e₂, e₃, e₄, e₅, e₆, e₇)
    (eight (b / 2 ^ 0) (b / 2 ^ 1) (b / 2 ^ 2) (b / 2 ^ 3) (b / 2 ^ 4) (b / 2 ^ 5) (b / 2 ^ 6) (b / 2 ^ 7) (b / 2 ^ 8) (half 0) (half 1) (half 2) (half 3) (half 4) (half 5) (half 6) (half 7) (div-eq_of_lt h)
    ∙ div-one b)
  where
    half : (k : ℕ) → b / 2 ^ k ≡ b / 2 ^ (k + 1) * 2 + b / 2 ^ k % 2
    half k = rw (← shr-shr b k 1) (halves (b / 2 ^ k))

    eight : (a₀ a₁ a₂ a₃ a₄ a₅ a₆ a₇ a₈ : ℕ)
        → a₀ ≡ a₁ * 2 + a₀ % 2
        → a₁ ≡ a₂ * 2 + a₁ % 2
        → a₂ ≡ a₃ * 2 + a₂ % 2
        → a₃ ≡ a₄ * 2 + a₃ % 2
        → a₄ ≡ a₅ * 2 + a₄ % 2
        → a₅ ≡ a₆ * 2 + a₅ % 2
        → a₆ ≡ a₇ * 2 + a₆ % 2
        → a₇ ≡ a₈ * 2 + a₇ % 2
        → a₈ ≡ 0
        → a₇ % 2 * 128 + a₆ % 2 * 64 + a₅ % 2 * 32 + a₄ % 2 * 16 + a₃ % 2 * 8 + a₂ % 2 * 4 + a₁ % 2 * 2 + a₀ % 2 ≡ a₀
    eight a₀ a₁ a₂ a₃ a₄ a₅ a₆ a₇ a₈ e₀ e₁ e₂ e₃ e₄ e₅ e₆ e₇ e₈ = linear (a₀ % 2) (a₁ % 2) (a₂ % 2) (a₃ % 2) (a₄ % 2) (a₅ % 2) (a₆ % 2) (a₇ % 2) e₀ e₁ e₂ e₃ e₄ e₅ e₆ e₇ e₈
      where
        linear : (d₀ d₁ d₂ d₃ d₄ d₅ d₆ d₇ : ℕ)
            → a₀ ≡ a₁ * 2 + d₀
            → a₁ ≡ a₂ * 2 + d₁
            → a₂ ≡ a₃ * 2 + d₂
            → a₃ ≡ a₄ * 2 + d₃
            → a₄ ≡ a₅ * 2 + d₄
            → a₅ ≡ a₆ * 2 + d₅
            → a₆ ≡ a₇ * 2 + d₆
            → a₇ ≡ a₈ * 2 + d₇
            → a₈ ≡ 0
            → d₇ * 128 + d₆ * 64 + d₅ * 32 + d₄ * 16 + d₃ * 8 + d₂ * 4 + d₁ * 2 + d₀ ≡ a₀
        linear d₀ d₁ d₂ d₃ d₄ d₅ d₆ d₇ f₀ f₁ f₂ f₃ f₄ f₅ f₆ f₇ f₈ = omega arith

-- ---- the bytes of a set's words

-- a byte of the lower 64 bits
low_byte : (x k : ℕ) → k ≤ 56 → x / 2 ^ k % 2 ^ 8 ≡ x % 2 ^ 64 / 2 ^ k % 2 ^ 8
low_byte x k h =
    let e : 56 - k + (8 + k) ≡ 64 = omega arith in
    sym (field x 8 k) ∙ ap (λ (y : ℕ). y / 2 ^ k) (sym (mod-mod-pow x (56 - k) (8 + k)) ∙ ap (λ (y : ℕ). x % 2 ^ y % 2 ^ (8 + k)) e) ∙ field (x % 2 ^ 64) 8 k

module _ (s : CategorySet) (w : InWords s) (i : ℕ) where
  pub first_byte : i < 8 → s.first / 2 ^ (56 - 8 * i) % 256 ≡ byte_of s i
  first_byte h =
      let e : 64 + (64 + (56 - 8 * i)) ≡ 8 * (23 - i) = omega arith in
      ap (λ (x : ℕ). x % 256)
      (ap (λ (x : ℕ). x / 2 ^ (56 - 8 * i)) (sym (value-first s w)) ∙ shr-shr (value s / 2 ^ 64) 64 (56 - 8 * i) ∙ shr-shr (value s) 64 (64 + (56 - 8 * i)) ∙ ap (λ (x : ℕ). value s / 2 ^ x) e)

  pub second-byte : 8 ≤ i → i < 16 → s.second / 2 ^ (120 - 8 * i) % 256 ≡ byte_of s i
  second-byte l h =
      let e : 64 + (120 - 8 * i) ≡ 8 * (23 - i) = omega arith in
      ap (λ (x : ℕ). x / 2 ^ (120 - 8 * i) % 256) (sym (value-second s w))
      ∙ sym (low_byte (value s / 2 ^ 64) (120 - 8 * i) (omega arith))
      ∙ ap (λ (x : ℕ). x % 256) (shr-shr (value s) 64 (120 - 8 * i) ∙ ap (λ (x : ℕ). value s / 2 ^ x) e)

  pub third-byte : 16 ≤ i → i < 24 → s.third / 2 ^ (184 - 8 * i) % 256 ≡ byte_of s i
  third-byte l h =
      let e : 184 - 8 * i ≡ 8 * (23 - i) = omega arith in
      ap (λ (x : ℕ). x / 2 ^ (184 - 8 * i) % 256) (sym (value-third s w))
      ∙ sym (low_byte (value s) (184 - 8 * i) (omega arith))
      ∙ ap (λ (x : ℕ). value s / 2 ^ x % 256) e

-- ---- a set as its own bytes, and as a bitmap

pub own-bytes : (s : CategorySet) → own_bytes s ≡ entries (byte_of s) 23
unfolding own_bytes bytes_where
own-bytes s =
    entries-same (λ (i : ℕ). byte_where (λ (j : ℕ). has_category s (8 * i + j + 1))) (byte_of s) 23
    (λ i hi. byte-whole (byte_of s i) (λ (j : ℕ). has_category s (8 * i + j + 1)) (mod-lt _ (omega arith)) (λ j hj. in_byte s i j (omega arith) hj))

pub own-length : (s : CategorySet) → length (own_bytes s) ≡ 23
own-length s = ap length (own-bytes s) ∙ entries-length (byte_of s) 23

value-halved : (s : CategorySet) → value (halved s) ≡ value s / 2
unfolding value halved
value-halved s =
    ap (λ (x : ℕ). x * 2 ^ 64 + (s.second % 2 * 2 ^ 63 + s.third / 2)) (upper s.first s.second)
    ∙ ap (λ (x : ℕ). (s.first * 2 ^ 64 + s.second) / 2 * 2 ^ 64 + (x * 2 ^ 63 + s.third / 2)) (odd s.first s.second)
    ∙ lower (s.first * 2 ^ 64 + s.second) s.third
  where
    upper : (x y : ℕ) → x / 2 * 2 ^ 64 + (x % 2 * 2 ^ 63 + y / 2) ≡ (x * 2 ^ 64 + y) / 2
    upper x y = omega arith

    odd : (x y : ℕ) → y % 2 ≡ (x * 2 ^ 64 + y) % 2
    odd x y = omega arith

    lower : (x y : ℕ) → x / 2 * 2 ^ 64 + (x % 2 * 2 ^ 63 + y / 2) ≡ (x * 2 ^ 64 + y) / 2
    lower x y = omega arith

pub half_lt : (x y : ℕ) → y < 2 ^ 64 → x % 2 * 2 ^ 63 + y / 2 < 2 ^ 64
half_lt x y h = omega arith

pub bitmap-bytes : (s : CategorySet) → bitmap_bytes s ≡ entries (byte_of (halved s)) 24
unfolding bitmap_bytes bytes_where
bitmap-bytes s =
    entries-same (λ (i : ℕ). byte_where (λ (j : ℕ). has_category s (8 * i + j))) (byte_of (halved s)) 24
    (λ i hi. byte-whole (byte_of (halved s) i) (λ (j : ℕ). has_category s (8 * i + j)) (mod-lt _ (omega arith)) (λ j hj. bit i j hi hj))
  where
    bit : (i j : ℕ) → i < 24 → j < 8 → has_category s (8 * i + j) ≡ eqb (byte_of (halved s) i / 2 ^ (7 - j) % 2) 1
    bit i j hi hj =
        let e : 192 - (8 * i + j) ≡ 1 + (8 * (23 - i) + (7 - j)) = omega arith in
        ap (λ (x : ℕ). eqb (x % 2) 1) (ap (λ (x : ℕ). value s / 2 ^ x) e ∙ sym (shr-shr (value s) 1 (8 * (23 - i) + (7 - j))) ∙ ap (λ (x : ℕ). x / 2 ^ (8 * (23 - i) + (7 - j))) (sym (value-halved s)))
        ∙ ap (λ (x : ℕ). eqb x 1) (sym (byte-digit (value (halved s)) (8 * (23 - i)) j hj))

pub bitmap-length : (s : CategorySet) → length (bitmap_bytes s) ≡ 24
bitmap-length s = ap length (bitmap-bytes s) ∙ entries-length (byte_of (halved s)) 24

-- ---- words made of bytes

pub all-bytes : (b : List ℕ) → ((i : ℕ) → i < length b → get_or b i 0 < 256) → Bytes b
all-bytes b h i = by-test (ltb i (length b)) refl
  where
    by-test : (t : Bool) → ltb i (length b) ≡ t → get_or b i 0 < 256
    by-test true e = h i (ltb-true _ _ e)
    by-test false e = rw (get_or-eq_default b 0 (ltb-false _ _ e)) (omega arith)

eight_bytes : (a b c d e f g h i : ℕ) → a < 256 → b < 256 → c < 256 → d < 256 → e < 256 → f < 256 → g < 256 → h < 256 → i < 8 →
    (a * 2 ^ 56 + b * 2 ^ 48 + c * 2 ^ 40 + d * 2 ^ 32 + e * 2 ^ 24 + f * 2 ^ 16 + g * 2 ^ 8 + h) / 2 ^ (56 - 8 * i) % 256
    ≡ get_or (a ∷ b ∷ c ∷ d ∷ e ∷ f ∷ g ∷ h ∷ []) i 0
eight_bytes a b c d e f g h zero ha hb hc hd he hf hg hh l = omega arith
eight_bytes a b c d e f g h (suc zero) ha hb hc hd he hf hg hh l = omega arith
eight_bytes a b c d e f g h (suc (suc zero)) ha hb hc hd he hf hg hh l = omega arith
eight_bytes a b c d e f g h (suc (suc (suc zero))) ha hb hc hd he hf hg hh l = omega arith
eight_bytes a b c d e f g h (suc (suc (suc (suc zero)))) ha hb hc hd he hf hg hh l = omega arith
eight_bytes a b c d e f g h (suc (suc (suc (suc (suc zero))))) ha hb hc hd he hf hg hh l = omega arith
eight_bytes a b c d e f g h (suc (suc (suc (suc (suc (suc zero)))))) ha hb hc hd he hf hg hh l = omega arith
eight_bytes a b c d e f g h (suc (suc (suc (suc (suc (suc (suc zero))))))) ha hb hc hd he hf hg hh l = omega arith
eight_bytes a b c d e f g h (suc (suc (suc (suc (suc (suc (suc (suc i)))))))) ha hb hc hd he hf hg hh l = absurd (omega arith)

module _ (b : List ℕ) (small : Bytes b) (at : ℕ) where
  pub word_lt : word_from b at < 2 ^ 64
  unfolding word_from
  word_lt = omega (arith, small at, small (at + 1), small (at + 2), small (at + 3), small (at + 4), small (at + 5), small (at + 6), small (at + 7))

  pick : (i : ℕ) → i < 8
      → get_or (get_or b at 0 ∷ get_or b (at + 1) 0 ∷ get_or b (at + 2) 0 ∷ get_or b (at + 3) 0 ∷ get_or b (at + 4) 0 ∷ get_or b (at + 5) 0 ∷ get_or b (at + 6) 0 ∷ get_or b (at + 7) 0 ∷ []) i 0
      ≡ get_or b (at + i) 0
  pick zero l = ap (λ (x : ℕ). get_or b x 0) (sym (add-zero at))
  pick (suc zero) l = refl
  pick (suc (suc zero)) l = refl
  pick (suc (suc (suc zero))) l = refl
  pick (suc (suc (suc (suc zero)))) l = refl
  pick (suc (suc (suc (suc (suc zero))))) l = refl
  pick (suc (suc (suc (suc (suc (suc zero)))))) l = refl
  pick (suc (suc (suc (suc (suc (suc (suc zero))))))) l = refl
  pick (suc (suc (suc (suc (suc (suc (suc (suc i)))))))) l = absurd (omega arith)

  word_byte : (i : ℕ) → i < 8 → word_from b at / 2 ^ (56 - 8 * i) % 256 ≡ get_or b (at + i) 0
  unfolding word_from
  word_byte i l =
      eight_bytes _ _ _ _ _ _ _ _ i (small at) (small (at + 1)) (small (at + 2)) (small (at + 3)) (small (at + 4)) (small (at + 5)) (small (at + 6)) (small (at + 7)) l ∙ pick i l

  -- a bit of the eight bytes is a digit of their word
  pub bit_in_word : (m : ℕ) → m < 64 → bit_at b (8 * at + m) ≡ eqb (word_from b at / 2 ^ (63 - m) % 2) 1
  bit_in_word m h =
      let byte : (8 * at + m) / 8 ≡ at + m / 8 = omega arith in
      let bit : (8 * at + m) % 8 ≡ m % 8 = omega arith in
      let e : 56 - 8 * (m / 8) + (7 - m % 8) ≡ 63 - m = omega arith in
      rw (byte, bit)
      (ap (λ (x : ℕ). eqb (x / 2 ^ (7 - m % 8) % 2) 1) (sym (word_byte (m / 8) (omega arith)))
      ∙ ap (λ (x : ℕ). eqb x 1) (byte-digit (word_from b at) (56 - 8 * (m / 8)) (m % 8) (mod-lt m (omega arith)))
      ∙ ap (λ (x : ℕ). eqb (word_from b at / 2 ^ x % 2) 1) e)

-- a digit of the lower bits
low_digit : (x width k : ℕ) → k < width → x % 2 ^ width / 2 ^ k % 2 ≡ x / 2 ^ k % 2
low_digit x width k h =
    let e : width ≡ width - k - 1 + 1 + k = omega arith in
    ap (λ (y : ℕ). x % 2 ^ y / 2 ^ k % 2) e ∙ ap (λ (y : ℕ). y % 2) (field x (width - k - 1 + 1) k) ∙ mod-mod-pow (x / 2 ^ k) (width - k - 1) 1

-- a digit of a word without its lowest bits
upper_digit : (x j k : ℕ) → x / 2 ^ j * 2 ^ j / 2 ^ (j + k) % 2 ≡ x / 2 ^ (j + k) % 2
upper_digit x j k =
    ap (λ (y : ℕ). y % 2) (sym (shr-shr (x / 2 ^ j * 2 ^ j) j k) ∙ ap (λ (y : ℕ). y / 2 ^ k) (mul-div_cancel (x / 2 ^ j) (pow_pos j)) ∙ shr-shr x j k)

-- two words, one bit further up: the digits of the upper one but its highest, and the highest of the lower one
abbrev pub joined : ℕ → ℕ → ℕ
joined hi lo = hi % 2 ^ 63 * 2 + lo / 2 ^ 63

module _ (hi lo : ℕ) (h : lo < 2 ^ 64) where
  pub joined_lt : joined hi lo < 2 ^ 64
  joined_lt = omega arith

  joined-low : joined hi lo / 2 ^ 0 % 2 ≡ lo / 2 ^ 63 % 2
  joined-low = omega arith

  joined-half : joined hi lo / 2 ≡ hi % 2 ^ 63
  joined-half = omega arith

  joined_up : (k : ℕ) → k < 63 → joined hi lo / 2 ^ (1 + k) % 2 ≡ hi / 2 ^ k % 2
  joined_up k l = ap (λ (y : ℕ). y % 2) (sym (shr-shr (joined hi lo) 1 k) ∙ ap (λ (y : ℕ). y / 2 ^ k) joined-half) ∙ low_digit hi 63 k l

-- ---- the set of a bitmap, and of own bits

known_zero : (x : ℕ) → x / 256 * 256 % 256 ≡ 0
known_zero x = omega arith

module _ (b : List ℕ) (small : Bytes b) where
  abbrev word : ℕ → ℕ
  word at = word_from b at

  abbrev pub own_words : CategorySet
  own_words = record { first = word_from b 0; second = word_from b 8; third = word_from b 16 / 256 * 256 }

  own_in_words : InWords own_words
  own_in_words = record { first = word_lt b small 0; second = word_lt b small 8; third = omega (arith, word_lt b small 16) }

  own-has : (n : ℕ) → Category n → has_category own_words n ≡ bit_at b (n - 1)
  own-has n h = by_word (leb n 64) refl (leb n 128) refl
    where
      by_word : (s : Bool) → leb n 64 ≡ s → (t : Bool) → leb n 128 ≡ t → has_category own_words n ≡ bit_at b (n - 1)
      by_word true p t q =
          let l = leb-true n 64 p in
          let e : 64 - n ≡ 63 - (n - 1) = omega arith in
          let i : 8 * 0 + (n - 1) ≡ n - 1 = omega arith in
          in_first own_words n own_in_words (omega arith) l
          ∙ ap (λ (x : ℕ). eqb (word 0 / 2 ^ x % 2) 1) e
          ∙ sym (bit_in_word b small 0 (n - 1) (omega arith))
          ∙ ap (bit_at b) i
      by_word false p true q =
          let l = leb-false n 64 p in
          let m = leb-true n 128 q in
          let e : 128 - n ≡ 63 - (n - 65) = omega arith in
          let i : 8 * 8 + (n - 65) ≡ n - 1 = omega arith in
          in_second own_words n own_in_words l m
          ∙ ap (λ (x : ℕ). eqb (word 8 / 2 ^ x % 2) 1) e
          ∙ sym (bit_in_word b small 8 (n - 65) (omega arith))
          ∙ ap (bit_at b) i
      by_word false p false q =
          let m = leb-false n 128 q in
          let k : 192 - n ≡ 8 + (184 - n) = omega arith in
          let e : 8 + (184 - n) ≡ 63 - (n - 129) = omega arith in
          let i : 8 * 16 + (n - 129) ≡ n - 1 = omega arith in
          in_third own_words n m h.1
          ∙ ap (λ (x : ℕ). eqb (word 16 / 256 * 256 / 2 ^ x % 2) 1) k
          ∙ ap (λ (x : ℕ). eqb x 1) (upper_digit (word 16) 8 (184 - n))
          ∙ ap (λ (x : ℕ). eqb (word 16 / 2 ^ x % 2) 1) e
          ∙ sym (bit_in_word b small 16 (n - 129) (omega arith))
          ∙ ap (bit_at b) i

  pub own_set : own_words ≡ set_of_own b
  unfolding set_of_own
  own_set =
      let p : ℕ → Bool = λ (n : ℕ). bit_at b (n - 1) in
      same_set_lem own_words (set_of p) own_in_words (passing_words p) (λ k hk. own-has k hk ∙ sym (passing-has p k hk)) (known_zero (word 16) ∙ sym (eqb-true _ _ (passing_known p)))

  abbrev pub bitmap_words : CategorySet
  bitmap_words = record { first = joined (word_from b 0) (word_from b 8); second = joined (word_from b 8) (word_from b 16); third = word_from b 16 % 2 ^ 63 / 128 * 256 }

  bitmap_in_words : InWords bitmap_words
  bitmap_in_words =
      record {
        first = joined_lt (word 0) (word 8) (word_lt b small 8);
        second = joined_lt (word 8) (word 16) (word_lt b small 16);
        third = small-third (word 16);
      }
    where
      small-third : (x : ℕ) → x % 2 ^ 63 / 128 * 256 < 2 ^ 64
      small-third x = omega arith

  bitmap-has : (n : ℕ) → Category n → has_category bitmap_words n ≡ bit_at b n
  bitmap-has n h = by_word (leb n 63) refl (leb n 64) refl (leb n 127) refl (leb n 128) refl
    where
      third-digit : (x k : ℕ) → k < 56 → x % 2 ^ 63 / 128 * 256 / 2 ^ (8 + k) % 2 ≡ x / 2 ^ (7 + k) % 2
      third-digit x k l =
          ap (λ (y : ℕ). y % 2)
          (sym (shr-shr (x % 2 ^ 63 / 128 * 256) 8 k) ∙ ap (λ (y : ℕ). y / 2 ^ k) (mul-div_cancel (x % 2 ^ 63 / 128) (pow_pos 8)) ∙ shr-shr (x % 2 ^ 63) 7 k)
          ∙ low_digit x 63 (7 + k) (omega arith)

      by_word : (a : Bool) → leb n 63 ≡ a → (a' : Bool) → leb n 64 ≡ a' → (c : Bool) → leb n 127 ≡ c → (c' : Bool) → leb n 128 ≡ c' → has_category bitmap_words n ≡ bit_at b n
      by_word true p a' p' c q c' q' =
          let l = leb-true n 63 p in
          let e : 64 - n ≡ 1 + (63 - n) = omega arith in
          let i : 8 * 0 + n ≡ n = omega arith in
          in_first bitmap_words n bitmap_in_words h.0 (omega arith)
          ∙ ap (λ (x : ℕ). eqb (joined (word 0) (word 8) / 2 ^ x % 2) 1) e
          ∙ ap (λ (x : ℕ). eqb x 1) (joined_up (word 0) (word 8) (word_lt b small 8) (63 - n) (omega arith))
          ∙ sym (bit_in_word b small 0 n (omega arith))
          ∙ ap (bit_at b) i
      by_word false p true p' c q c' q' =
          let l = leb-false n 63 p in
          let m = leb-true n 64 p' in
          let e : 64 - n ≡ 0 = omega arith in
          let i : 8 * 8 + 0 ≡ n = omega arith in
          in_first bitmap_words n bitmap_in_words h.0 m
          ∙ ap (λ (x : ℕ). eqb (joined (word 0) (word 8) / 2 ^ x % 2) 1) e
          ∙ ap (λ (x : ℕ). eqb x 1) (joined-low (word 0) (word 8) (word_lt b small 8))
          ∙ sym (bit_in_word b small 8 0 (omega arith))
          ∙ ap (bit_at b) i
      by_word false p false p' true q c' q' =
          let l = leb-false n 64 p' in
          let m = leb-true n 127 q in
          let e : 128 - n ≡ 1 + (127 - n) = omega arith in
          let f : 127 - n ≡ 63 - (n - 64) = omega arith in
          let i : 8 * 8 + (n - 64) ≡ n = omega arith in
          in_second bitmap_words n bitmap_in_words l (omega arith)
          ∙ ap (λ (x : ℕ). eqb (joined (word 8) (word 16) / 2 ^ x % 2) 1) e
          ∙ ap (λ (x : ℕ). eqb x 1) (joined_up (word 8) (word 16) (word_lt b small 16) (127 - n) (omega arith))
          ∙ ap (λ (x : ℕ). eqb (word 8 / 2 ^ x % 2) 1) f
          ∙ sym (bit_in_word b small 8 (n - 64) (omega arith))
          ∙ ap (bit_at b) i
      by_word false p false p' false q true q' =
          let l = leb-false n 127 q in
          let m = leb-true n 128 q' in
          let e : 128 - n ≡ 0 = omega arith in
          let i : 8 * 16 + 0 ≡ n = omega arith in
          in_second bitmap_words n bitmap_in_words (omega arith) m
          ∙ ap (λ (x : ℕ). eqb (joined (word 8) (word 16) / 2 ^ x % 2) 1) e
          ∙ ap (λ (x : ℕ). eqb x 1) (joined-low (word 8) (word 16) (word_lt b small 16))
          ∙ sym (bit_in_word b small 16 0 (omega arith))
          ∙ ap (bit_at b) i
      by_word false p false p' false q false q' =
          let l = leb-false n 128 q' in
          let e : 192 - n ≡ 8 + (184 - n) = omega arith in
          let f : 7 + (184 - n) ≡ 63 - (n - 128) = omega arith in
          let i : 8 * 16 + (n - 128) ≡ n = omega arith in
          in_third bitmap_words n l h.1
          ∙ ap (λ (x : ℕ). eqb (word 16 % 2 ^ 63 / 128 * 256 / 2 ^ x % 2) 1) e
          ∙ ap (λ (x : ℕ). eqb x 1) (third-digit (word 16) (184 - n) (omega arith))
          ∙ ap (λ (x : ℕ). eqb (word 16 / 2 ^ x % 2) 1) f
          ∙ sym (bit_in_word b small 16 (n - 128) (omega arith))
          ∙ ap (bit_at b) i

  pub bitmap_set : bitmap_words ≡ set_of_bitmap b
  unfolding set_of_bitmap
  bitmap_set =
      same_set_lem bitmap_words (set_of (bit_at b)) bitmap_in_words (passing_words (bit_at b)) (λ k hk. bitmap-has k hk ∙ sym (passing-has (bit_at b) k hk)) (no-rest (word 16) ∙ sym (eqb-true _ _ (passing_known (bit_at b))))
    where
      no-rest : (x : ℕ) → x % 2 ^ 63 / 128 * 256 % 256 ≡ 0
      no-rest x = omega arith

-- ---- whether a bitmap has only categories

abbrev allowed : List ℕ → ℕ → Bool
allowed b n = is_category n || not (bit_at b n)

abbrev numbers-below : ℕ → List ℕ
numbers-below k = entries (λ (n : ℕ). n) k

-- so each bit that is no category is 0, and where all these are 0 it has no other
only_bit : (b : List ℕ) (n : ℕ) → only_categories b ≡ true → n < 8 * length b → is_category n ≡ false → bit_at b n ≡ false
unfolding only_categories
only_bit b n e h none =
    let at : allowed b (get_or (numbers-below (8 * length b)) n 0) ≡ true = all-at (allowed b) 0 (numbers-below (8 * length b)) e n (rw (entries-length (λ (k : ℕ). k) (8 * length b)) h) in
    off (is_category n) (bit_at b n) none (ap (allowed b) (sym (entries_at (λ (k : ℕ). k) 0 (8 * length b) n h)) ∙ at)
  where
    off : (c d : Bool) → c ≡ false → (c || not d) ≡ true → d ≡ false
    off true d e f = absurd (no (sym e))
    off false true e f = sym f
    off false false e f = refl

pub only-all : (b : List ℕ) → ((n : ℕ) → is_category n ≡ false → bit_at b n ≡ false) → only_categories b ≡ true
unfolding only_categories
only-all b h = all-by (allowed b) 0 (numbers-below (8 * length b)) (λ k hk. each (get_or (numbers-below (8 * length b)) k 0))
  where
    each : (n : ℕ) → allowed b n ≡ true
    each n = by-test (is_category n) (bit_at b n) (h n)
      where
        by-test : (c d : Bool) → (c ≡ false → d ≡ false) → (c || not d) ≡ true
        by-test true d f = refl
        by-test false true f = absurd (no (sym (f refl)))
        by-test false false f = refl

-- a byte that is not 0 is none behind the last
byte_inside : (b : List ℕ) (i : ℕ) → (get_or b i 0 ≡ 0 → ⊥) → i < length b
byte_inside b i h = by-test (ltb i (length b)) refl
  where
    by-test : (t : Bool) → ltb i (length b) ≡ t → i < length b
    by-test true e = ltb-true _ _ e
    by-test false e = absurd (h (get_or-eq_default b 0 (ltb-false _ _ e)))

-- bit j of byte i
pub bit_of_byte : (b : List ℕ) (i j : ℕ) → j < 8 → bit_at b (8 * i + j) ≡ eqb (get_or b i 0 / 2 ^ (7 - j) % 2) 1
bit_of_byte b i j h =
    let byte : (8 * i + j) / 8 ≡ i = omega arith in
    let bit : (8 * i + j) % 8 ≡ j = omega arith in
    rw (byte, bit)

unlisted : (n : ℕ) → (n < 1) ⊎ (184 < n) → is_category n ≡ false
unlisted n (inl h) = rw (lt-leb 1 n h)
unlisted n (inr h) = rw (lt-leb n 184 h, and-false (leb 1 n))

module _ (b : List ℕ) (small : Bytes b) where
  -- refused: each fault is a bit that is no category
  pub first_bit : 128 ≤ get_or b 0 0 → only_categories b ≡ false
  first_bit h = by-test (only_categories b) refl
    where
      inside : 0 < length b
      inside = byte_inside b 0 (λ e. let z : get_or b 0 0 ≡ 0 = e in absurd (omega arith))

      top : get_or b 0 0 / 2 ^ 7 % 2 ≡ 1
      top = let s = small 0 in omega arith

      by-test : (t : Bool) → only_categories b ≡ t → only_categories b ≡ false
      by-test false e = e
      by-test true e = absurd (no (sym (sym (bit_of_byte b 0 0 (omega arith)) ∙ only_bit b 0 e (omega (arith, inside)) (unlisted 0 (inl (omega arith)))) ∙ eq-eqb _ _ top))

  -- a byte none of whose bits is a category is 0
  zero_byte : (i : ℕ) → 24 ≤ i → only_categories b ≡ true → get_or b i 0 ≡ 0
  unfolding byte_where
  zero_byte i h e = by-test (ltb i (length b)) refl
    where
      by-test : (t : Bool) → ltb i (length b) ≡ t → get_or b i 0 ≡ 0
      by-test false f = get_or-eq_default b 0 (ltb-false _ _ f)
      by-test true f =
          let l : i < length b = ltb-true _ _ f in
          sym (byte-whole (get_or b i 0) (λ (j : ℕ). false) (small i) (λ j hj. sym (only_bit b (8 * i + j) e (omega arith) (unlisted (8 * i + j) (inr (omega arith)))) ∙ bit_of_byte b i j hj))

  pub later-byte : (i : ℕ) → 24 ≤ i → (get_or b i 0 ≡ 0 → ⊥) → only_categories b ≡ false
  later-byte i h none = by-test (only_categories b) refl
    where
      by-test : (t : Bool) → only_categories b ≡ t → only_categories b ≡ false
      by-test false e = e
      by-test true e = absurd (none (zero_byte i h e))

  -- of byte 23 the top bit alone is a category
  top_alone : only_categories b ≡ true → 23 < length b → get_or b 23 0 % 128 ≡ 0
  unfolding byte_where
  top_alone e l =
      let p : ℕ → Bool = λ (j : ℕ). eqb j 0 && bit_at b 184 in
      alone (bit_at b 184)
      (byte-whole (get_or b 23 0) p (small 23) (λ j hj. each j hj))
    where
      alone : (t : Bool) → digit t * 128 + 0 * 64 + 0 * 32 + 0 * 16 + 0 * 8 + 0 * 4 + 0 * 2 + 0 ≡ get_or b 23 0 → get_or b 23 0 % 128 ≡ 0
      alone true q = omega (arith, q)
      alone false q = omega (arith, q)

      each : (j : ℕ) → j < 8 → (eqb j 0 && bit_at b 184) ≡ eqb (get_or b 23 0 / 2 ^ (7 - j) % 2) 1
      each zero h = bit_of_byte b 23 0 (omega arith)
      each (suc j) h = ap (λ (t : Bool). t && bit_at b 184) (ne_eqb (suc j) 0 (λ z. omega (arith, z))) ∙ sym (only_bit b (8 * 23 + suc j) e (omega arith) (unlisted (8 * 23 + suc j) (inr (omega arith)))) ∙ bit_of_byte b 23 (suc j) h

  pub last_byte : (get_or b 23 0 % 128 ≡ 0 → ⊥) → only_categories b ≡ false
  last_byte none = by-test (only_categories b) refl
    where
      inside : 23 < length b
      inside = byte_inside b 23 (λ e. none (rw e))

      by-test : (t : Bool) → only_categories b ≡ t → only_categories b ≡ false
      by-test false e = e
      by-test true e = absurd (none (top_alone e inside))

  -- taken: none of them is there
  pub only_these : get_or b 0 0 < 128 → get_or b 23 0 % 128 ≡ 0 → ((i : ℕ) → 24 ≤ i → i < length b → get_or b i 0 ≡ 0) → only_categories b ≡ true
  only_these h₀ h₁ h₂ = only-all b (λ n e. off n e (leb 1 n) refl (leb n 184) refl)
    where
      rest : (i : ℕ) → 24 ≤ i → get_or b i 0 ≡ 0
      rest i h = by-test (ltb i (length b)) refl
        where
          by-test : (t : Bool) → ltb i (length b) ≡ t → get_or b i 0 ≡ 0
          by-test true f = h₂ i h (ltb-true _ _ f)
          by-test false f = get_or-eq_default b 0 (ltb-false _ _ f)

      digit-zero : (n : ℕ) → 184 < n → (t : Bool) → leb 24 (n / 8) ≡ t → get_or b (n / 8) 0 / 2 ^ (7 - n % 8) % 2 ≡ 0
      digit-zero n h true f = rw (rest (n / 8) (leb-true _ _ f), div-eq_of_lt (pow_pos (7 - n % 8)))
      digit-zero n h false f =
          let g : n / 8 < 24 = leb-false _ _ f in
          let i : n / 8 ≡ 23 = omega arith in
          let k : 7 - n % 8 < 7 = omega arith in
          sym (low_digit (get_or b (n / 8) 0) 7 (7 - n % 8) k) ∙ rw (i, h₁, div-eq_of_lt (pow_pos (7 - n % 8)))

      off : (n : ℕ) → is_category n ≡ false → (s : Bool) → leb 1 n ≡ s → (t : Bool) → leb n 184 ≡ t → bit_at b n ≡ false
      off n e true p true q = absurd (no (sym e ∙ rw (p, q)))
      off n e false p t q =
          let z : n ≡ 0 = let g = leb-false 1 n p in omega arith in
          let top : get_or b 0 0 / 2 ^ 7 % 2 ≡ 0 = omega arith in
          ap (bit_at b) z ∙ rw top
      off n e true p false q = rw (digit-zero n (leb-false n 184 q) (leb 24 (n / 8)) refl)

-- ---- bytes made of bits

digit_bit : (b : Bool) → eqb (digit b) 1 ≡ b
digit_bit true = refl
digit_bit false = refl

digit_small : (b : Bool) → digit b < 2
digit_small true = omega arith
digit_small false = omega arith

-- a digit of eight
eight_digits : (a b c d e f g h : ℕ) → a < 2 → b < 2 → c < 2 → d < 2 → e < 2 → f < 2 → g < 2 → h < 2 → (j : ℕ) → j < 8
    → (a * 128 + b * 64 + c * 32 + d * 16 + e * 8 + f * 4 + g * 2 + h) / 2 ^ (7 - j) % 2 ≡ get_or (a ∷ b ∷ c ∷ d ∷ e ∷ f ∷ g ∷ h ∷ []) j 0
eight_digits a b c d e f g h ha hb hc hd he hf hg hh zero l = omega arith
eight_digits a b c d e f g h ha hb hc hd he hf hg hh (suc zero) l = omega arith
eight_digits a b c d e f g h ha hb hc hd he hf hg hh (suc (suc zero)) l = omega arith
eight_digits a b c d e f g h ha hb hc hd he hf hg hh (suc (suc (suc zero))) l = omega arith
eight_digits a b c d e f g h ha hb hc hd he hf hg hh (suc (suc (suc (suc zero)))) l = omega arith
eight_digits a b c d e f g h ha hb hc hd he hf hg hh (suc (suc (suc (suc (suc zero))))) l = omega arith
eight_digits a b c d e f g h ha hb hc hd he hf hg hh (suc (suc (suc (suc (suc (suc zero)))))) l = omega arith
eight_digits a b c d e f g h ha hb hc hd he hf hg hh (suc (suc (suc (suc (suc (suc (suc zero))))))) l = omega arith
eight_digits a b c d e f g h ha hb hc hd he hf hg hh (suc (suc (suc (suc (suc (suc (suc (suc j)))))))) l = absurd (omega arith)

byte-has : (p : ℕ → Bool) (j : ℕ) → j < 8 → eqb (byte_where p / 2 ^ (7 - j) % 2) 1 ≡ p j
unfolding byte_where
byte-has p j h =
    ap (λ (x : ℕ). eqb x 1)
    (eight_digits (digit (p 0)) (digit (p 1)) (digit (p 2)) (digit (p 3)) (digit (p 4)) (digit (p 5)) (digit (p 6)) (digit (p 7))
    (digit_small (p 0)) (digit_small (p 1)) (digit_small (p 2)) (digit_small (p 3)) (digit_small (p 4)) (digit_small (p 5)) (digit_small (p 6)) (digit_small (p 7)) j h)
    ∙ pick-digit j h
  where
    pick-digit : (j : ℕ) → j < 8 → eqb (get_or (digit (p 0) ∷ digit (p 1) ∷ digit (p 2) ∷ digit (p 3) ∷ digit (p 4) ∷ digit (p 5) ∷ digit (p 6) ∷ digit (p 7) ∷ []) j 0) 1 ≡ p j
    pick-digit zero l = digit_bit (p 0)
    pick-digit (suc zero) l = digit_bit (p 1)
    pick-digit (suc (suc zero)) l = digit_bit (p 2)
    pick-digit (suc (suc (suc zero))) l = digit_bit (p 3)
    pick-digit (suc (suc (suc (suc zero)))) l = digit_bit (p 4)
    pick-digit (suc (suc (suc (suc (suc zero))))) l = digit_bit (p 5)
    pick-digit (suc (suc (suc (suc (suc (suc zero)))))) l = digit_bit (p 6)
    pick-digit (suc (suc (suc (suc (suc (suc (suc zero))))))) l = digit_bit (p 7)
    pick-digit (suc (suc (suc (suc (suc (suc (suc (suc j)))))))) l = absurd (omega arith)

byte_small : (p : ℕ → Bool) → byte_where p < 256
unfolding byte_where
byte_small p = omega (arith, digit_small (p 0), digit_small (p 1), digit_small (p 2), digit_small (p 3), digit_small (p 4), digit_small (p 5), digit_small (p 6), digit_small (p 7))

module _ (p : ℕ → Bool) (k : ℕ) where
  abbrev byte : ℕ → ℕ
  byte i = byte_where (λ (j : ℕ). p (8 * i + j))

  pub bits-made : (m : ℕ) → m < 8 * k → bit_at (bytes_where p k) m ≡ p m
  unfolding bytes_where
  bits-made m h =
      let i : m / 8 < k = omega arith in
      let e : 8 * (m / 8) + m % 8 ≡ m = omega arith in
      ap (λ (x : ℕ). eqb (x / 2 ^ (7 - m % 8) % 2) 1) (entries_at byte 0 k (m / 8) i)
      ∙ byte-has (λ (j : ℕ). p (8 * (m / 8) + j)) (m % 8) (mod-lt m (omega arith))
      ∙ ap p e

  pub bits-behind : (m : ℕ) → 8 * k ≤ m → bit_at (bytes_where p k) m ≡ false
  unfolding bytes_where
  bits-behind m h =
      let past : length (entries byte k) ≤ m / 8 = omega (arith, entries-length byte k) in
      rw (get_or-eq_default (entries byte k) 0 past, div-eq_of_lt (pow_pos (7 - m % 8)))

bytes_whole : (b : List ℕ) → Bytes b → bytes_where (bit_at b) (length b) ≡ b
unfolding bytes_where
bytes_whole b small =
    ext_get_or 0 (entries f (length b)) b (entries-length f (length b))
    (λ i h. let l : i < length b = rw entries-length at h in entries_at f 0 (length b) i l ∙ byte-whole (get_or b i 0) (λ (j : ℕ). bit_at b (8 * i + j)) (small i) (λ j hj. bit_of_byte b i j hj))
  where
    f : ℕ → ℕ
    f i = byte_where (λ (j : ℕ). bit_at b (8 * i + j))

-- ---- sets as bytes, and back

no_bit : (n : ℕ) → is_category n ≡ false → (n < 1) ⊎ (184 < n)
no_bit n e = by_tests (leb 1 n) (leb n 184) refl refl
  where
    by_tests : (s t : Bool) → leb 1 n ≡ s → leb n 184 ≡ t → (n < 1) ⊎ (184 < n)
    by_tests false t p q = inl (leb-false 1 n p)
    by_tests true false p q = inr (leb-false n 184 q)
    by_tests true true p q = absurd (no (sym e ∙ rw (p, q)))

module _ (s : CategorySet) (w : InWords s) (known : known_set s ≡ true) where
  -- a set has no bit that is no category
  none_other : (n : ℕ) → n < 192 → is_category n ≡ false → has_category s n ≡ false
  none_other n h e = ⊎_elim first (λ l. (category_sets.known s).0 known n l (omega arith)) (no_bit n e)
    where
      first : n < 1 → has_category s n ≡ false
      first l =
          let z : n ≡ 0 = omega arith in
          ap (has_category s) z ∙ rw (div-eq_of_lt (value_lt s w))

  pub bitmap-bits : (n : ℕ) → bit_at (bitmap_bytes s) n ≡ (is_category n && has_category s n)
  unfolding bitmap_bytes
  bitmap-bits n = by-test (ltb n 192) refl (is_category n) refl
    where
      by-test : (t : Bool) → ltb n 192 ≡ t → (c : Bool) → is_category n ≡ c → bit_at (bytes_where (has_category s) 24) n ≡ (c && has_category s n)
      by-test true p true q = bits-made (has_category s) 24 n (omega (arith, ltb-true n 192 p))
      by-test true p false q = bits-made (has_category s) 24 n (omega (arith, ltb-true n 192 p)) ∙ none_other n (ltb-true n 192 p) q
      by-test false p true q = let l = is_category_lem n q in absurd (omega (arith, ltb-false n 192 p, l.1))
      by-test false p false q = bits-behind (has_category s) 24 n (omega (arith, ltb-false n 192 p))

  -- any bytes that have these bits tell the set
  pub bitmap_tells : (b : List ℕ) → ((n : ℕ) → bit_at b n ≡ (is_category n && has_category s n)) → set_of_bitmap b ≡ s
  unfolding set_of_bitmap
  bitmap_tells b bits =
      same_set_lem (set_of (bit_at b)) s (passing_words (bit_at b)) w
      (λ k hk. passing-has (bit_at b) k hk ∙ bits k ∙ ap (λ (t : Bool). t && has_category s k) (category_is k hk))
      (eqb-true _ _ (passing_known (bit_at b)) ∙ sym (eqb-true _ _ known))

  own_tells : set_of_own (own_bytes s) ≡ s
  unfolding set_of_own own_bytes
  own_tells =
      let p : ℕ → Bool = λ (n : ℕ). bit_at (bytes_where (λ (m : ℕ). has_category s (m + 1)) 23) (n - 1) in
      same_set_lem (set_of p) s (passing_words p) w
      (λ k hk. passing-has p k hk ∙ bits-made (λ (m : ℕ). has_category s (m + 1)) 23 (k - 1) (omega (arith, hk)) ∙ ap (has_category s) (omega (arith, hk)))
      (eqb-true _ _ (passing_known p) ∙ sym (eqb-true _ _ known))

-- the bits of a set's own bytes
pub own_bits : (s : CategorySet) (m : ℕ) → m < 184 → bit_at (own_bytes s) m ≡ has_category s (m + 1)
unfolding own_bytes
own_bits s m h = bits-made (λ (k : ℕ). has_category s (k + 1)) 23 m (omega arith)

pub own-has_bit : (b : List ℕ) (i j : ℕ) → i < 23 → j < 8 → has_category (set_of_own b) (8 * i + j + 1) ≡ eqb (get_or b i 0 / 2 ^ (7 - j) % 2) 1
unfolding set_of_own
own-has_bit b i j hi hj =
    let e : 8 * i + j + 1 - 1 ≡ 8 * i + j = omega arith in
    passing-has (λ (n : ℕ). bit_at b (n - 1)) (8 * i + j + 1) (omega arith, omega arith) ∙ ap (bit_at b) e ∙ bit_of_byte b i j hj

-- each of the 23 bytes that a set of own bits has
pub own-byte : (b : List ℕ) → Bytes b → (i : ℕ) → i < 23 → get_or (own_bytes (set_of_own b)) i 0 ≡ get_or b i 0
unfolding own_bytes bytes_where
own-byte b small i h =
    entries_at (λ (i : ℕ). byte_where (λ (j : ℕ). has_category (set_of_own b) (8 * i + j + 1))) 0 23 i h
    ∙ byte-whole (get_or b i 0) (λ (j : ℕ). has_category (set_of_own b) (8 * i + j + 1)) (small i) (λ j hj. own-has_bit b i j h hj)

pub bits_and_categories : BitsAndCategories
unfolding set_of_bitmap
bits_and_categories =
    record {
      made = bits-made;
      whole = bytes_whole;
      in_byte = bit_of_byte;
      bitmap = bitmap-bits;
      bitmap_back = λ s w known. bitmap_tells s w known (bitmap_bytes s) (bitmap-bits s w known);
      bitmap_set = λ b n h. passing-has (bit_at b) n (is_category_lem n h);
      only = λ b. (λ e n on. by-test b n (is_category n) (ltb n (8 * length b)) refl refl e on, λ h. only-all b (λ n e. off (bit_at b n) refl (h n) e));
      own = own-has_bit;
      own_back = λ b small long. ext_get_or 0 (own_bytes (set_of_own b)) b (own-length (set_of_own b) ∙ sym long) (λ i h. own-byte b small i (omega (arith, h, own-length (set_of_own b))));
      own_set = own_tells;
    }
  where
    by-test : (b : List ℕ) (n : ℕ) (c t : Bool) → is_category n ≡ c → ltb n (8 * length b) ≡ t → only_categories b ≡ true → bit_at b n ≡ true → c ≡ true
    by-test b n true t p q e on = refl
    by-test b n false true p q e on = absurd (no (sym (only_bit b n e (ltb-true _ _ q) p) ∙ on))
    by-test b n false false p q e on =
        let past : length b ≤ n / 8 = omega (arith, ltb-false n (8 * length b) q) in
        let zero_bit : bit_at b n ≡ false = rw (get_or-eq_default b 0 past, div-eq_of_lt (pow_pos (7 - n % 8))) in
        absurd (no (sym zero_bit ∙ on))

    off : {c : Bool} (t : Bool) → t ≡ t → (t ≡ true → c ≡ true) → c ≡ false → t ≡ false
    off true r h e = absurd (no (sym e ∙ h refl))
    off false r h e = refl

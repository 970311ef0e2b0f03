-- Laws of bytes without trailing zero bytes and of the bitmap that is written, and that the reader takes it. Assumes nothing.
use mathlib.Core.Path.{◌≡◌, refl, sym, ap, ◌∙◌}
use mathlib.Core.Bool.{Bool, true, false, cond, ◌&&◌}
use mathlib.Core.List.{List, [], ◌∷◌, ◌++◌}
use Prim.Native.Nat.{ℕ, zero, suc, ◌+◌, ◌-◌, ◌/◌, ◌%◌, ◌^◌, ◌<◌, ◌≤◌}
use native.Mathlib.Omega.{arith}
use lib.Dec.{eqb, ltb}
use borrow.Author.Tests.{eqb-true, eqb-false, ltb-true, ltb-false, le-leb}
use lib.ListN.{length, get_or, length-append, get_or-eq_default}
use Rattle.refusals.specs.Refusals.{bad_option_category}
use Rattle.search.proofs.Laws.{no, and_both, entries-length, entries_at}
use Rattle.numbers.specs.Categories.{is_category, has_category, set_of, known_set, InWords}
use Rattle.numbers.specs.declared.CategorySet.{CategorySet}
use Rattle.numbers.proofs.Sets.{same_set_lem, passing-has, passing_words, passing_known}
use Rattle.set_bytes.specs.SetBytes.{bit_at, bitmap_bytes, set_of_bitmap, only_categories}
use Rattle.set_bytes.proofs.Laws.{bitmap-length, bitmap-bits, bitmap_tells, bits_and_categories}
use Rattle.store.specs.Table.{Table}
use Rattle.cipso_option.specs.Option.{option_bytes, our_doi, until_last, trimmed, option_of, zero_bytes, is_option, not_read, peer_at, peer_of}
use Rattle.cipso_option.proofs.Laws.{trimmed-short, same_refl}
use Rattle.option_laws.specs.Bitmap.{OptionBits}

-- ---- bytes without trailing zero bytes

pub trimmed-at : (b : List ℕ) (i : ℕ) → get_or (trimmed b) i 0 ≡ get_or b i 0
unfolding trimmed
trimmed-at [] i = refl
trimmed-at (x ∷ xs) i = of (trimmed xs) (trimmed-at xs) i
  where
    one : (t : Bool) → eqb x 0 ≡ t → ((k : ℕ) → get_or [] k 0 ≡ get_or xs k 0) → (i : ℕ) → get_or (cond t [] (x ∷ [])) i 0 ≡ get_or (x ∷ xs) i 0
    one true e h zero = sym (eqb-true x 0 e)
    one true e h (suc i) = h i
    one false e h zero = refl
    one false e h (suc i) = h i

    of : (r : List ℕ) → ((k : ℕ) → get_or r k 0 ≡ get_or xs k 0) → (i : ℕ) → get_or (until_last x r) i 0 ≡ get_or (x ∷ xs) i 0
    of [] h i = one (eqb x 0) refl h i
    of (y ∷ ys) h zero = refl
    of (y ∷ ys) h (suc i) = h i

trimmed-last : (b : List ℕ) → 1 ≤ length (trimmed b) → get_or (trimmed b) (length (trimmed b) - 1) 0 ≡ 0 → ⊥
unfolding trimmed
trimmed-last [] h e = omega arith
trimmed-last (x ∷ xs) h e = of (trimmed xs) (trimmed-last xs) h e
  where
    one : (t : Bool) → eqb x 0 ≡ t → 1 ≤ length (cond t [] (x ∷ [])) → get_or (cond t [] (x ∷ [])) (length (cond t [] (x ∷ [])) - 1) 0 ≡ 0 → ⊥
    one true q h e = omega arith
    one false q h e = eqb-false x 0 q e

    of : (r : List ℕ) → (1 ≤ length r → get_or r (length r - 1) 0 ≡ 0 → ⊥) → 1 ≤ length (until_last x r) → get_or (until_last x r) (length (until_last x r) - 1) 0 ≡ 0 → ⊥
    of [] ih h e = one (eqb x 0) refl h e
    of (y ∷ ys) ih h e =
        let i : suc (suc (length ys)) - 1 ≡ suc (suc (length ys) - 1) = omega arith in
        ih (omega arith) (ap (λ (k : ℕ). get_or (x ∷ y ∷ ys) k 0) (sym i) ∙ e)

-- bytes that agree at every index, also behind the shorter one, are the same without trailing zero bytes
pub trimmed-same : (a b : List ℕ) → ((i : ℕ) → get_or a i 0 ≡ get_or b i 0) → trimmed a ≡ trimmed b
unfolding trimmed
trimmed-same [] [] h = refl
trimmed-same [] (y ∷ ys) h =
    let e : trimmed [] ≡ trimmed ys = trimmed-same [] ys (λ i. h (suc i)) in
    let z : 0 ≡ y = h zero in
    rw (← e, ← z)
trimmed-same (x ∷ xs) [] h =
    let e : trimmed xs ≡ trimmed [] = trimmed-same xs [] (λ i. h (suc i)) in
    let z : x ≡ 0 = h zero in
    rw (e, z)
trimmed-same (x ∷ xs) (y ∷ ys) h =
    let e : trimmed xs ≡ trimmed ys = trimmed-same xs ys (λ i. h (suc i)) in
    let z : x ≡ y = h zero in
    rw (e, z)

-- bytes none of which is 0 are all kept
pub trimmed-none : (b : List ℕ) → ((i : ℕ) → i < length b → get_or b i 0 ≡ 0 → ⊥) → trimmed b ≡ b
unfolding trimmed
trimmed-none [] h = refl
trimmed-none (x ∷ xs) h = ap (until_last x) (trimmed-none xs (λ i l. h (suc i) (omega arith))) ∙ kept xs
  where
    one : (t : Bool) → eqb x 0 ≡ t → cond t [] (x ∷ []) ≡ x ∷ []
    one true q = absurd (h zero (omega arith) (eqb-true x 0 q))
    one false q = refl

    kept : (r : List ℕ) → until_last x r ≡ x ∷ r
    kept [] = one (eqb x 0) refl
    kept (y ∷ ys) = refl

-- ---- bitmaps that agree at every index

module _ (a b : List ℕ) (h : (i : ℕ) → get_or a i 0 ≡ get_or b i 0) where
  pub bits-same : (n : ℕ) → bit_at a n ≡ bit_at b n
  bits-same n = ap (λ (x : ℕ). eqb (x / 2 ^ (7 - n % 8) % 2) 1) (h (n / 8))

  pub set_same : set_of_bitmap a ≡ set_of_bitmap b
  unfolding set_of_bitmap
  set_same =
      same_set_lem (set_of (bit_at a)) (set_of (bit_at b)) (passing_words (bit_at a)) (passing_words (bit_at b))
      (λ k hk. passing-has (bit_at a) k hk ∙ bits-same k ∙ sym (passing-has (bit_at b) k hk))
      (eqb-true _ _ (passing_known (bit_at a)) ∙ sym (eqb-true _ _ (passing_known (bit_at b))))

  pub only_same : only_categories a ≡ only_categories b
  only_same = by_tests (only_categories a) (only_categories b) refl refl
    where
      by_tests : (s t : Bool) → only_categories a ≡ s → only_categories b ≡ t → s ≡ t
      by_tests true true p q = refl
      by_tests false false p q = refl
      by_tests true false p q = absurd (no (sym q ∙ (bits_and_categories.only b).1 (λ n on. (bits_and_categories.only a).0 p n (bits-same n ∙ on))))
      by_tests false true p q = absurd (no (sym p ∙ (bits_and_categories.only a).1 (λ n on. (bits_and_categories.only b).0 q n (sym (bits-same n) ∙ on))))

-- ---- the reader takes what is written

-- our option of any level and bitmap, of at most 30 bytes: what is left is its categories
pub read_ours : (t : Table) (level : ℕ) (bitmap : List ℕ) → length bitmap ≤ 30
    → peer_of t (option_bytes our_doi level bitmap) ≡ cond (only_categories bitmap) (peer_at t level (set_of_bitmap bitmap)) (not_read bad_option_category)
unfolding peer_of is_option
read_ours t level bitmap h = rw (le-leb (length bitmap) 30 h, same_refl (option_bytes our_doi level bitmap), same_refl our_doi)

module _ (s : CategorySet) (w : InWords s) (known : known_set s ≡ true) where
  written-bits : (n : ℕ) → bit_at (trimmed (bitmap_bytes s)) n ≡ (is_category n && has_category s n)
  written-bits n = bits-same (trimmed (bitmap_bytes s)) (bitmap_bytes s) (trimmed-at (bitmap_bytes s)) n ∙ bitmap-bits s w known n

  only-written : only_categories (trimmed (bitmap_bytes s)) ≡ true
  only-written = (bits_and_categories.only (trimmed (bitmap_bytes s))).1 (λ n on. (and_both (is_category n) (has_category s n) (sym (written-bits n) ∙ on)).0)

  pub taken : (t : Table) (level : ℕ) → peer_of t (option_of level s) ≡ peer_at t level s
  unfolding option_of
  taken t level =
      read_ours t level (trimmed (bitmap_bytes s)) (omega (arith, trimmed-short (bitmap_bytes s), bitmap-length s))
      ∙ rw only-written (ap (peer_at t level) (bitmap_tells s w known (trimmed (bitmap_bytes s)) written-bits))

zero_bytes-length : (k : ℕ) → length (zero_bytes k) ≡ k
zero_bytes-length k = entries-length {A = ℕ} (λ (j : ℕ). 0) k

-- zero bytes behind a bitmap
behind_zero_bytes : (b : List ℕ) (k i : ℕ) → get_or (b ++ zero_bytes k) i 0 ≡ get_or b i 0
behind_zero_bytes [] k i = by-test (ltb i k) refl
  where
    by-test : (t : Bool) → ltb i k ≡ t → get_or (zero_bytes k) i 0 ≡ 0
    by-test true e = entries_at (λ (j : ℕ). 0) 0 k i (ltb-true i k e)
    by-test false e = get_or-eq_default (zero_bytes k) 0 (omega (arith, ltb-false i k e, zero_bytes-length k))
behind_zero_bytes (x ∷ xs) k zero = refl
behind_zero_bytes (x ∷ xs) k (suc i) = behind_zero_bytes xs k i

padded : (t : Table) (level : ℕ) (bitmap : List ℕ) (k : ℕ) → length bitmap + k ≤ 30 → peer_of t (option_bytes our_doi level (bitmap ++ zero_bytes k)) ≡ peer_of t (option_bytes our_doi level bitmap)
padded t level bitmap k h =
    let long = length-append bitmap (zero_bytes k) in
    let few = zero_bytes-length k in
    read_ours t level (bitmap ++ zero_bytes k) (omega (arith, long, few))
    ∙ rw (only_same (bitmap ++ zero_bytes k) bitmap (behind_zero_bytes bitmap k), set_same (bitmap ++ zero_bytes k) bitmap (behind_zero_bytes bitmap k)) (sym (read_ours t level bitmap (omega arith)))

option_is : (level : ℕ) (s : CategorySet) → option_of level s ≡ option_bytes our_doi level (trimmed (bitmap_bytes s))
unfolding option_of
option_is level s = refl

option_length : (level : ℕ) (s : CategorySet) → length (option_of level s) ≡ 10 + length (trimmed (bitmap_bytes s))
unfolding option_of
option_length level s = omega arith

pub option_bits : OptionBits
option_bits =
    record {
      same = trimmed-at;
      shorter = trimmed-short;
      last = trimmed-last;
      bytes = option_is;
      bits = written-bits;
      least = λ level s. omega (arith, option_length level s);
      most = λ level s. omega (arith, option_length level s, trimmed-short (bitmap_bytes s), bitmap-length s);
      taken = λ t level s w known. taken s w known t level;
      padded = padded;
    }

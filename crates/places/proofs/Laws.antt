-- Laws of the searches. Assumes nothing.
use mathlib.Core.Path.{◌≡◌, refl, sym, ap, ◌∙◌}
use mathlib.Core.Bool.{Bool, true, false, cond}
use mathlib.Core.List.{List, [], ◌∷◌, ◌++◌}
use Prim.Native.Nat.{ℕ, zero, suc, ◌+◌, ◌*◌, ◌-◌, ◌<◌, ◌≤◌, min}
use native.Mathlib.Numerals.{add-one}
use native.Mathlib.Omega.{arith}
use lib.Dec.{eqb, ltb}
use borrow.Author.Tests.{eq-eqb, ltb-true, ltb-false}
use lib.ListN.{length, take, drop, get_or, length-drop}
use lib.Seq.{take-take, get_or-take, get_or-drop, length-take-le, drop-cons}
use Rattle.search.specs.Bytes.{same_bytes}
use Rattle.search.specs.Search.{first, place_of, entries as listed}
use Rattle.search.specs.Within.{word_at}
use Rattle.std.proofs.Common.{Option, Some, None}
use Rattle.search.proofs.Laws.{no, same-equal, first-is, first-before, first_fails, first-append, first_snoc, first-last, last_entry, entries-length, entries_at}
use Rattle.store.specs.Layout.{label_at}
use Rattle.places.specs.Within.{Unlike, NoWord, NotHeld, FirstHeld}

-- ---- a label told by its length and its last byte

module _ (t : List ℕ) (k : ℕ) (size : length t ≡ 16384) (inside : k < 64) (byte : get_or t (k * 256) 0 ≤ 255) where
  -- the label in its place: behind the byte that is its length
  held-is : label_at t k ≡ take (get_or t (k * 256) 0) (drop (suc (k * 256)) t)
  unfolding label_at
  held-is =
      let h : k * 256 < length t = omega arith in
      rw (drop-cons t (k * 256) 0 h, take-take (get_or t (k * 256) 0) 255 (drop (suc (k * 256)) t) byte)

  pub held-length : length (label_at t k) ≡ get_or t (k * 256) 0
  held-length = ap (λ (l : List ℕ). length l) held-is ∙ length-take-le (get_or t (k * 256) 0) (drop (suc (k * 256)) t) (omega (arith, length-drop (suc (k * 256)) t))

  -- a label that is that of a place has its length and its last byte
  same-length_and_last : (l : List ℕ) → l ≡ label_at t k → (get_or t (k * 256) 0 ≡ length l) × (get_or t (k * 256 + length l) 0 ≡ get_or (0 ∷ l) (length l) 0)
  same-length_and_last l e = let n = sym (ap (λ (x : List ℕ). length x) e ∙ held-length) in (n, by_length (length l) refl n)
    where
      by_length : (m : ℕ) → length l ≡ m → get_or t (k * 256) 0 ≡ length l → get_or t (k * 256 + m) 0 ≡ get_or (0 ∷ l) m 0
      by_length zero z n = let w : k * 256 + 0 ≡ k * 256 = omega arith in ap (λ (j : ℕ). get_or t j 0) w ∙ n ∙ z
      by_length (suc m) z n =
          let w : k * 256 + suc m ≡ suc (k * 256) + m = omega arith in
          let small : m < get_or t (k * 256) 0 = omega arith in
          ap (λ (j : ℕ). get_or t j 0) w
          ∙ sym (get_or-drop (suc (k * 256)) t m 0)
          ∙ sym (get_or-take (get_or t (k * 256) 0) (drop (suc (k * 256)) t) m 0 small)
          ∙ sym (ap (λ (x : List ℕ). get_or x m 0) (e ∙ held-is))

  -- and its bytes
  held-byte : (l : List ℕ) → l ≡ label_at t k → (j : ℕ) → j < length l → get_or t (suc (k * 256) + j) 0 ≡ get_or l j 0
  held-byte l e j h =
      let n = sym (ap (λ (x : List ℕ). length x) e ∙ held-length) in
      let small : j < get_or t (k * 256) 0 = omega arith in
      sym (get_or-drop (suc (k * 256)) t j 0)
      ∙ sym (get_or-take (get_or t (k * 256) 0) (drop (suc (k * 256)) t) j 0 small)
      ∙ sym (ap (λ (x : List ℕ). get_or x j 0) (e ∙ held-is))

  -- and so the four that it ends in
  held_word : (l : List ℕ) → l ≡ label_at t k → 4 ≤ length l → word_at t (k * 256 + (length l - 3)) ≡ word_at l (length l - 4)
  unfolding word_at
  held_word l e long =
      let at : (i j : ℕ) → i ≡ suc (k * 256) + j → j < length l → get_or t i 0 ≡ get_or l j 0 = λ i j q h. ap (λ (x : ℕ). get_or t x 0) q ∙ held-byte l e j h in
      rw (
        at (k * 256 + (length l - 3)) (length l - 4) (omega arith) (omega arith),
        at (k * 256 + (length l - 3) + 1) (length l - 4 + 1) (omega arith) (omega arith),
        at (k * 256 + (length l - 3) + 2) (length l - 4 + 2) (omega arith) (omega arith),
        at (k * 256 + (length l - 3) + 3) (length l - 4 + 3) (omega arith) (omega arith),
      )

  -- so a place that differs in them holds another label
  pub other_word : (l : List ℕ) (word : ℕ) → word ≡ word_at l (length l - 4) → 4 ≤ length l → eqb (word_at t (k * 256 + (length l - 3))) word ≡ false → same_bytes l (label_at t k) ≡ false
  other_word l word is long e = by-test (same_bytes l (label_at t k)) refl
    where
      by-test : (b : Bool) → same_bytes l (label_at t k) ≡ b → same_bytes l (label_at t k) ≡ false
      by-test true q =
          let f = eq-eqb (word_at t (k * 256 + (length l - 3))) word (held_word l (same-equal l (label_at t k) q) long ∙ sym is) in
          absurd (no (sym e ∙ f))
      by-test false q = q

  -- and one that differs in its length or its last byte too
  pub unlike : (l : List ℕ) (last : ℕ) → last ≡ get_or (0 ∷ l) (length l) 0 → Unlike t k (length l) last → same_bytes l (label_at t k) ≡ false
  unlike l last is e = by-test (same_bytes l (label_at t k)) refl
    where
      by-test : (b : Bool) → same_bytes l (label_at t k) ≡ b → same_bytes l (label_at t k) ≡ false
      by-test true q =
          let h = same-length_and_last l (same-equal l (label_at t k) q) in
          let f : eqb (get_or t (k * 256) 0) (length l) ≡ true = eq-eqb _ _ h.0 in
          let g : eqb (get_or t (k * 256 + length l) 0) last ≡ true = eq-eqb _ _ (h.1 ∙ sym is) in
          absurd (no (sym (rw (g, f) at e)))
      by-test false q = q

-- the same of the places from an index on: for labels of fewer than four bytes, and for the others
module _ (l t : List ℕ) (size : length t ≡ 16384) (bytes : (k : ℕ) → get_or t k 0 ≤ 255) (i j : ℕ) where
  pub none-short : (last : ℕ) → last ≡ get_or (0 ∷ l) (length l) 0 → ((k : ℕ) → i ≤ k → k < j → Unlike t k (length l) last) → NotHeld t l i j
  none-short last is here k h m inside = unlike t k size inside (bytes (k * 256)) l last is (here k h m)

  pub none-long : (word : ℕ) → word ≡ word_at l (length l - 4) → 4 ≤ length l → NoWord t (length l - 3) word i j → NotHeld t l i j
  none-long word is long here k h m inside = other_word t k size inside (bytes (k * 256)) l word is long (here k h m)

-- places before an index and places from it on
pub not_held-more : (l t : List ℕ) (i j : ℕ) → ((k : ℕ) → k < i → same_bytes l (label_at t k) ≡ false) → NotHeld t l i j → (k : ℕ) → k < j → k < 64 → same_bytes l (label_at t k) ≡ false
not_held-more l t i j before here k h inside = by-test (ltb k i) refl
  where
    by-test : (c : Bool) → ltb k i ≡ c → same_bytes l (label_at t k) ≡ false
    by-test true q = before k (ltb-true k i q)
    by-test false q = here k (ltb-false k i q) h inside

pub no_word_more : (t : List ℕ) (offset word from i j : ℕ) → NoWord t offset word from i → NoWord t offset word i j → NoWord t offset word from j
no_word_more t offset word from i j before here k h m = by-test (ltb k i) refl
  where
    by-test : (c : Bool) → ltb k i ≡ c → eqb (word_at t (k * 256 + offset)) word ≡ false
    by-test true q = before k h (ltb-true k i q)
    by-test false q = here k (ltb-false k i q) m

pub no_word_one : (t : List ℕ) (offset word i : ℕ) → eqb (word_at t (i * 256 + offset)) word ≡ false → NoWord t offset word i (i + 1)
no_word_one t offset word i h k above below =
    let same : k ≡ i = omega arith in
    ap (λ (x : ℕ). eqb (word_at t (x * 256 + offset)) word) same ∙ h

-- the same where the second run of places begins no later than the first ends
pub no_word_join : (t : List ℕ) (offset word from i m j : ℕ) → m ≤ i → NoWord t offset word from i → NoWord t offset word m j → NoWord t offset word from j
no_word_join t offset word from i m j meets before here = no_word_more t offset word from i j before (λ k h. here k (omega arith))

-- ---- a label sought where another was found

-- a place of the first n
pub found_below : {A : Type 0} (p : A → Bool) (f : ℕ → A) (n k : ℕ) → first p (listed f n) ≡ Some k → k < n
found_below p f n k e = omega (arith, (first-is p (f 0) (listed f n) k e).0, entries-length f n)

-- what a search for any label answers is the first place that holds what it holds
pub first-held : (t : List ℕ) (n : ℕ) (l : List ℕ) (r : Option ℕ) → r ≡ first (same_bytes l) (listed (label_at t) n) → FirstHeld t n r
first-held t n l r is k at =
    let e = sym is ∙ at in
    let here = sym (ap (same_bytes l) (entries_at (label_at t) (label_at t 0) n k (found_below (same_bytes l) (label_at t) n k e))) ∙ (first-is (same_bytes l) (label_at t 0) (listed (label_at t) n) k e).1 in
    ap (λ (x : List ℕ). first (same_bytes x) (listed (label_at t) n)) (sym (same-equal l (label_at t k) here)) ∙ e

-- ---- the lowest place that passes a test, or a number that stands for none

module _ {A : Type 0} (p : A → Bool) (f : ℕ → A) (last : ℕ) where
  abbrev lowest : ℕ → ℕ
  lowest n = place_of (first p (listed f n)) last

  -- one place more
  pub lowest-more : (i low here : ℕ) → i ≤ last → low ≡ lowest i → here ≡ cond (p (f i)) i last → min low here ≡ lowest (i + 1)
  lowest-more i low here inside is next = by_case (first p (listed f i)) refl (p (f i)) refl
    where
      more : first p (listed f (i + 1)) ≡ first p (listed f i ++ (f i ∷ []))
      more = rw add-one (ap (first p) (last_entry f f i (f i) (λ k h. refl) refl))

      here-is : (b : Bool) → p (f i) ≡ b → here ≡ cond b i last
      here-is b q = next ∙ ap (λ (t : Bool). cond t i last) q

      above : (k : ℕ) → k < i → (b : Bool) → here ≡ cond b i last → k < here
      above k h true e = omega arith
      above k h false e = omega arith

      by_case : (r : Option ℕ) → first p (listed f i) ≡ r → (b : Bool) → p (f i) ≡ b → min low here ≡ lowest (i + 1)
      by_case (Some k) e b q =
          let low-is : low ≡ k = is ∙ ap (λ (r : Option ℕ). place_of r last) e in
          let below = found_below p f i k e in
          let t : min low here ≡ low = omega (arith, above k below b (here-is b q)) in
          rw (t, more ∙ first-append p (listed f i) (f i ∷ []) k e) low-is
      by_case None e true q =
          let low-is : low ≡ last = is ∙ ap (λ (r : Option ℕ). place_of r last) e in
          let t : min low here ≡ here = omega (arith, here-is true q) in
          rw (t, more ∙ first-last p (listed f i) (f i) e q, entries-length f i) (here-is true q)
      by_case None e false q =
          let low-is : low ≡ last = is ∙ ap (λ (r : Option ℕ). place_of r last) e in
          let t : min low here ≡ here = omega (arith, here-is false q) in
          rw (t, more ∙ first_snoc p (listed f i) (f i) q ∙ e) (here-is false q)

  -- no place before it passes, of those that were looked at
  before-lowest : (m k : ℕ) → k < m → k < lowest m → p (f k) ≡ false
  before-lowest m k h below = sym (ap p (entries_at f (f 0) m k h)) ∙ by_case (first p (listed f m)) refl below
    where
      by_case : (r : Option ℕ) → first p (listed f m) ≡ r → k < place_of r last → p (get_or (listed f m) k (f 0)) ≡ false
      by_case (Some j) e b = first-before p (f 0) (listed f m) j e k b
      by_case None e b = first_fails p (f 0) (listed f m) e k (omega (arith, entries-length f m))

  -- and it passes, unless it is the number that stands for none
  pub at-lowest : (m low : ℕ) → low ≡ lowest m → (low ≡ last → ⊥) → p (f low) ≡ true
  at-lowest m low is other = by_case (first p (listed f m)) refl
    where
      by_case : (r : Option ℕ) → first p (listed f m) ≡ r → p (f low) ≡ true
      by_case (Some j) e =
          let h = first-is p (f 0) (listed f m) j e in
          let low-is : low ≡ j = is ∙ ap (λ (r : Option ℕ). place_of r last) e in
          ap (λ (k : ℕ). p (f k)) low-is ∙ sym (ap p (entries_at f (f 0) m j (found_below p f m j e))) ∙ h.1
      by_case None e = absurd (other (is ∙ ap (λ (r : Option ℕ). place_of r last) e))

-- places before an index, and those of the block that begins there: none of them passes before the block's lowest
pub none-before-lowest :
    {A : Type 0} (p : A → Bool) (f : ℕ → A) (last from m low n : ℕ) →
    ((k : ℕ) → k < from → p (f k) ≡ false) →
    low ≡ place_of (first p (listed (λ i. f (from + i)) m)) last →
    n ≤ from + m →
    n ≤ from + low →
    (k : ℕ) →
    k < n →
    p (f k) ≡ false
none-before-lowest p f last from m low n before is inside under k h = by-test (ltb k from) refl
  where
    by-test : (c : Bool) → ltb k from ≡ c → p (f k) ≡ false
    by-test true q = before k (ltb-true k from q)
    by-test false q =
        let above = ltb-false k from q in
        let there : from + (k - from) ≡ k = omega arith in
        let under-lowest : k - from < place_of (first p (listed (λ i. f (from + i)) m)) last = omega arith in
        ap (λ (j : ℕ). p (f j)) (sym there) ∙ before-lowest p (λ i. f (from + i)) last m (k - from) (omega arith) under-lowest

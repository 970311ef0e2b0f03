-- Laws of the definitions of specs/. Assumes nothing.
use mathlib.Core.Path.{◌≡◌, refl, sym, ap, ◌∙◌}
use mathlib.Core.Bool.{Bool, true, false, cond, not, ◌&&◌, ◌||◌, and-false, and-true}
use mathlib.Core.List.{List, [], ◌∷◌, ◌++◌, append_assoc, append-nil, map}
use mathlib.Core.Logic.{◌↔◌, ◌⊎◌, inl, inr, ⊎_elim}
use Prim.Native.Nat.{ℕ, zero, suc, ◌+◌, ◌-◌, ◌<◌, ◌≤◌, suc-le-suc}
use native.Mathlib.Nat.{le_of_suc-le-suc, eq-or-lt_of_le}
use native.Mathlib.Numerals.{add-one}
use native.Mathlib.Omega.{arith}
use lib.Dec.{eqb, ltb}
use borrow.Author.Tests.{eqb-true, eqb-false, eq-eqb, ne_eqb, ltb-true, ltb-false}
use lib.ListN.{length, take, drop, get_or, set, length-append, length-take, length-drop, length-set, length-map, get_or-append}
use lib.Seq.{drop-cons, drop-drop, drop-append-add, take_at, set_split, get_or_at, get_or-set_same, get_or-set_other, length-take-le, ext_get_or}
use Rattle.search.specs.Within.{count_after, word_at, words_differ, second_four, third_four}
use Rattle.search.specs.Search.{first, all, put, place_of, entries, later}
use Rattle.search.specs.Bytes.{same_bytes, written}
use Rattle.std.proofs.Common.{Option, Some, None}

-- ---- tests

pub no : false ≡ true → ⊥
no e = let z : ◌≡◌ {A = ℕ} 0 1 = cc in omega arith

pub and_both : (a b : Bool) → (a && b) ≡ true → (a ≡ true) × (b ≡ true)
and_both true b e = (refl, e)
and_both false b e = (e, absurd (no e))

pub or_false : (a b : Bool) → (a || b) ≡ false → (a ≡ false) × (b ≡ false)
or_false true b e = (e, absurd (no (sym e)))
or_false false b e = (refl, e)

-- two numbers and two others, neither of which differ
pub neither_differs : (p q r s : ℕ) → (not (eqb p q) || not (eqb r s)) ≡ false → (p ≡ q) × (r ≡ s)
neither_differs p q r s e = let h = or_false _ _ e in (eqb-true p q (by-test (eqb p q) h.0), eqb-true r s (by-test (eqb r s) h.1))
  where
    by-test : (t : Bool) → not t ≡ false → t ≡ true
    by-test true e = refl
    by-test false e = sym e

pub and_assoc : (a b c : Bool) → (a && (b && c)) ≡ ((a && b) && c)
and_assoc true b c = refl
and_assoc false b c = refl

pub eqb_sym : (a b : ℕ) → eqb a b ≡ eqb b a
eqb_sym a b = by-test (eqb a b) refl
  where
    by-test : (t : Bool) → eqb a b ≡ t → t ≡ eqb b a
    by-test true e = sym (eq-eqb b a (sym (eqb-true a b e)))
    by-test false e = sym (ne_eqb b a (λ q. eqb-false a b e (sym q)))

-- tests that say what something is, and tests put together
pub eqb_is : (a b : ℕ) → (eqb a b ≡ true) ↔ (a ≡ b)
eqb_is a b = (eqb-true a b, eq-eqb a b)

pub or_is : {A B : Type 0} (s t : Bool) → (s ≡ true) ↔ A → (t ≡ true) ↔ B → ((s || t) ≡ true) ↔ (A ⊎ B)
or_is true t a b = (λ e. inl (a.0 refl), λ x. refl)
or_is false t a b = (λ e. inr (b.0 e), ⊎_elim (λ x. absurd (no (a.1 x))) b.1)

pub not_is : {A : Type 0} (s : Bool) → (s ≡ true) ↔ A → (not s ≡ true) ↔ (A → ⊥)
not_is true a = (λ e. absurd (no e), λ x. absurd (x (a.0 refl)))
not_is false a = (λ e x. no (a.1 x), λ x. refl)

-- a number is k exactly where a test passes
pub number_is : {A : Type 0} (n k : ℕ) (t : Bool) → eqb n k ≡ t → (t ≡ true) ↔ A → (n ≡ k) ↔ A
number_is n k t e a = (λ q. a.0 (sym e ∙ eq-eqb n k q), λ x. eqb-true n k (e ∙ a.1 x))

-- ---- equal byte strings

pub same_lengths : (a b : List ℕ) → (length a ≡ length b → ⊥) → same_bytes a b ≡ false
unfolding same_bytes
same_lengths [] [] h = absurd (h refl)
same_lengths [] (y ∷ ys) h = refl
same_lengths (x ∷ xs) [] h = refl
same_lengths (x ∷ xs) (y ∷ ys) h = rw (same_lengths xs ys (λ e. h (ap suc e))) (and-false (eqb x y))

pub same_turn :
    (a b : List ℕ) (i : ℕ) →
    i < length a →
    i < length b →
    same_bytes (drop i a) (drop i b) ≡ (eqb (get_or a i 0) (get_or b i 0) && same_bytes (drop (i + 1) a) (drop (i + 1) b))
unfolding same_bytes
same_turn a b i ha hb = rw (add-one, drop-cons a i 0 ha, drop-cons b i 0 hb)

pub same_refl : (a : List ℕ) → same_bytes a a ≡ true
unfolding same_bytes
same_refl [] = refl
same_refl (x ∷ xs) = rw (eq-eqb x x refl) (same_refl xs)

-- byte strings that compare equal are equal
pub same-equal : (a b : List ℕ) → same_bytes a b ≡ true → a ≡ b
unfolding same_bytes
same-equal [] [] e = refl
same-equal [] (y ∷ ys) e = absurd (no e)
same-equal (x ∷ xs) [] e = absurd (no e)
same-equal (x ∷ xs) (y ∷ ys) e =
    let h = and_both (eqb x y) (same_bytes xs ys) e in
    let p = eqb-true x y h.0 in
    let q = same-equal xs ys h.1 in
    cc

-- two strings are not equal where one of two numbers differs that equal strings have in common
pub differ : (a b : List ℕ) (p q r s : ℕ) → (a ≡ b → p ≡ q) → (a ≡ b → r ≡ s) → (not (eqb p q) || not (eqb r s)) ≡ true → same_bytes a b ≡ false
differ a b p q r s one other e = by-test (same_bytes a b) refl
  where
    by-test : (t : Bool) → same_bytes a b ≡ t → t ≡ false
    by-test true h =
        let f : eqb p q ≡ true = eq-eqb p q (one (same-equal a b h)) in
        let g : eqb r s ≡ true = eq-eqb r s (other (same-equal a b h)) in
        absurd (no (rw (f, g) at e))
    by-test false h = refl

-- where one of two is empty, their lengths decide
pub same-empty : (a b : List ℕ) → (eqb (length a) 0 || eqb (length b) 0) ≡ true → eqb (length a) (length b) ≡ same_bytes a b
unfolding same_bytes
same-empty [] [] e = refl
same-empty [] (y ∷ ys) e = ne_eqb 0 (suc (length ys)) (λ q. omega arith)
same-empty (x ∷ xs) [] e = ne_eqb (suc (length xs)) 0 (λ q. omega arith)
same-empty (x ∷ xs) (y ∷ ys) e =
    let f = ne_eqb (suc (length xs)) 0 (λ q. omega arith) in
    let g = ne_eqb (suc (length ys)) 0 (λ q. omega arith) in
    absurd (no (rw (f, g) at e))

pub same_sym : (a b : List ℕ) → same_bytes a b ≡ same_bytes b a
unfolding same_bytes
same_sym [] [] = refl
same_sym [] (y ∷ ys) = refl
same_sym (x ∷ xs) [] = refl
same_sym (x ∷ xs) (y ∷ ys) = rw (eqb_sym x y, same_sym xs ys)

-- ---- bytes compared as words

-- words that are equal have equal bytes
word_bytes :
    (a b : List ℕ) (i : ℕ) →
    ((k : ℕ) → get_or a k 0 ≤ 255) →
    ((k : ℕ) → get_or b k 0 ≤ 255) →
    word_at a i ≡ word_at b i →
    (j : ℕ) →
    i ≤ j →
    j < i + 4 →
    get_or a j 0 ≡ get_or b j 0
unfolding word_at
word_bytes a b i small small' e j above below = by_tests (eqb j i) refl (eqb j (i + 1)) refl (eqb j (i + 2)) refl
  where
    each : (get_or a i 0 ≡ get_or b i 0) × (get_or a (i + 1) 0 ≡ get_or b (i + 1) 0) × (get_or a (i + 2) 0 ≡ get_or b (i + 2) 0) × (get_or a (i + 3) 0 ≡ get_or b (i + 3) 0)
    each = omega (arith, e, small i, small (i + 1), small (i + 2), small (i + 3), small' i, small' (i + 1), small' (i + 2), small' (i + 3))

    at : (k : ℕ) → j ≡ k → get_or a k 0 ≡ get_or b k 0 → get_or a j 0 ≡ get_or b j 0
    at k q p = ap (λ (x : ℕ). get_or a x 0) q ∙ p ∙ sym (ap (λ (x : ℕ). get_or b x 0) q)

    by_tests : (p : Bool) → eqb j i ≡ p → (q : Bool) → eqb j (i + 1) ≡ q → (r : Bool) → eqb j (i + 2) ≡ r → get_or a j 0 ≡ get_or b j 0
    by_tests true p q q' r r' = at i (eqb-true j i p) each.0
    by_tests false p true q r r' = at (i + 1) (eqb-true j (i + 1) q) each.1
    by_tests false p false q true r = at (i + 2) (eqb-true j (i + 2) r) each.2
    by_tests false p false q false r = at (i + 3) (omega (arith, eqb-false j i p, eqb-false j (i + 1) q, eqb-false j (i + 2) r)) each.3

-- what holds in each of the four fours holds at every index of a string of at most 16 bytes
pub covered :
    (P : ℕ → Type 0) (n : ℕ) →
    n ≤ 16 →
    ((i : ℕ) → i < 4 → P i) →
    ((i : ℕ) → second_four n ≤ i → i < second_four n + 4 → P i) →
    ((i : ℕ) → third_four n ≤ i → i < third_four n + 4 → P i) →
    ((i : ℕ) → n - 4 ≤ i → i < n - 4 + 4 → P i) →
    (i : ℕ) →
    i < n →
    P i
covered P n short one two three four i h = by_tests (ltb i 4) refl (ltb i (n - 4)) refl (ltb i 8) refl
  where
    by_tests : (x : Bool) → ltb i 4 ≡ x → (y : Bool) → ltb i (n - 4) ≡ y → (z : Bool) → ltb i 8 ≡ z → P i
    by_tests true x y y' z z' = one i (ltb-true i 4 x)
    by_tests false x false y z z' = let from = ltb-false i (n - 4) y in four i from (omega arith)
    by_tests false x true y true z =
        let from = ltb-false i 4 x in
        let before = ltb-true i (n - 4) y in
        let low = ltb-true i 8 z in
        two i (omega arith) (omega arith)
    by_tests false x true y false z =
        let from = ltb-false i 8 z in
        let before = ltb-true i (n - 4) y in
        three i (omega arith) (omega arith)

-- strings that differ in a word are not equal
pub words-apart : (a b : List ℕ) (i j : ℕ) → words_differ a b i j ≡ true → same_bytes a b ≡ false
unfolding words_differ
words-apart a b i j = differ a b _ _ _ _ (ap (λ (l : List ℕ). word_at l i)) (ap (λ (l : List ℕ). word_at l j))

-- and strings of one length, at most 16, are equal where they differ in none of the four fours
pub words_same :
    (a b : List ℕ) →
    length a ≡ length b →
    length a ≤ 16 →
    ((k : ℕ) → get_or a k 0 ≤ 255) →
    ((k : ℕ) → get_or b k 0 ≤ 255) →
    words_differ a b 0 (length a - 4) ≡ false →
    words_differ a b (second_four (length a)) (third_four (length a)) ≡ false →
    same_bytes a b ≡ true
unfolding words_differ
words_same a b same most small small' outer inner =
    let ends = neither_differs _ _ _ _ outer in
    let middle = neither_differs _ _ _ _ inner in
    let at : (i : ℕ) → word_at a i ≡ word_at b i → (j : ℕ) → i ≤ j → j < i + 4 → get_or a j 0 ≡ get_or b j 0 = λ i e. word_bytes a b i small small' e in
    let bytes = covered (λ (j : ℕ). get_or a j 0 ≡ get_or b j 0) (length a) most (λ j h. at 0 ends.0 j (omega arith) (omega arith)) (at _ middle.0) (at _ middle.1) (at _ ends.1) in
    ap (same_bytes a) (sym (ext_get_or 0 a b same bytes)) ∙ same_refl a

-- ---- a byte string written over another

pub length-written : (d : List ℕ) (at : ℕ) (s : List ℕ) → at + length s ≤ length d → length (written d at s) ≡ length d
unfolding written
length-written d at s h = simp (length-append, length-take, length-drop) (omega arith)

-- two writes, the second behind the first, are one
pub written-more : (d : List ℕ) (at : ℕ) (a b : List ℕ) (n : ℕ) → at + length a ≡ n → n + length b ≤ length d → written (written d at a) n b ≡ written d at (a ++ b)
unfolding written
written-more d at a b n is h =
    let p : List ℕ = take at d ++ a in
    let q : List ℕ = drop (at + length a) d in
    let e : length p ≡ n = length-append (take at d) a ∙ ap (λ (j : ℕ). j + length a) (length-take-le at d (omega arith)) ∙ is in
    let s : take at d ++ (a ++ q) ≡ p ++ q = sym (append_assoc (take at d) a q) in
    let t : take n (take at d ++ (a ++ q)) ≡ p = ap (take n) s ∙ take_at p q n e in
    let u : drop (n + length b) (take at d ++ (a ++ q)) ≡ drop (n + length b) d =
    ap (drop (n + length b)) s
    ∙ ap (λ (j : ℕ). drop (j + length b) (p ++ q)) (sym e)
    ∙ drop-append-add p q (length b)
    ∙ drop-drop (length b) (at + length a) d
    ∙ ap (λ (j : ℕ). drop (j + length b) d) is in
    let z : at + length (a ++ b) ≡ n + length b = omega (arith, length-append a b) in
    rw (t, u, z) (append_assoc (take at d) a (b ++ drop (n + length b) d) ∙ ap (λ (x : List ℕ). take at d ++ x) (sym (append_assoc a b (drop (n + length b) d))))

-- one byte set is one byte written
pub written_one : (d : List ℕ) (at x : ℕ) → at < length d → set d at x ≡ written d at (x ∷ [])
unfolding written
written_one d at x h = rw (set_split d at x h, add-one)

-- ---- every entry passes a test

pub all_snoc : {A : Type 0} (p : A → Bool) (l : List A) (x : A) → all p (l ++ (x ∷ [])) ≡ (all p l && p x)
unfolding all
all_snoc p [] x = and-true (p x)
all_snoc p (y ∷ ys) x = rw (all_snoc p ys x) (and_assoc (p y) (all p ys) (p x))

pub all_append : {A : Type 0} (p : A → Bool) (a b : List A) → all p a ≡ true → all p b ≡ true → all p (a ++ b) ≡ true
unfolding all
all_append p [] b e f = f
all_append p (x ∷ xs) b e f = let h = and_both (p x) (all p xs) e in rw (h.0, all_append p xs b h.1 f)

pub all-at : {A : Type 0} (p : A → Bool) (d : A) (l : List A) → all p l ≡ true → (k : ℕ) → k < length l → p (get_or l k d) ≡ true
unfolding all
all-at p d [] e k h = absurd (omega arith)
all-at p d (x ∷ xs) e zero h = (and_both (p x) (all p xs) e).0
all-at p d (x ∷ xs) e (suc k) h = all-at p d xs (and_both (p x) (all p xs) e).1 k (le_of_suc-le-suc h)

pub all-by : {A : Type 0} (p : A → Bool) (d : A) (l : List A) → ((k : ℕ) → k < length l → p (get_or l k d) ≡ true) → all p l ≡ true
unfolding all
all-by p d [] h = refl
all-by p d (x ∷ xs) h =
    let ih = all-by p d xs (λ k kh. h (suc k) (suc-le-suc kh)) in
    rw (h zero (omega arith), ih)

-- a weaker test passes where a stronger one does
pub all_weaker : {A : Type 0} (p q : A → Bool) → ((x : A) → p x ≡ true → q x ≡ true) → (l : List A) → all p l ≡ true → all q l ≡ true
unfolding all
all_weaker p q h [] e = refl
all_weaker p q h (x ∷ xs) e =
    let b = and_both (p x) (all p xs) e in
    rw (h x b.0, all_weaker p q h xs b.1)

-- an entry that passes, put into a list that passes
pub all-put : {A : Type 0} (p : A → Bool) (r : Option ℕ) (l : List A) (v : A) → all p l ≡ true → p v ≡ true → all p (put r l v) ≡ true
unfolding put all
all-put {A = A} p (Some i) l v e h = all_set l i e
  where
    all_set : (l : List A) (i : ℕ) → all p l ≡ true → all p (set l i v) ≡ true
    all_set [] i e = e
    all_set (x ∷ xs) zero e = rw h (and_both (p x) (all p xs) e).1
    all_set (x ∷ xs) (suc i) e = let b = and_both (p x) (all p xs) e in rw (b.0, all_set xs i b.1)
all-put p None l v e h = all_snoc p l v ∙ rw (e, h)

-- ---- the first entry that passes a test

module _ {A : Type 0} (p : A → Bool) (d : A) where
  pub first-at : (l : List A) (i : ℕ) → i < length l → ((k : ℕ) → k < i → p (get_or l k d) ≡ false) → p (get_or l i d) ≡ true → first p l ≡ Some i
  unfolding first
  first-at [] i h before here = absurd (omega arith)
  first-at (x ∷ xs) zero h before here = rw here
  first-at (x ∷ xs) (suc i) h before here =
      let ih = first-at xs i (le_of_suc-le-suc h) (λ k kh. before (suc k) (suc-le-suc kh)) here in
      rw (before zero (omega arith), ih)

  pub first-none : (l : List A) → ((k : ℕ) → k < length l → p (get_or l k d) ≡ false) → first p l ≡ None
  unfolding first
  first-none [] none = refl
  first-none (x ∷ xs) none =
      let ih = first-none xs (λ k kh. none (suc k) (suc-le-suc kh)) in
      rw (none zero (omega arith), ih)

  -- what is found is an entry of the list, and it passes
  pub first-is : (l : List A) (i : ℕ) → first p l ≡ Some i → (i < length l) × (p (get_or l i d) ≡ true)
  unfolding first
  first-is [] i e = let z : ◌≡◌ {A = ℕ} 0 1 = cc in absurd (omega arith)
  first-is (x ∷ xs) i e = by-test (p x) refl (first p xs) (first-is xs) i e
    where
      by-test : (b : Bool) → p x ≡ b → (f : Option ℕ) → ((j : ℕ) → f ≡ Some j → (j < length xs) × (p (get_or xs j d) ≡ true)) → (i : ℕ) → cond b (Some zero) (later f) ≡ Some i → (i < suc (length xs)) × (p (get_or (x ∷ xs) i d) ≡ true)
      by-test true e f ih i q = let z : i ≡ 0 = cc in rw z (omega arith, e)
      by-test false e (Some j) ih i q = let z : i ≡ suc j = cc in let h = ih j refl in rw z (suc-le-suc h.0, h.1)
      by-test false e None ih i q = let z : ◌≡◌ {A = ℕ} 0 1 = cc in absurd (omega arith)

-- what stands before the entry that is found fails
pub first-before : {A : Type 0} (p : A → Bool) (d : A) (l : List A) (i : ℕ) → first p l ≡ Some i → (k : ℕ) → k < i → p (get_or l k d) ≡ false
unfolding first
first-before p d [] i e k h = let z : ◌≡◌ {A = ℕ} 0 1 = cc in absurd (omega arith)
first-before p d (x ∷ xs) i e k h = by-test (p x) refl (first p xs) (first-before p d xs) i e k h
  where
    by-test :
        (b : Bool) →
        p x ≡ b →
        (f : Option ℕ) →
        ((j : ℕ) → f ≡ Some j → (k : ℕ) → k < j → p (get_or xs k d) ≡ false) →
        (i : ℕ) →
        cond b (Some zero) (later f) ≡ Some i →
        (k : ℕ) →
        k < i →
        p (get_or (x ∷ xs) k d) ≡ false
    by-test true q f ih i e k h = let z : i ≡ 0 = cc in absurd (omega arith)
    by-test false q f ih i e zero h = q
    by-test false q (Some j) ih i e (suc k) h = let z : i ≡ suc j = cc in ih j refl k (omega arith)
    by-test false q None ih i e (suc k) h = let z : ◌≡◌ {A = ℕ} 0 1 = cc in absurd (omega arith)

-- where nothing is found every entry fails
pub first_fails : {A : Type 0} (p : A → Bool) (d : A) (l : List A) → first p l ≡ None → (k : ℕ) → k < length l → p (get_or l k d) ≡ false
unfolding first
first_fails p d [] e k h = absurd (omega arith)
first_fails p d (x ∷ xs) e k h = by-test (p x) refl (first p xs) (first_fails p d xs) e k h
  where
    by-test :
        (b : Bool) →
        p x ≡ b →
        (f : Option ℕ) →
        (f ≡ None → (k : ℕ) → k < length xs → p (get_or xs k d) ≡ false) →
        cond b (Some zero) (later f) ≡ None →
        (k : ℕ) →
        k < suc (length xs) →
        p (get_or (x ∷ xs) k d) ≡ false
    by-test true q f ih e k h = let z : ◌≡◌ {A = ℕ} 0 1 = cc in absurd (omega arith)
    by-test false q (Some j) ih e k h = let z : ◌≡◌ {A = ℕ} 0 1 = cc in absurd (omega arith)
    by-test false q None ih e zero h = q
    by-test false q None ih e (suc k) h = ih refl k (le_of_suc-le-suc h)

-- an entry that fails the test, put last, changes no search
pub first_snoc : {A : Type 0} (p : A → Bool) (l : List A) (x : A) → p x ≡ false → first p (l ++ (x ∷ [])) ≡ first p l
unfolding first
first_snoc p [] x e = rw e
first_snoc p (y ∷ ys) x e = rw (first_snoc p ys x e)

-- what was found is found in a longer list too
pub first-append : {A : Type 0} (p : A → Bool) (l m : List A) (i : ℕ) → first p l ≡ Some i → first p (l ++ m) ≡ Some i
unfolding first
first-append p [] m i e = let z : ◌≡◌ {A = ℕ} 0 1 = cc in absurd (omega arith)
first-append p (y ∷ ys) m i e = by-test (p y) (first p ys) (first p (ys ++ m)) (first-append p ys m) i e
  where
    by-test : (b : Bool) (f g : Option ℕ) → ((j : ℕ) → f ≡ Some j → g ≡ Some j) → (i : ℕ) → cond b (Some zero) (later f) ≡ Some i → cond b (Some zero) (later g) ≡ Some i
    by-test true f g ih i q = q
    by-test false (Some j) g ih i q = rw (ih j refl) q
    by-test false None g ih i q = let z : ◌≡◌ {A = ℕ} 0 1 = cc in absurd (omega arith)

-- ---- the place and the count of a table with n entries

pub count_le : (f : Option ℕ) (n : ℕ) → (n ≤ count_after f n) × (count_after f n ≤ n + 1)
count_le (Some i) n = omega arith
count_le None n = omega arith

-- ---- a table as the list of its entries

pub entries-length : {A : Type 0} (f : ℕ → A) (n : ℕ) → length (entries f n) ≡ n
unfolding entries
entries-length f zero = refl
entries-length f (suc n) = simp (length-append, entries-length f n) (omega arith)

pub entries_at : {A : Type 0} (f : ℕ → A) (d : A) (n k : ℕ) → k < n → get_or (entries f n) k d ≡ f k
unfolding entries
entries_at f d zero k h = absurd (omega arith)
entries_at f d (suc n) k h = ⊎_elim here (λ hk. before hk (entries_at f d n k hk)) (eq-or-lt_of_le (le_of_suc-le-suc h))
  where
    before : k < n → get_or (entries f n) k d ≡ f k → get_or (entries f n ++ (f n ∷ [])) k d ≡ f k
    before hk ih =
        let hk' : k < length (entries f n) = rw entries-length hk in
        get_or-append (entries f n) (f n ∷ []) d k hk' ∙ ih

    here : k ≡ n → get_or (entries f n ++ (f n ∷ [])) k d ≡ f k
    here e = rw e (get_or_at (entries f n) (f n) [] d n (entries-length f n))

-- tables with the same entries are the same list
pub entries-same : {A : Type 0} (f g : ℕ → A) (n : ℕ) → ((k : ℕ) → k < n → f k ≡ g k) → entries f n ≡ entries g n
unfolding entries
entries-same f g zero h = refl
entries-same f g (suc n) h =
    let ih = entries-same f g n (λ k kh. h k (omega arith)) in
    rw (ih, h n (omega arith))

-- what a search of a table shows
pub found-at : {A : Type 0} (p : A → Bool) (f : ℕ → A) (n i : ℕ) → i < n → ((k : ℕ) → k < i → p (f k) ≡ false) → p (f i) ≡ true → first p (entries f n) ≡ Some i
found-at p f n i hi before here =
    first-at p (f i) (entries f n) i (rw entries-length hi)
    (λ k hk. let h : k < n = omega arith in rw (entries_at f (f i) n k h) (before k hk))
    (rw (entries_at f (f i) n i hi) here)

pub found_none : {A : Type 0} (p : A → Bool) (f : ℕ → A) (n : ℕ) → ((k : ℕ) → k < n → p (f k) ≡ false) → first p (entries f n) ≡ None
found_none p f n none =
    first-none p (f 0) (entries f n)
    (λ k hk. let h : k < n = rw entries-length at hk in rw (entries_at f (f 0) n k h) (none k h))

-- a place that was found is an entry's
pub found-place : {A : Type 0} (p : A → Bool) (f : ℕ → A) (n m : ℕ) → n ≤ m → place_of (first p (entries f n)) m < count_after (first p (entries f n)) m
found-place p f n m h = by_case (first p (entries f n)) (λ i e. omega (arith, (first-is p (f 0) (entries f n) i e).0, entries-length f n))
  where
    by_case : (r : Option ℕ) → ((i : ℕ) → r ≡ Some i → i < m) → place_of r m < count_after r m
    by_case (Some i) ih = ih i refl
    by_case None ih = omega arith

pub last_entry : {A : Type 0} (f g : ℕ → A) (n : ℕ) (v : A) → ((k : ℕ) → k < n → f k ≡ g k) → g n ≡ v → entries g (suc n) ≡ entries f n ++ (v ∷ [])
unfolding entries
last_entry f g n v other here = rw (entries-same g f n (λ k kh. sym (other k kh)), here)

-- ---- an entry put where a search says

-- how long the list then is
pub length-put : {A : Type 0} (f : Option ℕ) (l : List A) (v : A) → length (put f l v) ≡ count_after f (length l)
unfolding put
length-put (Some i) l v = length-set l i v
length-put None l v = length-append l (v ∷ [])

-- the entry stands in its place, and every other where it was
pub put-at : {A : Type 0} (d : A) (f : Option ℕ) (l : List A) (v : A) → place_of f (length l) < count_after f (length l) → get_or (put f l v) (place_of f (length l)) d ≡ v
unfolding put
put-at d (Some i) l v h = get_or-set_same l i v d h
put-at d None l v h = get_or_at l v [] d (length l) refl

pub put_other : {A : Type 0} (d : A) (f : Option ℕ) (l : List A) (v : A) (k : ℕ) → k < length l → (k ≡ place_of f (length l) → ⊥) → get_or (put f l v) k d ≡ get_or l k d
unfolding put
put_other d (Some i) l v k h apart = get_or-set_other l i k v d apart
put_other d None l v k h apart = get_or-append l (v ∷ []) d k h

-- a place that a search found is an entry's
pub first-place : {A : Type 0} (p : A → Bool) (d : A) (l : List A) → place_of (first p l) (length l) < count_after (first p l) (length l)
first-place p d l = by_case (first p l) (first-is p d l)
  where
    by_case : (f : Option ℕ) → ((i : ℕ) → f ≡ Some i → (i < length l) × (p (get_or l i d) ≡ true)) → place_of f (length l) < count_after f (length l)
    by_case (Some i) ih = (ih i refl).0
    by_case None ih = omega arith

-- a search goes on past an entry that fails
put_first : {A : Type 0} (q : A → Bool) (x : A) (xs : List A) (v : A) → put (first q (x ∷ xs)) (x ∷ xs) v ≡ cond (q x) (v ∷ xs) (x ∷ put (first q xs) xs v)
unfolding first put
put_first q x xs v = by-test (q x) (first q xs)
  where
    by-test : (b : Bool) (f : Option ℕ) → put (cond b (Some zero) (later f)) (x ∷ xs) v ≡ cond b (v ∷ xs) (x ∷ put f xs v)
    by-test true f = refl
    by-test false (Some i) = refl
    by-test false None = refl

-- what is put is found
pub first-put : {A : Type 0} (q : A → Bool) (l : List A) (v : A) → q v ≡ true → first q (put (first q l) l v) ≡ Some (place_of (first q l) (length l))
unfolding first put
first-put q [] v e = rw e
first-put q (x ∷ xs) v e = ap (λ l. first q l) (put_first q x xs v) ∙ by-test (q x) refl (first q xs) (first-put q xs v e)
  where
    by-test :
        (b : Bool) →
        q x ≡ b →
        (f : Option ℕ) →
        first q (put (first q xs) xs v) ≡ Some (place_of f (length xs)) →
        first q (cond b (v ∷ xs) (x ∷ put (first q xs) xs v)) ≡ Some (place_of (cond b (Some zero) (later f)) (suc (length xs)))
    by-test true i f ih = rw e
    by-test false i (Some j) ih = rw (i, ih)
    by-test false i None ih = rw (i, ih)

-- a search that passes over the new entry, and over the one that it replaces, finds what it found
pub first-put-other : {A : Type 0} (p q : A → Bool) (l : List A) (v : A) → p v ≡ false → ((y : A) → q y ≡ true → p y ≡ false) → first p (put (first q l) l v) ≡ first p l
unfolding first put
first-put-other p q [] v e h = rw e
first-put-other p q (x ∷ xs) v e h = ap (λ l. first p l) (put_first q x xs v) ∙ by-test (q x) refl (first-put-other p q xs v e h)
  where
    by-test : (b : Bool) → q x ≡ b → first p (put (first q xs) xs v) ≡ first p xs → first p (cond b (v ∷ xs) (x ∷ put (first q xs) xs v)) ≡ first p (x ∷ xs)
    by-test true i ih = rw (e, h x i)
    by-test false i ih = rw ih

-- what a search that passes over the new entry and the one that it replaces finds is as it was
pub found-put-other :
    {A : Type 0} (p q : A → Bool) (d : A) (l : List A) (v : A) →
    ((y : A) → q y ≡ true → p y ≡ false) →
    (k : ℕ) →
    first p l ≡ Some k →
    get_or (put (first q l) l v) k d ≡ get_or l k d
found-put-other p q d l v apart k e = put_other d (first q l) l v k (first-is p d l k e).0 (by_case (first q l) (first-is q d l))
  where
    by_case : (f : Option ℕ) → ((i : ℕ) → f ≡ Some i → (i < length l) × (q (get_or l i d) ≡ true)) → k ≡ place_of f (length l) → ⊥
    by_case (Some i) h z =
        let here : q (get_or l k d) ≡ true = rw z (h i refl).1 in
        no (sym (apart (get_or l k d) here) ∙ (first-is p d l k e).1)
    by_case None h z = omega (arith, (first-is p d l k e).0)

-- equal tests find the same
pub first-same : {A : Type 0} (p q : A → Bool) (l : List A) → ((x : A) → p x ≡ q x) → first p l ≡ first q l
unfolding first
first-same p q [] h = refl
first-same p q (x ∷ xs) h = rw (h x, first-same p q xs h)

-- what is put last is found, where nothing else is
pub first-last : {A : Type 0} (p : A → Bool) (l : List A) (x : A) → first p l ≡ None → p x ≡ true → first p (l ++ (x ∷ [])) ≡ Some (length l)
unfolding put
first-last p l x e h = ap (λ f. first p (put f l x)) (sym e) ∙ first-put p l x h ∙ ap (λ f. Some (place_of f (length l))) e

-- ---- a test that tells entries apart

pub not_so : (b : Bool) → (b ≡ true → ⊥) → b ≡ false
not_so true h = absurd (h refl)
not_so false h = refl

-- `p x y`: x and y count as the same
pub record Same {A : Type 0} (p : A → A → Bool) : Type 0 where
  pub itself : (x : A) → p x x ≡ true
  pub alike : (x y : A) → p x y ≡ true → (z : A) → p x z ≡ p y z

-- no two entries count as the same: each is found at its own place
abbrev pub Distinct : {A : Type 0} → (A → A → Bool) → A → List A → Type 0
Distinct p d l = (k : ℕ) → k < length l → first (p (get_or l k d)) l ≡ Some k

-- and so it stays when an entry is put in the place of the one that counts as the same, or last
pub distinct_put : {A : Type 0} (p : A → A → Bool) (d : A) (l : List A) (v : A) → Same p → Distinct p d l → Distinct p d (put (first (p v) l) l v)
distinct_put {A = A} p d l v same apart k h = by_place (eqb k (place_of (first (p v) l) (length l))) refl
  where
    -- an entry elsewhere does not count as the same as v, nor as whatever does
    other : k < length l → (k ≡ place_of (first (p v) l) (length l) → ⊥) → p (get_or l k d) v ≡ false
    other hk n =
        not_so (p (get_or l k d) v)
        (λ e. n (found (first (p v) l) (sym (first-same (p (get_or l k d)) (p v) l (same.alike (get_or l k d) v e)) ∙ apart k hk)))
      where
        found : (f : Option ℕ) → f ≡ Some k → k ≡ place_of f (length l)
        found (Some i) e = cc
        found None e = let z : ◌≡◌ {A = ℕ} 0 1 = cc in absurd (omega arith)

    passes_over : (x y : A) → p x v ≡ false → p v y ≡ true → p x y ≡ false
    passes_over x y n e = not_so (p x y) (λ q. no (sym n ∙ same.alike x y q v ∙ sym (same.alike v y e v) ∙ same.itself v))

    place-below : (f : Option ℕ) → k < count_after f (length l) → (k ≡ place_of f (length l) → ⊥) → k < length l
    place-below (Some i) hk n = hk
    place-below None hk n = ⊎_elim (λ e. absurd (n e)) (λ q. q) (eq-or-lt_of_le (le_of_suc-le-suc (rw add-one at hk)))

    by_place : (b : Bool) → eqb k (place_of (first (p v) l) (length l)) ≡ b → first (p (get_or (put (first (p v) l) l v) k d)) (put (first (p v) l) l v) ≡ Some k
    by_place true e =
        let z = eqb-true k (place_of (first (p v) l) (length l)) e in
        let q : get_or (put (first (p v) l) l v) k d ≡ v = rw z (put-at d (first (p v) l) l v (first-place (p v) d l)) in
        ap (λ (x : A). first (p x) (put (first (p v) l) l v)) q ∙ first-put (p v) l v (same.itself v) ∙ ap Some (sym z)
    by_place false e =
        let n = eqb-false k (place_of (first (p v) l) (length l)) e in
        let hk : k < length l = place-below (first (p v) l) (rw length-put at h) n in
        let o = other hk n in
        ap (λ (x : A). first (p x) (put (first (p v) l) l v)) (put_other d (first (p v) l) l v k hk n)
        ∙ first-put-other (p (get_or l k d)) (p v) l v o (λ y q. passes_over (get_or l k d) y o q)
        ∙ apart k hk

-- ---- a list that begins with another

pub record Front {A : Type 0} (l m : List A) : Type 0 where
  pub rest : List A
  pub is : m ≡ l ++ rest

pub front_same : {A : Type 0} (l : List A) → Front l l
front_same l = record { rest = []; is = sym (append-nil l) }

pub front-more : {A : Type 0} {l m n : List A} → Front l m → Front m n → Front l n
front-more {l = l} a b = record { rest = a.rest ++ b.rest; is = b.is ∙ rw a.is (append_assoc l a.rest b.rest) }

pub front_length : {A : Type 0} {l m : List A} → Front l m → length l ≤ length m
front_length {l = l} a = rw (a.is, length-append) (omega arith)

pub front-first : {A : Type 0} (p : A → Bool) {l m : List A} (i : ℕ) → Front l m → first p l ≡ Some i → first p m ≡ Some i
front-first p {l = l} i a e = rw a.is (first-append p l a.rest i e)

-- what is found there and not in the front stands beyond it
first_beyond : {A : Type 0} (p : A → Bool) (l m : List A) (i : ℕ) → first p l ≡ None → first p (l ++ m) ≡ Some i → length l ≤ i
unfolding first
first_beyond p [] m i e q = omega arith
first_beyond p (x ∷ xs) m i e q = by-test (p x) (first p xs) (first p (xs ++ m)) (first_beyond p xs m) i e q
  where
    by-test :
        (b : Bool) (f g : Option ℕ) →
        ((j : ℕ) → f ≡ None → g ≡ Some j → length xs ≤ j) →
        (i : ℕ) →
        cond b (Some zero) (later f) ≡ None →
        cond b (Some zero) (later g) ≡ Some i →
        suc (length xs) ≤ i
    by-test true f g ih i e q = let z : ◌≡◌ {A = ℕ} 0 1 = cc in absurd (omega arith)
    by-test false (Some j) g ih i e q = let z : ◌≡◌ {A = ℕ} 0 1 = cc in absurd (omega arith)
    by-test false None (Some j) ih i e q = let z : i ≡ suc j = cc in rw z (suc-le-suc (ih j refl refl))
    by-test false None None ih i e q = let z : ◌≡◌ {A = ℕ} 0 1 = cc in absurd (omega arith)

pub front_beyond : {A : Type 0} (p : A → Bool) {l m : List A} (i : ℕ) → Front l m → first p l ≡ None → first p m ≡ Some i → length l ≤ i
front_beyond {A = A} p {l} i a e q = first_beyond p l a.rest i e (ap (λ (m : List A). first p m) (sym a.is) ∙ q)

-- ---- a list of what another's entries make

pub map_at : {A B : Type 0} (f : A → B) (d : A) (e : B) (l : List A) (k : ℕ) → k < length l → get_or (map f l) k e ≡ f (get_or l k d)
map_at f d e [] k h = absurd (omega arith)
map_at f d e (x ∷ xs) zero h = refl
map_at f d e (x ∷ xs) (suc k) h = map_at f d e xs k (le_of_suc-le-suc h)

-- a test that every entry passes, once it is made
pub all_map : {A B : Type 0} (p : A → Bool) (q : B → Bool) (f : A → B) → ((x : A) → p x ≡ true → q (f x) ≡ true) → (l : List A) → all p l ≡ true → all q (map f l) ≡ true
unfolding all
all_map p q f h [] e = refl
all_map p q f h (x ∷ xs) e =
    let b = and_both (p x) (all p xs) e in
    rw (h x b.0, all_map p q f h xs b.1)

pub all_made : {A B : Type 0} (q : B → Bool) (f : A → B) → ((x : A) → q (f x) ≡ true) → (l : List A) → all q (map f l) ≡ true
unfolding all
all_made q f h [] = refl
all_made q f h (x ∷ xs) = rw (h x, all_made q f h xs)

-- entries that pass a test under which two makers agree
pub map_same : {A B : Type 0} (p : A → Bool) (f g : A → B) → ((x : A) → p x ≡ true → f x ≡ g x) → (l : List A) → all p l ≡ true → map f l ≡ map g l
unfolding all
map_same p f g h [] e = refl
map_same p f g h (x ∷ xs) e =
    let b = and_both (p x) (all p xs) e in
    rw (h x b.0, map_same p f g h xs b.1)

pub first-map : {A B : Type 0} (p : B → Bool) (f : A → B) (l : List A) → first p (map f l) ≡ first (λ (x : A). p (f x)) l
unfolding first
first-map p f [] = refl
first-map p f (x ∷ xs) = rw (first-map p f xs)

-- what tells entries apart still does, where it does not look at what was changed
pub distinct_map : {A : Type 0} (p : A → A → Bool) (d : A) (f : A → A) → ((x y : A) → p (f x) (f y) ≡ p x y) → (l : List A) → Distinct p d l → Distinct p d (map f l)
distinct_map {A} p d f same l apart k h =
    let hk : k < length l = rw length-map at h in
    ap (λ (x : A). first (p x) (map f l)) (map_at f d d l k hk)
    ∙ first-map (p (f (get_or l k d))) f l
    ∙ first-same (λ (x : A). p (f (get_or l k d)) (f x)) (p (get_or l k d)) l (λ x. same (get_or l k d) x)
    ∙ apart k hk

-- ---- a list with no entry twice, whose entries are all in another, is no longer than that

-- numbers below n that are sent apart to numbers below m are no more than m
pub no_more : (m n : ℕ) (f : ℕ → ℕ) → ((k : ℕ) → k < n → f k < m) → ((a b : ℕ) → a < n → b < n → f a ≡ f b → a ≡ b) → n ≤ m
no_more zero zero f below apart = omega arith
no_more zero (suc n) f below apart = absurd (omega (arith, below zero (omega arith)))
no_more (suc m) zero f below apart = omega arith
no_more (suc m) (suc n) f below apart = suc-le-suc (no_more m n (λ (k : ℕ). cond (eqb (f k) m) (f n) (f k)) still-below still-apart)
  where
    or-last : (k : ℕ) → k < suc n → (f k ≡ m) ⊎ (f k < m)
    or-last k h = eq-or-lt_of_le (le_of_suc-le-suc (below k h))

    last_else : (k : ℕ) → k < n → f k ≡ m → f n < m
    last_else k h e = ⊎_elim (λ q. absurd (omega (arith, apart n k (omega arith) (omega arith) (q ∙ sym e)))) (λ q. q) (or-last n (omega arith))

    -- what is sent to m goes to where n went
    still-below : (k : ℕ) → k < n → cond (eqb (f k) m) (f n) (f k) < m
    still-below k h = by-test (eqb (f k) m) refl
      where
        by-test : (b : Bool) → eqb (f k) m ≡ b → cond b (f n) (f k) < m
        by-test true e = last_else k h (eqb-true _ _ e)
        by-test false e = ⊎_elim (λ q. absurd (eqb-false _ _ e q)) (λ q. q) (or-last k (omega arith))

    still-apart : (a b : ℕ) → a < n → b < n → cond (eqb (f a) m) (f n) (f a) ≡ cond (eqb (f b) m) (f n) (f b) → a ≡ b
    still-apart a b ha hb e = by_tests (eqb (f a) m) refl (eqb (f b) m) refl e
      where
        by_tests : (x : Bool) → eqb (f a) m ≡ x → (y : Bool) → eqb (f b) m ≡ y → cond x (f n) (f a) ≡ cond y (f n) (f b) → a ≡ b
        by_tests true p true q e = apart a b (omega arith) (omega arith) (eqb-true _ _ p ∙ sym (eqb-true _ _ q))
        by_tests true p false q e = absurd (omega (arith, apart n b (omega arith) (omega arith) e))
        by_tests false p true q e = absurd (omega (arith, apart a n (omega arith) (omega arith) e))
        by_tests false p false q e = apart a b (omega arith) (omega arith) e

pub distinct_fits :
    {A : Type 0} (p : A → A → Bool) (d : A) (l m : List A) →
    Same p →
    Distinct p d l →
    ((k : ℕ) → k < length l → first (p (get_or l k d)) m ≡ None → ⊥) →
    length l ≤ length m
distinct_fits {A} p d l m same apart there =
    no_more (length m) (length l) (λ (k : ℕ). place_of (first (p (get_or l k d)) m) 0) (λ k h. (found k h).0)
    (λ a b ha hb e.
    let x = same.alike (get_or l a d) _ (found a ha).1 in
    let y = same.alike (get_or l b d) _ (found b hb).1 in
    let z : first (p (get_or l a d)) l ≡ first (p (get_or l b d)) l =
    first-same (p (get_or l a d)) (p (get_or l b d)) l (λ w. x w ∙ ap (λ (i : ℕ). p (get_or m i d) w) e ∙ sym (y w)) in
    same_place (sym (apart a ha) ∙ z ∙ apart b hb))
  where
    same_place : {a b : ℕ} → Some a ≡ Some b → a ≡ b
    same_place e = cc

    found : (k : ℕ) → k < length l → (place_of (first (p (get_or l k d)) m) 0 < length m) × (p (get_or l k d) (get_or m (place_of (first (p (get_or l k d)) m) 0) d) ≡ true)
    found k h = by_case (first (p (get_or l k d)) m) (first-is (p (get_or l k d)) d m) (there k h)
      where
        by_case :
            (f : Option ℕ) →
            ((i : ℕ) → f ≡ Some i → (i < length m) × (p (get_or l k d) (get_or m i d) ≡ true)) →
            (f ≡ None → ⊥) →
            (place_of f 0 < length m) × (p (get_or l k d) (get_or m (place_of f 0) d) ≡ true)
        by_case (Some i) q n = q i refl
        by_case None q n = absurd (n refl)

pub map_snoc : {A B : Type 0} (f : A → B) (l : List A) (x : A) → map f (l ++ (x ∷ [])) ≡ map f l ++ (f x ∷ [])
map_snoc f [] x = refl
map_snoc f (y ∷ ys) x = rw (map_snoc f ys x)

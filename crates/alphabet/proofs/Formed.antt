-- Laws of the test of a label that takes many bytes at a time. Assumes nothing.
use mathlib.Core.Path.{◌≡◌, refl, sym, ap, ◌∙◌}
use mathlib.Core.Bool.{Bool, true, false, not, ◌&&◌, ◌||◌, and-false}
use mathlib.Core.List.{List}
use mathlib.Core.Logic.{◌↔◌}
use Prim.Native.Nat.{ℕ, ◌+◌, ◌-◌, ◌^◌, ◌<◌, ◌≤◌, min}
use native.Mathlib.Omega.{arith}
use lib.Dec.{eqb, leb, ltb}
use lib.ListN.{length, drop, get_or, length-take, length-drop}
use lib.Seq.{get_or-take, get_or-drop, take_all}
use borrow.Author.Tests.{eqb-true, eqb-false, ltb-true, ltb-false, lt-ltb, le-ltb, lt-leb, le-leb}
use Rattle.search.specs.Search.{entries}
use Rattle.search.proofs.Laws.{no, and_both, and_assoc, all-at, all-by, entries_at}
use Rattle.alphabet.specs.Alphabet.{label_byte, well_formed, label_longest, dash}
use Rattle.alphabet.specs.Within.{part, label_bytes, high_bit}

-- ---- bytes

-- Two tests agree on a byte where they agree on each of the 256 values. The byte gets a name of its own, so that the first test is found in what is to
-- be shown.
pub tests_agree : {G : Type 0} {s : ℕ → Bool} (t : ℕ → Bool) (b : ℕ) → b < 256 → ((x : ℕ) → b ≡ x → s x ≡ t x → G) → entries s 256 ≡ entries t 256 → G
tests_agree {s = s} t b h shown e = shown b refl (sym (entries_at s true 256 b h) ∙ rw e (entries_at t true 256 b h))

-- a sum of the test of one byte fits a byte
pub sum_fits : (v : ℕ) → v < 2 ^ 7 → v + 127 < 2 ^ 8
sum_fits v h = omega arith

-- the smaller of two numbers has the bit where both have it
smaller_high_bit : (x y : ℕ) → high_bit (min x y) ≡ (high_bit x && high_bit y)
smaller_high_bit x y = by-test (high_bit x) (high_bit y) refl refl
  where
    by-test : (s t : Bool) → high_bit x ≡ s → high_bit y ≡ t → high_bit (min x y) ≡ (s && t)
    by-test true true e f = let h = ltb-true 127 x e in let i = ltb-true 127 y f in lt-ltb 127 (min x y) (omega arith)
    by-test true false e f = let i = ltb-false 127 y f in le-ltb 127 (min x y) (omega arith)
    by-test false t e f = let h = ltb-false 127 x e in le-ltb 127 (min x y) (omega arith)

-- ---- the bytes of a label from a to b

same_truth : (s t : Bool) → (s ≡ true) ↔ (t ≡ true) → s ≡ t
same_truth true t h = sym (h.0 refl)
same_truth false true h = absurd (no (h.1 refl))
same_truth false false h = refl

module _ (l : List ℕ) where
  part_at : (a b k : ℕ) → k < b - a → get_or (part l a b) k 0 ≡ get_or l (a + k) 0
  part_at a b k h = get_or-take (b - a) (drop a l) k 0 h ∙ get_or-drop a l k 0

  bytes-is : (a b : ℕ) → b ≤ length l → (label_bytes l a b ≡ true) ↔ ((k : ℕ) → a ≤ k → k < b → label_byte (get_or l k 0) ≡ true)
  unfolding label_bytes
  bytes-is a b h = (there, back)
    where
      size : length (part l a b) ≡ b - a
      size = omega (arith, length-take (b - a) (drop a l), length-drop a l)

      there : label_bytes l a b ≡ true → (k : ℕ) → a ≤ k → k < b → label_byte (get_or l k 0) ≡ true
      there e k i j =
          let z : a + (k - a) ≡ k = omega arith in
          rw (part_at a b (k - a) (omega arith), z) at (all-at label_byte 0 (part l a b) e (k - a) (omega (arith, size)))

      back : ((k : ℕ) → a ≤ k → k < b → label_byte (get_or l k 0) ≡ true) → label_bytes l a b ≡ true
      back fine = all-by label_byte 0 (part l a b) (λ k i. let j : k < b - a = omega (arith, size) in rw (part_at a b k j) (fine (a + k) (omega arith) (omega arith)))

  -- no byte
  pub bytes-none : (a b : ℕ) → b ≤ a → b ≤ length l → label_bytes l a b ≡ true
  bytes-none a b h i = (bytes-is a b i).1 (λ k j m. absurd (omega arith))

  -- one byte: what tells of it tells of the part that is it alone
  pub told_one : (a n r : ℕ) → high_bit r ≡ label_byte (get_or l a 0) → a + 1 ≡ n → n ≤ length l → high_bit r ≡ label_bytes l a n
  told_one a n r e z h =
      e ∙ same_truth _ _ (λ t. (bytes-is a n h).1 (λ k i j. let q : k ≡ a = omega arith in rw q t), λ t. (bytes-is a n h).0 t a (omega arith) (omega arith))

  -- two parts without a gap between them
  pub bytes-joined : (a b c d : ℕ) → a ≤ c → c ≤ b → b ≤ d → d ≤ length l → (label_bytes l a b && label_bytes l c d) ≡ label_bytes l a d
  bytes-joined a b c d h i j m = same_truth _ _ (there, back)
    where
      there : (label_bytes l a b && label_bytes l c d) ≡ true → label_bytes l a d ≡ true
      there e = (bytes-is a d m).1 (λ k p q. by-test k p q (ltb k b) refl)
        where
          by-test : (k : ℕ) → a ≤ k → k < d → (t : Bool) → ltb k b ≡ t → label_byte (get_or l k 0) ≡ true
          by-test k p q true r = (bytes-is a b (omega arith)).0 (and_both (label_bytes l a b) (label_bytes l c d) e).0 k p (ltb-true k b r)
          by-test k p q false r = (bytes-is c d m).0 (and_both (label_bytes l a b) (label_bytes l c d) e).1 k (omega (arith, ltb-false k b r)) q

      back : label_bytes l a d ≡ true → (label_bytes l a b && label_bytes l c d) ≡ true
      back e = rw ((bytes-is a b (omega arith)).1 (λ k p q. (bytes-is a d m).0 e k p (omega arith)), (bytes-is c d m).1 (λ k p q. (bytes-is a d m).0 e k (omega arith) q))

  -- the smaller of what tells of two such parts tells of both
  pub told_joined :
      (a b c d n x y r : ℕ) →
      high_bit x ≡ label_bytes l a b →
      high_bit y ≡ label_bytes l c d →
      r ≡ min x y →
      a ≤ c →
      c ≤ b →
      b ≤ d →
      d ≡ n →
      n ≤ length l →
      high_bit r ≡ label_bytes l a n
  told_joined a b c d n x y r e f g h i j z m = rw (g, ← z) (smaller_high_bit x y ∙ rw (e, f) (bytes-joined a b c d h i j (omega arith)))

  -- one byte more
  pub told_more :
      (a b n x y r : ℕ) →
      high_bit x ≡ label_bytes l a b →
      high_bit y ≡ label_byte (get_or l b 0) →
      r ≡ min x y →
      a ≤ b →
      b + 1 ≡ n →
      n ≤ length l →
      high_bit r ≡ label_bytes l a n
  told_more a b n x y r e f g h z m = told_joined a b b n n x y r e (told_one b n y f z m) g h (omega arith) (omega arith) refl m

  -- one part more, where something else is told besides
  pub told_besides :
      (t : Bool) (a b d x y r : ℕ) →
      high_bit x ≡ (t && label_bytes l a b) →
      high_bit y ≡ label_bytes l b d →
      r ≡ min x y →
      a ≤ b →
      b ≤ d →
      d ≤ length l →
      high_bit r ≡ (t && label_bytes l a d)
  told_besides t a b d x y r e f g h i m =
      rw g (smaller_high_bit x y ∙ rw (e, f) (sym (and_assoc t (label_bytes l a b) (label_bytes l b d)) ∙ ap (λ (u : Bool). t && u) (bytes-joined a b b d h (omega arith) i m)))

-- ---- a label

-- the test of its length
out_of_size : (n : ℕ) → (eqb n 0 || ltb label_longest n) ≡ true → (leb 1 n && leb n label_longest) ≡ false
out_of_size n e = by-test (eqb n 0) (ltb label_longest n) refl refl e
  where
    by-test : (s t : Bool) → eqb n 0 ≡ s → ltb label_longest n ≡ t → (s || t) ≡ true → (leb 1 n && leb n label_longest) ≡ false
    by-test true t p q e = let h = eqb-true n 0 p in rw (lt-leb 1 n (omega arith))
    by-test false true p q e = rw (lt-leb n label_longest (ltb-true label_longest n q)) (and-false (leb 1 n))
    by-test false false p q e = absurd (no e)

pub in_size : (n : ℕ) → (eqb n 0 || ltb label_longest n) ≡ false → (1 ≤ n) × (n ≤ label_longest)
in_size n e = by-test (eqb n 0) (ltb label_longest n) refl refl e
  where
    by-test : (s t : Bool) → eqb n 0 ≡ s → ltb label_longest n ≡ t → (s || t) ≡ false → (1 ≤ n) × (n ≤ label_longest)
    by-test true t p q e = absurd (no (sym e))
    by-test false true p q e = absurd (no (sym e))
    by-test false false p q e = let h = eqb-false n 0 p in (omega arith, ltb-false label_longest n q)

-- a label that is empty or too long is not well formed, and any other is where its bytes are label bytes and the first is no dash
pub formed-size : (l : List ℕ) → (eqb (length l) 0 || ltb label_longest (length l)) ≡ true → well_formed l ≡ false
unfolding well_formed
formed-size l e = and_assoc (leb 1 (length l)) (leb (length l) label_longest) _ ∙ rw (out_of_size (length l) e)

pub formed-bytes :
    (l : List ℕ) →
    (eqb (length l) 0 || ltb label_longest (length l)) ≡ false →
    well_formed l ≡ (label_bytes l 0 (length l) && not (eqb (get_or l 0 0) dash))
unfolding well_formed label_bytes
formed-bytes l e =
    let h = in_size (length l) e in
    let z : length l - 0 ≡ length l = omega arith in
    rw (le-leb 1 (length l) h.0, le-leb (length l) label_longest h.1, z, take_all (length l) l (omega arith))

-- Labels that enter a list add to it as many as there are different ones that it has not. Assumes nothing.
use Prim.Native.Nat.{ℕ, zero, ◌+◌}
use native.Mathlib.Omega.{arith}
use mathlib.Core.Path.{◌≡◌, refl, sym, ap, ◌∙◌}
use mathlib.Core.Bool.{Bool, true, false, cond, not, ◌||◌}
use mathlib.Core.List.{List, [], ◌∷◌, ◌++◌, foldl}
use lib.ListN.{length, length-append}
use Rattle.search.specs.Search.{first, those, later}
use Rattle.search.specs.Bytes.{same_bytes}
use Rattle.std.proofs.Common.{Option, Some, None}
use Rattle.search.proofs.Laws.{no, same-equal, same_sym}
use Rattle.store.specs.Table.{labels_entered, enter}
use Rattle.access.specs.Access.{is_found}
use Rattle.faults.specs.Faults.{is_one_of, different_ones, new_ones}

-- ---- whether a label is is_one_of some

found_among : (x : List ℕ) (ls : List (List ℕ)) → is_found (first (same_bytes x) ls) ≡ is_one_of x ls
unfolding first
found_among x [] = refl
found_among x (y ∷ ys) = by-test (same_bytes x y) (first (same_bytes x) ys) (found_among x ys)
  where
    by-test : (b : Bool) (f : Option ℕ) → is_found f ≡ is_one_of x ys → is_found (cond b (Some zero) (later f)) ≡ (b || is_one_of x ys)
    by-test true f e = refl
    by-test false (Some k) e = e
    by-test false None e = e

among-last : (x : List ℕ) (ls : List (List ℕ)) (y : List ℕ) → is_one_of x (ls ++ (y ∷ [])) ≡ (is_one_of x ls || same_bytes x y)
among-last x [] y = by-test (same_bytes x y)
  where
    by-test : (b : Bool) → (b || false) ≡ b
    by-test true = refl
    by-test false = refl
among-last x (z ∷ zs) y = rw (among-last x zs y) (by-test (same_bytes x z))
  where
    by-test : (b : Bool) → (b || (is_one_of x zs || same_bytes x y)) ≡ ((b || is_one_of x zs) || same_bytes x y)
    by-test true = refl
    by-test false = refl

-- ---- those that pass a test

those-same : (p q : List ℕ → Bool) → ((x : List ℕ) → p x ≡ q x) → (l : List (List ℕ)) → those p l ≡ those q l
those-same p q h [] = refl
those-same p q h (x ∷ xs) = rw (h x, those-same p q h xs)

pub those-all : (l : List (List ℕ)) → those (λ (x : List ℕ). true) l ≡ l
those-all [] = refl
those-all (x ∷ xs) = ap (λ (l : List (List ℕ)). x ∷ l) (those-all xs)

-- ---- the different ones beside some labels, and beside one label y more

module _ (ls : List (List ℕ)) (y : List ℕ) where
  abbrev beside : List ℕ → Bool
  beside x = not (is_one_of x ls)

  abbrev beside_more : List ℕ → Bool
  beside_more x = not (is_one_of x ls || same_bytes x y)

  abbrev many : List (List ℕ) → ℕ
  many xs = length (those beside xs)

  abbrev many_more : List (List ℕ) → ℕ
  many_more xs = length (those beside_more xs)

  -- one that is not y is in both or in neither
  kept : (z : List ℕ) (rest : List (List ℕ)) → same_bytes y z ≡ false → (a : ℕ) → a + many_more rest ≡ many rest → a + many_more (z ∷ rest) ≡ many (z ∷ rest)
  kept z rest apart a h = rw (same_sym z y ∙ apart) (by-test (is_one_of z ls))
    where
      by-test :
          (b : Bool) →
          a + length (cond (not (b || false)) (z ∷ those beside_more rest) (those beside_more rest))
          ≡ length (cond (not b) (z ∷ those beside rest) (those beside rest))
      by-test true = h
      by-test false = omega arith

  -- where y is not is_one_of them it makes no difference
  absent : (xs : List (List ℕ)) → is_one_of y xs ≡ false → many_more (different_ones xs) ≡ many (different_ones xs)
  absent [] e = refl
  absent (z ∷ zs) e = by-test (same_bytes y z) refl (is_one_of y zs) (absent zs) e (is_one_of z zs)
    where
      by-test :
          (c : Bool) →
          same_bytes y z ≡ c →
          (d : Bool) →
          (d ≡ false → many_more (different_ones zs) ≡ many (different_ones zs)) →
          (c || d) ≡ false →
          (b : Bool) →
          many_more (cond b (different_ones zs) (z ∷ different_ones zs)) ≡ many (cond b (different_ones zs) (z ∷ different_ones zs))
      by-test true ec d h q b = absurd (no (sym q))
      by-test false ec d h q true = h q
      by-test false ec d h q false = let k = h q in omega (arith, kept z (different_ones zs) ec 0 (omega arith))

  -- where it is, it counts once
  present : (xs : List (List ℕ)) → is_one_of y ls ≡ false → is_one_of y xs ≡ true → 1 + many_more (different_ones xs) ≡ many (different_ones xs)
  present [] new e = absurd (no e)
  present (z ∷ zs) new e = by-test (same_bytes y z) refl (is_one_of z zs) refl (present zs new) e
    where
      by-test :
          (c : Bool) →
          same_bytes y z ≡ c →
          (b : Bool) →
          is_one_of z zs ≡ b →
          (is_one_of y zs ≡ true → 1 + many_more (different_ones zs) ≡ many (different_ones zs)) →
          (c || is_one_of y zs) ≡ true →
          1 + many_more (cond b (different_ones zs) (z ∷ different_ones zs)) ≡ many (cond b (different_ones zs) (z ∷ different_ones zs))
      by-test true ec true eb h q = h (ap (λ (x : List ℕ). is_one_of x zs) (same-equal y z ec) ∙ eb)
      by-test false ec true eb h q = h q
      by-test false ec false eb h q = kept z (different_ones zs) ec 1 (h q)
      by-test true ec false eb h q =
          let here : is_one_of z ls ≡ false = ap (λ (x : List ℕ). is_one_of x ls) (sym (same-equal y z ec)) ∙ new in
          let gone : is_one_of y zs ≡ false = ap (λ (x : List ℕ). is_one_of x zs) (same-equal y z ec) ∙ eb in
          rw (here, same_sym z y ∙ ec) (omega (arith, absent zs gone))

  -- once y has entered, the others count
  pub entered_beside : (xs : List (List ℕ)) → length (new_ones (ls ++ (y ∷ [])) xs) ≡ many_more (different_ones xs)
  entered_beside xs = ap length (those-same (λ (x : List ℕ). not (is_one_of x (ls ++ (y ∷ [])))) beside_more (λ x. ap not (among-last x ls y)) (different_ones xs))

-- SO MANY ENTER
pub entered_many : (xs ls : List (List ℕ)) → length (foldl enter ls xs) ≡ length ls + length (new_ones ls xs)
entered_many [] ls = omega arith
entered_many (y ∷ xs) ls = entered_many xs (enter ls y) ∙ by-found (first (same_bytes y) ls) (found_among y ls)
  where
    known : is_one_of y ls ≡ true → (b : Bool) → many ls y (cond b (different_ones xs) (y ∷ different_ones xs)) ≡ many ls y (different_ones xs)
    known e true = refl
    known e false = rw e

    new : is_one_of y ls ≡ false → (b : Bool) → is_one_of y xs ≡ b → many ls y (cond b (different_ones xs) (y ∷ different_ones xs)) ≡ 1 + many_more ls y (different_ones xs)
    new e true q = sym (present ls y xs e q)
    new e false q = rw e (omega (arith, absent ls y xs q))

    by-found :
        (f : Option ℕ) →
        is_found f ≡ is_one_of y ls →
        length (labels_entered f ls y) + length (new_ones (labels_entered f ls y) xs) ≡ length ls + length (new_ones ls (y ∷ xs))
    by-found (Some k) e = ap (λ (n : ℕ). length ls + n) (sym (known (sym e) (is_one_of y xs)))
    by-found None e = rw (entered_beside ls y xs, length-append ls (y ∷ [])) (omega (arith, new (sym e) (is_one_of y xs) refl))

-- Laws of labels that enter, and of the rule of a pair. Assumes nothing.
use mathlib.Core.Path.{◌≡◌, refl, ap, ◌∙◌}
use mathlib.Core.Bool.{Bool, true, false, and-false}
use mathlib.Core.List.{List, [], ◌∷◌}
use Prim.Native.Nat.{ℕ, ◌+◌}
use native.Mathlib.Omega.{arith}
use lib.Dec.{eqb, ltb}
use lib.ListN.{length}
use borrow.Author.Tests.{ne_eqb, ltb-true}
use Rattle.search.specs.Within.{count_after}
use Rattle.search.specs.Search.{first, all, put, place_of}
use Rattle.search.specs.Bytes.{same_bytes}
use Rattle.std.proofs.Common.{Option, Some, None}
use Rattle.search.proofs.Laws.{and_both, same_refl, same-equal, all_snoc, first_snoc, first-last, length-put, Same, Distinct, distinct_put, Front, front_same}
use Rattle.store.specs.declared.Rule.{Rule}
use Rattle.store.specs.Table.{Table, labels_entered, enter, is_pair, pair_in, sound_rule, sound_table}
use Rattle.store.specs.Pairs.{rule_between}

pub same_bytes_lem : Same same_bytes
same_bytes_lem = record { itself = same_refl; alike = λ x y e z. ap (λ (w : List ℕ). same_bytes w z) (same-equal x y e) }

-- ---- a label enters: last, where it is not there

module _ (ls : List (List ℕ)) (l : List ℕ) where
  pub enter-front : Front ls (enter ls l)
  enter-front = by_case (first (same_bytes l) ls)
    where
      by_case : (f : Option ℕ) → Front ls (labels_entered f ls l)
      by_case (Some i) = front_same ls
      by_case None = record { rest = l ∷ []; is = refl }

  pub enter-length : length (enter ls l) ≡ count_after (first (same_bytes l) ls) (length ls)
  unfolding put
  enter-length = by_case (first (same_bytes l) ls)
    where
      by_case : (f : Option ℕ) → length (labels_entered f ls l) ≡ count_after f (length ls)
      by_case (Some i) = refl
      by_case None = length-put None ls l

  pub enter-number : first (same_bytes l) (enter ls l) ≡ Some (place_of (first (same_bytes l) ls) (length ls))
  enter-number = by_case (first (same_bytes l) ls) refl
    where
      by_case : (f : Option ℕ) → first (same_bytes l) ls ≡ f → first (same_bytes l) (labels_entered f ls l) ≡ Some (place_of f (length ls))
      by_case (Some i) e = e
      by_case None e = first-last (same_bytes l) ls l e (same_refl l)

  -- no other label's number changes
  pub enter-other : (x : List ℕ) → same_bytes x l ≡ false → first (same_bytes x) (enter ls l) ≡ first (same_bytes x) ls
  enter-other x e = by_case (first (same_bytes l) ls)
    where
      by_case : (f : Option ℕ) → first (same_bytes x) (labels_entered f ls l) ≡ first (same_bytes x) ls
      by_case (Some i) = refl
      by_case None = first_snoc (same_bytes x) ls l e

  pub enter-once : Distinct same_bytes [] ls → Distinct same_bytes [] (enter ls l)
  unfolding put
  enter-once once = by_case (first (same_bytes l) ls) (distinct_put same_bytes [] ls l same_bytes_lem once)
    where
      by_case : (f : Option ℕ) → Distinct same_bytes [] (put f ls l) → Distinct same_bytes [] (labels_entered f ls l)
      by_case (Some i) q = once
      by_case None q = q

  pub enter-all : (q : List ℕ → Bool) → all q ls ≡ true → q l ≡ true → all q (enter ls l) ≡ true
  enter-all q e h = by_case (first (same_bytes l) ls)
    where
      by_case : (f : Option ℕ) → all q (labels_entered f ls l) ≡ true
      by_case (Some i) = e
      by_case None = all_snoc q ls l ∙ rw (e, h)

-- ---- a number that no entry of a sound table names

-- nothing passes a test that fails whatever passes another
none_pass : {A : Type 0} (p q : A → Bool) (l : List A) → all q l ≡ true → ((x : A) → q x ≡ true → p x ≡ false) → first p l ≡ None
unfolding first all
none_pass p q [] e h = refl
none_pass p q (x ∷ xs) e h =
    let b = and_both (q x) (all q xs) e in
    rw (h x b.0, none_pass p q xs b.1 h)

-- a rule that names stored labels does not name the number n, as subject or as object
beyond : (n j : ℕ) (r : Rule) → sound_rule n r ≡ true → (is_pair n j r ≡ false) × (is_pair j n r ≡ false)
unfolding sound_rule is_pair
beyond n j r e =
    let a = and_both _ _ e in
    let b = and_both _ _ a.0 in
    let s : eqb r.subject n ≡ false = ne_eqb r.subject n (λ q. omega (arith, ltb-true r.subject n b.0)) in
    let o : eqb r.object n ≡ false = ne_eqb r.object n (λ q. omega (arith, ltb-true r.object n b.1)) in
    (rw s, rw o (and-false (eqb r.subject j)))

-- the number n is beyond those of a sound table
module _ (t : Table) (n : ℕ) (sound : sound_table n t ≡ true) where
  sound-parts : (all (sound_rule n) t.rules ≡ true) × (all (λ (k : ℕ). ltb k n) t.onlycap ≡ true)
  unfolding sound_table
  sound-parts =
      let a = and_both _ _ sound in
      let b = and_both _ _ a.0 in
      (b.0, a.1)

  pub not_listed : first (eqb n) t.onlycap ≡ None
  not_listed = none_pass (eqb n) (λ (k : ℕ). ltb k n) t.onlycap sound-parts.1 (λ k h. ne_eqb n k (λ e. omega (arith, ltb-true k n h)))

  pub not_subject : (j : ℕ) → pair_in t n j ≡ None
  not_subject j = none_pass (is_pair n j) (sound_rule n) t.rules sound-parts.0 (λ r h. (beyond n j r h).0)

  pub not_object : (i : ℕ) → pair_in t i n ≡ None
  not_object i = none_pass (is_pair i n) (sound_rule n) t.rules sound-parts.0 (λ r h. (beyond n i r h).1)

-- the pair's rule, by the numbers that its labels have or get, is the rule between them: a label that is not there yet has no rules
pub between_read : (t : Table) → sound_table (length t.labels) t ≡ true → (f g : Option ℕ) → pair_in t (place_of f (length t.labels)) (place_of g (count_after f (length t.labels))) ≡ rule_between t f g
between_read t sound (Some i) (Some j) = refl
between_read t sound (Some i) None = not_object t (length t.labels) sound i
between_read t sound None (Some j) = not_subject t (length t.labels) sound j
between_read t sound None None = not_subject t (length t.labels) sound (length t.labels + 1)

-- What the place beside a refusal's number means, by the first fault of each call. Assumes nothing.
use Prim.Native.Nat.{ℕ, ◌<◌}
use native.Mathlib.Omega.{arith}
use mathlib.Core.Path.{◌≡◌, refl, sym, ap, ◌∙◌, subst}
use mathlib.Core.Bool.{Bool, true, false, cond, not, ◌||◌}
use mathlib.Core.List.{List, [], ◌∷◌}
use mathlib.Core.Logic.{◌≢◌, ◌⊎◌, inl, inr}
use lib.Dec.{eqb, leb}
use lib.ListN.{length, get_or}
use borrow.Author.Tests.{eqb-true, ltb-false, not-true, not-false}
use Rattle.search.specs.Search.{all}
use Rattle.search.proofs.Laws.{no, all-at}
use Rattle.refusals.specs.Refusals.{number_of, place_of, damaged, too_long, wrong_fields, bad_access, same_labels, labels_full, rules_full, bad_request, bad_level_or_category, mappings_full, too_many_overrides, no_such_number, bad_label_at}
use Rattle.refusals.specs.declared.Refusal.{Refusal}
use Rattle.alphabet.specs.Alphabet.{well_formed, FirstBad, bad_byte, bad_byte_of_two, fields, bad_byte_in, BadIn}
use Rattle.alphabet.proofs.Laws.{label_form}
use Rattle.alphabet.proofs.Places.{bad_byte-is, first_bad_byte}
use Rattle.store.specs.Layout.{Store, table_of, full_sizes, undamaged_of}
use Rattle.faults.specs.Faults.{Fault, First, none, by, first_fault, Refuses, bad_labels, field, clears, line_field_faults, line_faults, change_faults, revoke_faults, onlycap_label_faults, onlycap_faults, mapping_faults, by_label_faults, question_faults, fresh_faults, label_by_number_faults}
use Rattle.faults.specs.Places.{Told, BadOfTwo, PlaceOfTheFirstBadByte}
use Rattle.faults.proofs.Faults.{first_in_order}

is_by : {R : Type 0} → First R → Bool
is_by none = false
is_by (by r) = true

-- ---- a refusal is told rightly, and so is the first fault where each is that no earlier one forestalls

module _ (P : ℕ → Type 0) where
  abbrev Right : Refusal → Type 0
  Right why = (number_of why ≡ 3 → P (place_of why)) × (number_of why ≢ 3 → place_of why ≡ 0)

  abbrev Rights : List (Fault Refusal) → Type 0
  Rights [] = Unit {0}
  Rights (x ∷ xs) = (x.holds ≡ true → Right x.refusal) × (x.holds ≡ false → Rights xs)

  first-right : (xs : List (Fault Refusal)) → Rights xs → (why : Refusal) → first_fault xs ≡ by why → Right why
  unfolding is_by
  first-right [] g why e = absurd (no (ap is_by e))
  first-right (x ∷ xs) g why e = by-test x.holds refl e (λ h q. first-right xs (g.1 h) why q)
    where
      by-test : (t : Bool) → x.holds ≡ t → cond t (by x.refusal) (first_fault xs) ≡ by why → (x.holds ≡ false → first_fault xs ≡ by why → Right why) → Right why
      by-test true h e later = let z : x.refusal ≡ why = cc in subst Right z (g.0 h)
      by-test false h e later = later h e

  pub told : {A : Type 0} {answer : A} {refused : Refusal → A} (faults : List (Fault Refusal)) → Refuses answer refused faults → Rights faults → Told answer refused P
  told faults f g =
      record {
        bad_label = λ why e n. (first-right faults g why ((f why).0 e)).0 n;
        another = λ why e n. (first-right faults g why ((f why).0 e)).1 n;
      }

  other : (r : Refusal) → (number_of r ≡ 3 → ⊥) → place_of r ≡ 0 → Right r
  other r h z = (λ e. absurd (h e), λ q. z)

  bad : (p : ℕ) → P p → Right (bad_label_at p)
  bad p w = (λ e. w, λ q. absurd (q refl))

  perhaps : (t : Bool) (xs : List (Fault Refusal)) → (t ≡ false → Rights xs) → Rights (cond t [] xs)
  perhaps true xs g = tt
  perhaps false xs g = g refl

-- ---- a label that is not well formed, among the fields

not_all : (fs : List (List ℕ)) (k : ℕ) → k < length fs → well_formed (get_or fs k []) ≡ false → all well_formed fs ≡ false
not_all fs k h e = by-test (all well_formed fs) refl
  where
    by-test : (t : Bool) → all well_formed fs ≡ t → t ≡ false
    by-test true q = sym (all-at well_formed [] fs q k h) ∙ e
    by-test false q = refl

one-is_bad : (s o : List ℕ) → bad_labels s o ≡ true → (well_formed s ≡ false) ⊎ (well_formed o ≡ false)
one-is_bad s o e = by_tests (well_formed s) (well_formed o) e
  where
    by_tests : (p q : Bool) → (not p || not q) ≡ true → (p ≡ false) ⊎ (q ≡ false)
    by_tests false q e = inl refl
    by_tests true false e = inr refl
    by_tests true true e = absurd (no e)

bad_in_fields : (text : List ℕ) → 1 < length (fields text) → bad_labels (field (fields text) 0) (field (fields text) 1) ≡ true → BadIn 0 text (bad_byte_in text)
bad_in_fields text h e = by_one (one-is_bad (field (fields text) 0) (field (fields text) 1) e)
  where
    by_one : (well_formed (get_or (fields text) 0 []) ≡ false) ⊎ (well_formed (get_or (fields text) 1 []) ≡ false) → BadIn 0 text (bad_byte_in text)
    by_one (inl q) = first_bad_byte.text text (not_all (fields text) 0 (omega arith) q)
    by_one (inr q) = first_bad_byte.text text (not_all (fields text) 1 (omega arith) q)

bad_of_two : (s o : List ℕ) → bad_labels s o ≡ true → BadOfTwo s o (bad_byte_of_two s o)
bad_of_two s o e = by-test (well_formed s) refl (one-is_bad s o e)
  where
    by-test : (t : Bool) → well_formed s ≡ t → (well_formed s ≡ false) ⊎ (well_formed o ≡ false) → BadOfTwo s o (cond t (bad_byte o) (bad_byte s))
    by-test true q (inl z) = absurd (no (sym z ∙ q))
    by-test true q (inr z) = inr ((label_form s).0 q, bad_byte-is o z)
    by-test false q z = inl (bad_byte-is s q)

-- ---- the calls

module _ (text : List ℕ) where
  abbrev In : ℕ → Type 0
  In = BadIn 0 text

  line_rights : (st : Store) → Rights In (line_faults (table_of st) text)
  line_rights st = (
    λ h. other In too_long (λ q. omega arith) refl,
    λ h. perhaps In (eqb (length (fields text)) 0) (line_field_faults (table_of st) (bad_byte_in text) (fields text))
        (λ n. (
          λ k. other In wrong_fields (λ q. omega arith) refl,
          λ k. (
            λ m. bad In (bad_byte_in text) (bad_in_fields text (omega (arith, eqb-true (length (fields text)) 3 (not-false _ k))) m),
            λ m. (
              λ i. other In bad_access (λ q. omega arith) refl,
              λ i. (
                λ j. other In same_labels (λ q. omega arith) refl,
                λ j. (
                  λ u. other In labels_full (λ q. omega arith) refl,
                  λ u. (λ v. other In rules_full (λ q. omega arith) refl, λ v. tt),
                ),
              ),
            ),
          ),
        )),
  )

  change_rights : (st : Store) → Rights In (change_faults st text)
  change_rights st = (
    λ h. other In damaged (λ q. omega arith) refl,
    λ h. (
      λ n. other In too_long (λ q. omega arith) refl,
      λ n. (
        λ k. other In wrong_fields (λ q. omega arith) refl,
        λ k. (
          λ m. bad In (bad_byte_in text) (bad_in_fields text (omega (arith, eqb-true (length (fields text)) 4 (not-false _ k))) m),
          λ m. (
            λ i. other In bad_access (λ q. omega arith) refl,
            λ i. (
              λ j. other In same_labels (λ q. omega arith) refl,
              λ j. (
                λ u. other In labels_full (λ q. omega arith) refl,
                λ u. (λ v. other In rules_full (λ q. omega arith) refl, λ v. tt),
              ),
            ),
          ),
        ),
      ),
    ),
  )

  onlycap_rights : (st : Store) → Rights In (onlycap_faults st text)
  onlycap_rights st = (
    λ h. other In damaged (λ q. omega arith) refl,
    λ h. (
      λ n. other In too_long (λ q. omega arith) refl,
      λ n. (
        λ k. other In wrong_fields (λ q. omega arith) refl,
        λ k. perhaps In (clears (fields text)) (onlycap_label_faults (table_of st) (bad_byte_in text) (fields text))
            (λ c. (
              λ m. bad In (bad_byte_in text) (first_bad_byte.text text (not-true _ m)),
              λ m. (
                λ i. other In too_many_overrides (λ q. omega arith) refl,
                λ i. (λ j. other In labels_full (λ q. omega arith) refl, λ j. tt),
              ),
            )),
      ),
    ),
  )

  mapping_rights : (st : Store) → Rights In (mapping_faults st text)
  mapping_rights st = (
    λ h. other In damaged (λ q. omega arith) refl,
    λ h. (
      λ n. other In too_long (λ q. omega arith) refl,
      λ n. (
        λ k. other In wrong_fields (λ q. omega arith) refl,
        λ k. (
          λ m. bad In (bad_byte_in text) (first_bad_byte.text text (not_all (fields text) 0 (omega (arith, ltb-false (length (fields text)) 2 k)) (not-true _ m))),
          λ m. (
            λ i. other In bad_level_or_category (λ q. omega arith) refl,
            λ i. (
              λ j. other In labels_full (λ q. omega arith) refl,
              λ j. (λ u. other In mappings_full (λ q. omega arith) refl, λ u. tt),
            ),
          ),
        ),
      ),
    ),
  )

  revoke_rights : (st : Store) → Rights (FirstBad text) (revoke_faults st text)
  revoke_rights st = (
    λ h. other (FirstBad text) damaged (λ q. omega arith) refl,
    λ h. (
      λ n. other (FirstBad text) too_long (λ q. omega arith) refl,
      λ n. (λ k. bad (FirstBad text) (bad_byte text) (bad_byte-is text (not-true _ k)), λ k. tt),
    ),
  )

  by-label_rights : (st : Store) → Rights (FirstBad text) (by_label_faults st text)
  by-label_rights st = (
    λ h. other (FirstBad text) damaged (λ q. omega arith) refl,
    λ h. (λ k. bad (FirstBad text) (bad_byte text) (bad_byte-is text (not-true _ k)), λ k. tt),
  )

question_rights : (st : Store) (s o request : List ℕ) → Rights (BadOfTwo s o) (question_faults st s o request)
question_rights st s o request = (
  λ h. other (BadOfTwo s o) damaged (λ q. omega arith) refl,
  λ h. (
    λ n. bad (BadOfTwo s o) (bad_byte_of_two s o) (bad_of_two s o n),
    λ n. (λ k. other (BadOfTwo s o) bad_request (λ q. omega arith) refl, λ k. tt),
  ),
)

-- what is refused by plain numbers alone
no_place : (xs : List (Fault Refusal)) → ((why : Refusal) → first_fault xs ≡ by why → place_of why ≡ 0) → {A : Type 0} {answer : A} {refused : Refusal → A} → Refuses answer refused xs → (why : Refusal) → answer ≡ refused why → place_of why ≡ 0
no_place xs h f why e = h why ((f why).0 e)

one_plain : (t : Bool) (why : Refusal) → cond t (by damaged) none ≡ by why → place_of why ≡ 0
unfolding is_by
one_plain true why e = let z : damaged ≡ why = cc in sym (ap place_of z)
one_plain false why e = absurd (no (ap is_by e))

two-plain : (t u : Bool) (why : Refusal) → cond t (by damaged) (cond u (by no_such_number) none) ≡ by why → place_of why ≡ 0
unfolding is_by
two-plain true u why e = let z : damaged ≡ why = cc in sym (ap place_of z)
two-plain false true why e = let z : no_such_number ≡ why = cc in sym (ap place_of z)
two-plain false false why e = absurd (no (ap is_by e))

pub place_of_the_first_bad_byte : PlaceOfTheFirstBadByte
place_of_the_first_bad_byte =
    record {
      line = λ st text u. told (BadIn 0 text) (line_faults (table_of st) text) (first_in_order.line st text u) (line_rights text st);
      change = λ st text. told (BadIn 0 text) (change_faults st text) (first_in_order.change st text) (change_rights text st);
      revoke = λ st text. told (FirstBad text) (revoke_faults st text) (first_in_order.revoke st text) (revoke_rights text st);
      onlycap = λ st text. told (BadIn 0 text) (onlycap_faults st text) (first_in_order.onlycap st text) (onlycap_rights text st);
      mapping = λ st text. told (BadIn 0 text) (mapping_faults st text) (first_in_order.mapping st text) (mapping_rights text st);
      mapping_by_label = λ st text. told (FirstBad text) (by_label_faults st text) (first_in_order.mapping_by_label st text) (by-label_rights text st);
      question =
          λ st s o request capable. told (BadOfTwo s o) (question_faults st s o request) (first_in_order.question st s o request capable) (question_rights st s o request);
      fresh_table = λ st. no_place (fresh_faults st) (λ why e. one_plain (not (full_sizes st)) why e) (first_in_order.fresh_table st);
      label_by_number = λ st k. no_place (label_by_number_faults st k) (λ why e. two-plain (not (undamaged_of st)) (leb (length (table_of st).labels) k) why e) (first_in_order.label_by_number st k);
    }

-- Refusal 1 is given exactly where the text is over its limit: it is the first fault behind 0, and no later one has its number. Assumes nothing.
use Prim.Native.Nat.{ℕ, ◌<◌}
use mathlib.Core.Path.{◌≡◌, refl, sym, ap, ◌∙◌, subst}
use mathlib.Core.Bool.{Bool, true, false, cond, not}
use mathlib.Core.List.{List, [], ◌∷◌}
use mathlib.Core.Logic.{◌↔◌}
use lib.Dec.{eqb, ltb}
use lib.ListN.{length}
use borrow.Author.Tests.{ltb-true, lt-ltb}
use Rattle.search.specs.Search.{all}
use Rattle.search.proofs.Laws.{no, and_both}
use Rattle.refusals.specs.Refusals.{number_of, damaged, too_long, bad_label_at}
use Rattle.refusals.specs.declared.Refusal.{Refusal}
use Rattle.alphabet.specs.Alphabet.{well_formed, bad_byte, bad_byte_in, fields}
use Rattle.store.specs.Layout.{Store, table_of, undamaged_of}
use Rattle.faults.specs.Faults.{Fault, First, none, by, ◌when◌, first_fault, Refuses, line_field_faults, change_field_faults, clears, onlycap_label_faults, onlycap_field_faults, mapping_field_faults}
use Rattle.faults.specs.Lengths.{RefusedForLength}
use Rattle.faults.proofs.Faults.{first_in_order}

-- another number than 1
abbrev another : Refusal → Bool
another r = not (eqb (number_of r) 1)

abbrev is_another : Fault Refusal → Bool
is_another f = another f.refusal

given : First Refusal → Bool
given none = false
given (by r) = true

never : (xs : List (Fault Refusal)) → all is_another xs ≡ true → first_fault xs ≡ by too_long → ⊥
unfolding all given
never [] h e = no (ap given e)
never (x ∷ xs) h e = by-test x.holds e (never xs (and_both (is_another x) (all is_another xs) h).1)
  where
    by-test : (t : Bool) → cond t (by x.refusal) (first_fault xs) ≡ by too_long → (first_fault xs ≡ by too_long → ⊥) → ⊥
    by-test true q later = let z : x.refusal ≡ too_long = cc in no (sym (ap another z) ∙ (and_both (is_another x) (all is_another xs) h).0)
    by-test false q later = later q

perhaps : (t : Bool) (xs : List (Fault Refusal)) → all is_another xs ≡ true → all is_another (cond t [] xs) ≡ true
unfolding all
perhaps true xs h = refl
perhaps false xs h = h

module _ {A : Type 0} {answer : A} {refused : Refusal → A} (limit : ℕ) (text : List ℕ) (rest : List (Fault Refusal)) (h : all is_another rest ≡ true) where
  exactly : Refuses answer refused (too_long when ltb limit (length text) ∷ rest) → (answer ≡ refused too_long) ↔ (limit < length text)
  exactly f = (
    λ e. ltb-true limit (length text) (by-test (ltb limit (length text)) ((f too_long).0 e)),
    λ l. (f too_long).1 (ap (λ (t : Bool). cond t (by too_long) (first_fault rest)) (lt-ltb limit (length text) l)),
  )
    where
      by-test : (t : Bool) → cond t (by too_long) (first_fault rest) ≡ by too_long → t ≡ true
      by-test true e = refl
      by-test false e = absurd (never rest h e)

  -- of a lent state, which is not damaged
  of_state :
      (st : Store) →
      undamaged_of st ≡ true →
      Refuses answer refused (damaged when not (undamaged_of st) ∷ too_long when ltb limit (length text) ∷ rest) →
      (answer ≡ refused too_long) ↔ (limit < length text)
  of_state st u f = exactly (subst (λ (t : Bool). Refuses answer refused (damaged when not t ∷ too_long when ltb limit (length text) ∷ rest)) u f)

pub refused_for_length : RefusedForLength
unfolding all
refused_for_length =
    record {
      line =
          λ st text u.
          let skipped : Bool = eqb (length (fields text)) 0 in
          let later : List (Fault Refusal) = line_field_faults (table_of st) (bad_byte_in text) (fields text) in
          exactly 600 text (cond skipped [] later) (perhaps skipped later refl) (first_in_order.line st text u);
      change = λ st text u. of_state 600 text (change_field_faults (table_of st) (bad_byte_in text) (fields text)) refl st u (first_in_order.change st text);
      revoke = λ st text u. of_state 600 text (bad_label_at (bad_byte text) when not (well_formed text) ∷ []) refl st u (first_in_order.revoke st text);
      onlycap =
          λ st text u.
          let later : List (Fault Refusal) = onlycap_label_faults (table_of st) (bad_byte_in text) (fields text) in
          of_state 600 text (onlycap_field_faults (table_of st) (bad_byte_in text) (fields text)) (perhaps (clears (fields text)) later refl) st u (first_in_order.onlycap st text);
      mapping = λ st text u. of_state 1000 text (mapping_field_faults (table_of st) (bad_byte_in text) (fields text)) refl st u (first_in_order.mapping st text);
    }

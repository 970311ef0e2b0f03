-- Override counts after a denial alone, and for whom the list says. Assumes nothing.
use mathlib.Core.Path.{◌≡◌, refl, sym, ◌∙◌}
use mathlib.Core.Bool.{Bool, true, false, cond, ◌&&◌, ◌||◌}
use mathlib.Core.Logic.{◌↔◌, ⊎_elim}
use mathlib.Core.List.Memᴰ
use mathlib.Core.List.{List, [], ◌∷◌, Memᴰ}
use Prim.Native.Nat.{ℕ, suc}
use native.Mathlib.Omega.{arith}
use lib.Dec.{eqb}
use lib.ListN.{length}
use borrow.Author.Tests.{eqb-true}
use Rattle.search.specs.Search.{first}
use Rattle.search.proofs.Laws.{no, eqb_is, or_is}
use Rattle.refusals.specs.Refusals.{bad_request, bad_label_at}
use Rattle.refusals.specs.declared.Refusal.{Refusal}
use Rattle.alphabet.specs.Alphabet.{well_formed, bad_byte_of_two}
use Rattle.modes.specs.Modes.{read_modes, request_letters}
use Rattle.std.proofs.Common.{Option, Some, None}
use Rattle.store.specs.Table.{Table, label_in}
use Rattle.access.specs.SevenRules.{first_of, seven_rules}
use Rattle.access.specs.declared.Denial.{Denial}
use Rattle.access.specs.declared.Verdict.{Verdict}
use Rattle.access.specs.declared.Verdict.TheVariants.{Grants, Denies, Undecided}
use Rattle.access.specs.declared.Answer.TheVariants.{Override, Refused}
use Rattle.access.specs.Access.{is_found, effective, answered, decide, by_request, answer}
use Rattle.effects.specs.OverrideAndLookUp.{overridden, OverrideCounts}
use Rattle.effects.proofs.Entering.{or_false, found_cons}

-- ---- the answers

verdict_overridden : (e : Bool) (v : Verdict) → answered e v ≡ cond e (overridden (answered false v)) (answered false v)
verdict_overridden true (Grants n) = refl
verdict_overridden true (Denies by) = refl
verdict_overridden true Undecided = refl
verdict_overridden false v = refl

verdict_never : (v : Verdict) (by : Denial) → answered false v ≡ Override by → ⊥
verdict_never (Grants n) by e = let z : ◌≡◌ {A = ℕ} 0 1 = cc in omega arith
verdict_never (Denies d) by e = let z : ◌≡◌ {A = ℕ} 0 1 = cc in omega arith
verdict_never Undecided by e = let z : ◌≡◌ {A = ℕ} 0 1 = cc in omega arith

refused_stays : (e : Bool) (n : Refusal) → Refused n ≡ cond e (overridden (Refused n)) (Refused n)
refused_stays true n = refl
refused_stays false n = refl

module _ (t : Table) (s o request : List ℕ) where
  request_overridden :
      (r : Option ℕ) → by_request t s o true r ≡ cond (effective t (label_in t s) true) (overridden (by_request t s o false r)) (by_request t s o false r)
  unfolding decide effective
  request_overridden (Some wanted) = verdict_overridden (effective t (label_in t s) true) (first_of (seven_rules t s o wanted))
  request_overridden None = refused_stays (effective t (label_in t s) true) bad_request

  answer-overridden : answer t s o request true ≡ cond (effective t (label_in t s) true) (overridden (answer t s o request false)) (answer t s o request false)
  unfolding answer
  answer-overridden = by_tests (well_formed s && well_formed o) (eqb (length request) 0) (read_modes request_letters false request)
    where
      by_tests :
          (a b : Bool) (r : Option ℕ) →
          cond a (cond b (Refused bad_request) (by_request t s o true r)) (Refused (bad_label_at (bad_byte_of_two s o)))
          ≡ cond (effective t (label_in t s) true)
          (overridden (cond a (cond b (Refused bad_request) (by_request t s o false r)) (Refused (bad_label_at (bad_byte_of_two s o)))))
          (cond a (cond b (Refused bad_request) (by_request t s o false r)) (Refused (bad_label_at (bad_byte_of_two s o))))
      by_tests true true r = refused_stays (effective t (label_in t s) true) bad_request
      by_tests true false r = request_overridden r
      by_tests false b r = refused_stays (effective t (label_in t s) true) (bad_label_at (bad_byte_of_two s o))

  request_never : (r : Option ℕ) (by : Denial) → by_request t s o false r ≡ Override by → ⊥
  unfolding decide effective
  request_never (Some wanted) by e = verdict_never (first_of (seven_rules t s o wanted)) by e
  request_never None by e = let z : ◌≡◌ {A = ℕ} 0 1 = cc in omega arith

  answer_never : (by : Denial) → answer t s o request false ≡ Override by → ⊥
  unfolding answer
  answer_never by e = by_tests (well_formed s && well_formed o) (eqb (length request) 0) (read_modes request_letters false request) e
    where
      by_tests : (a b : Bool) (r : Option ℕ) → cond a (cond b (Refused bad_request) (by_request t s o false r)) (Refused (bad_label_at (bad_byte_of_two s o))) ≡ Override by → ⊥
      by_tests true true r e = let z : ◌≡◌ {A = ℕ} 0 1 = cc in omega arith
      by_tests true false r e = request_never r by e
      by_tests false b r e = let z : ◌≡◌ {A = ℕ} 0 1 = cc in omega arith

-- ---- the list

empty-is : (l : List ℕ) → (eqb (length l) 0 ≡ true) ↔ (l ≡ [])
empty-is [] = (λ e. refl, λ e. refl)
empty-is (x ∷ xs) = (λ e. absurd (omega (arith, eqb-true (suc (length xs)) 0 e)), λ (e : x ∷ xs ≡ []). let z : ◌≡◌ {A = ℕ} 0 1 = cc in absurd (omega arith))

member_is : (i : ℕ) (l : List ℕ) → (is_found (first (eqb i) l) ≡ true) ↔ Memᴰ i l
unfolding first
member_is i [] = (λ e. absurd (no e), λ m. absurd (Memᴰ.not-nil m))
member_is i (x ∷ xs) =
    let h = or_is (eqb i x) (is_found (first (eqb i) xs)) (eqb_is i x) (member_is i xs) in (
      λ e. ⊎_elim Memᴰ.head Memᴰ.tail (h.0 (sym (found_cons (eqb i) x xs) ∙ e)),
      λ m. found_cons (eqb i) x xs ∙ h.1 (Memᴰ.cases_cons m),
    )

both_is : {A : Type 0} (a b : Bool) → (b ≡ true) ↔ A → ((a && b) ≡ true) ↔ ((a ≡ true) × A)
both_is true b h = (λ e. (refl, h.0 e), λ q. h.1 q.1)
both_is false b h = (λ e. absurd (no e), λ q. absurd (no q.0))

-- WHEN OVERRIDE COUNTS
pub overriding : (t : Table) → OverrideCounts t
unfolding effective
overriding t =
    record {
      after_denial = answer-overridden t;
      never_without = answer_never t;
      holder = λ i capable.
          both_is capable (eqb (length t.onlycap) 0 || is_found (first (eqb i) t.onlycap)) (or_is _ _ (empty-is t.onlycap) (member_is i t.onlycap));
      unknown = λ capable. both_is capable (eqb (length t.onlycap) 0 || false) (nothing (eqb (length t.onlycap) 0) (empty-is t.onlycap));
    }
  where
    nothing : {A : Type 0} (b : Bool) → (b ≡ true) ↔ A → ((b || false) ≡ true) ↔ A
    nothing b h = (λ e. h.0 (sym (or_false b) ∙ e), λ a. or_false b ∙ h.1 a)

-- The first of the seven rules that applies decides, where no override does. Assumes nothing.
use mathlib.Core.Path.{◌≡◌, refl, sym, ap, ◌∙◌, subst}
use mathlib.Core.Bool.{Bool, true, false, cond}
use mathlib.Core.List.{List, [], ◌∷◌}
use Prim.Native.Nat.{ℕ, zero, suc, ◌<◌, ◌≤◌, suc-le-suc}
use native.Mathlib.Nat.{le_of_suc-le-suc}
use native.Mathlib.Omega.{arith}
use lib.ListN.{get_or}
use Rattle.search.specs.Search.{first, later}
use Rattle.std.proofs.Common.{Option, Some, None}
use Rattle.search.proofs.Laws.{no, first-is, first-at, first-before}
use Rattle.store.specs.Table.{Table, label_in}
use Rattle.access.specs.SevenRules.{Clause, clause, first_of, seven_rules, denial_number}
use Rattle.access.specs.Access.{effective, answered, answer}
use Rattle.access.specs.declared.Denial.{Denial}
use Rattle.access.specs.declared.Denial.TheVariants.{StarSubject, AnyOther}
use Rattle.access.specs.declared.Verdict.{Verdict}
use Rattle.access.specs.declared.Verdict.TheVariants.{Grants, Denies, Undecided}
use Rattle.access.specs.declared.Answer.TheVariants.{Granted, Denied}
use Rattle.access.proofs.Laws.{decides, first_says, all_decided, answer-is}
use Rattle.grown.specs.Order.{Asks, FirstSays, ByFirst}

-- ---- a run of rules

abbrev none : Clause
none = clause false Undecided

abbrev applying : List Clause → Option ℕ
applying ls = first (λ (l : Clause). l.applies) ls

none-applies : (ls : List Clause) → applying ls ≡ None → first_of ls ≡ Undecided
unfolding first
none-applies [] e = refl
none-applies (l ∷ ls) e = by-test l.applies (applying ls) (none-applies ls) e
  where
    by-test : (b : Bool) (f : Option ℕ) → (f ≡ None → first_of ls ≡ Undecided) → cond b (Some zero) (later f) ≡ None → cond b l.says (first_of ls) ≡ Undecided
    by-test true f ih e = let z : ◌≡◌ {A = ℕ} 0 1 = cc in absurd (omega arith)
    by-test false (Some j) ih e = let z : ◌≡◌ {A = ℕ} 0 1 = cc in absurd (omega arith)
    by-test false None ih e = ih refl

-- what the first that applies says, by its number
pub says_first : (ls : List Clause) (k : ℕ) (v : Verdict) → applying ls ≡ Some k → first_of ls ≡ v → FirstSays ls (suc k) v
says_first ls k v e q =
    let h = first-is (λ (l : Clause). l.applies) none ls k e in
    record {
      from_one = omega arith;
      among = h.0;
      applies = h.1;
      none_earlier = earlier;
      says = sym (first_says none ls k e) ∙ q;
    }
  where
    earlier : (j : ℕ) → 1 ≤ j → j < suc k → (Rattle.grown.specs.Order.published_rule ls j).applies ≡ false
    earlier zero a b = refl
    earlier (suc j) a b = first-before (λ (l : Clause). l.applies) none ls k e j (le_of_suc-le-suc b)

pub first_told : (ls : List Clause) (n : ℕ) (v : Verdict) → FirstSays ls n v → first_of ls ≡ v
first_told ls zero v f = absurd (omega (arith, f.from_one))
first_told ls (suc k) v f =
    first_says none ls k (first-at (λ (l : Clause). l.applies) none ls k f.among (λ j h. f.none_earlier (suc j) (omega arith) (suc-le-suc h)) f.applies)
    ∙ f.says

-- ---- the seven

module _ (t : Table) (s o : List ℕ) (wanted : ℕ) where
  -- each says its own number
  granted-number : (k : ℕ) → k < 7 → (n : ℕ) → (get_or (seven_rules t s o wanted) k none).says ≡ Grants n → n ≡ suc k
  granted-number zero h n e = let z : ◌≡◌ {A = ℕ} 0 1 = cc in absurd (omega arith)
  granted-number (suc zero) h n e = cc
  granted-number (suc (suc zero)) h n e = cc
  granted-number (suc (suc (suc zero))) h n e = cc
  granted-number (suc (suc (suc (suc zero)))) h n e = cc
  granted-number (suc (suc (suc (suc (suc zero))))) h n e = cc
  granted-number (suc (suc (suc (suc (suc (suc zero)))))) h n e = let z : ◌≡◌ {A = ℕ} 0 1 = cc in absurd (omega arith)
  granted-number (suc (suc (suc (suc (suc (suc (suc k))))))) h n e = absurd (omega arith)

  denied-number : (k : ℕ) → k < 7 → (by : Denial) → (get_or (seven_rules t s o wanted) k none).says ≡ Denies by → denial_number by ≡ suc k
  denied-number zero h by e = let z : by ≡ StarSubject = cc in rw z
  denied-number (suc zero) h by e = let z : ◌≡◌ {A = ℕ} 0 1 = cc in absurd (omega arith)
  denied-number (suc (suc zero)) h by e = let z : ◌≡◌ {A = ℕ} 0 1 = cc in absurd (omega arith)
  denied-number (suc (suc (suc zero))) h by e = let z : ◌≡◌ {A = ℕ} 0 1 = cc in absurd (omega arith)
  denied-number (suc (suc (suc (suc zero)))) h by e = let z : ◌≡◌ {A = ℕ} 0 1 = cc in absurd (omega arith)
  denied-number (suc (suc (suc (suc (suc zero))))) h by e = let z : ◌≡◌ {A = ℕ} 0 1 = cc in absurd (omega arith)
  denied-number (suc (suc (suc (suc (suc (suc zero)))))) h by e = let z : by ≡ AnyOther = cc in rw z
  denied-number (suc (suc (suc (suc (suc (suc (suc k))))))) h by e = absurd (omega arith)

  -- the number of a verdict that is one of theirs
  first-numbered :
      (n : ℕ) (v : Verdict) →
      decides v ≡ true →
      ((k : ℕ) → k < 7 → (get_or (seven_rules t s o wanted) k none).says ≡ v → n ≡ suc k) →
      first_of (seven_rules t s o wanted) ≡ v →
      FirstSays (seven_rules t s o wanted) n v
  first-numbered n v d number e = by_case (applying (seven_rules t s o wanted)) refl
    where
      by_case : (f : Option ℕ) → applying (seven_rules t s o wanted) ≡ f → FirstSays (seven_rules t s o wanted) n v
      by_case (Some k) q =
          let r = says_first (seven_rules t s o wanted) k v q e in
          subst (λ (i : ℕ). FirstSays (seven_rules t s o wanted) i v) (sym (number k r.among r.says)) r
      by_case None q = absurd (no (ap decides (sym (none-applies (seven_rules t s o wanted) q) ∙ e) ∙ d))

pub by_first :
    (t : Table) (s o request : List ℕ) (capable : Bool) (wanted : ℕ) →
    Asks s o request wanted →
    effective t (label_in t s) capable ≡ false →
    ByFirst t s o request capable wanted
by_first t s o request capable wanted asks off =
    record {
      granted = λ n. (
        λ e. first-numbered t s o wanted n (Grants n) refl (λ k h. granted-number t s o wanted k h n) (grants n (first_of (seven_rules t s o wanted)) (sym is ∙ e)),
        λ f. is ∙ ap (answered false) (first_told (seven_rules t s o wanted) n (Grants n) f),
      );
      denied = λ by. (
        λ e. first-numbered t s o wanted (denial_number by) (Denies by) refl (λ k h. denied-number t s o wanted k h by) (denies by (first_of (seven_rules t s o wanted)) (all_decided t s o wanted) (sym is ∙ e)),
        λ f. is ∙ ap (answered false) (first_told (seven_rules t s o wanted) (denial_number by) (Denies by) f),
      );
    }
  where
    is : answer t s o request capable ≡ answered false (first_of (seven_rules t s o wanted))
    is =
        answer-is t s o request capable wanted asks.subject asks.object asks.some asks.letters
        ∙ ap (λ (b : Bool). answered b (first_of (seven_rules t s o wanted))) off

    grants : (n : ℕ) (v : Verdict) → answered false v ≡ Granted n → v ≡ Grants n
    grants n (Grants m) q = let x : m ≡ n = cc in rw x
    grants n (Denies by) q = let z : ◌≡◌ {A = ℕ} 0 1 = cc in absurd (omega arith)
    grants n Undecided q = let z : ◌≡◌ {A = ℕ} 0 1 = cc in absurd (omega arith)

    denies : (by : Denial) (v : Verdict) → decides v ≡ true → answered false v ≡ Denied by → v ≡ Denies by
    denies by (Grants m) d q = let z : ◌≡◌ {A = ℕ} 0 1 = cc in absurd (omega arith)
    denies by (Denies other) d q = let x : other ≡ by = cc in rw x
    denies by Undecided d q = absurd (no d)

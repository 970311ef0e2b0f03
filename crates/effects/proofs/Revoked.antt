-- An accepted revoke clears its subject's rules, touches no other subject's, and is answered with their number. Assumes nothing.
use mathlib.Core.Path.{◌≡◌, refl, sym, ap, ◌∙◌, subst}
use mathlib.Core.Bool.{Bool, true, false, cond}
use mathlib.Core.Logic.{◌≢◌}
use mathlib.Core.List.{List, [], ◌∷◌, map}
use Prim.Native.Nat.{ℕ, zero, suc, ◌<◌}
use native.Mathlib.Omega.{arith}
use lib.Dec.{eqb, ltb}
use lib.ListN.{length, get_or, length-map}
use borrow.Author.Tests.{eqb-true, eq-eqb, ne_eqb}
use Rattle.search.specs.Search.{first, all, those}
use Rattle.search.specs.Bytes.{same_bytes}
use Rattle.std.proofs.Common.{Option, Some, None, Ok}
use Rattle.search.proofs.Laws.{no, and_both, not_so, same_refl, same-equal, first-is, first-map, first-same, map_at}
use Rattle.refusals.specs.Refusals.{damaged, too_long, bad_label_at}
use Rattle.alphabet.specs.Alphabet.{well_formed, bad_byte}
use Rattle.store.specs.declared.Rule.{Rule}
use Rattle.store.specs.Table.{Table, label_in, label_numbered, is_pair, sound_rule}
use Rattle.store.specs.Pairs.{has_modes, rule_between, modes_found, modes_between}
use Rattle.store.specs.Layout.{Store, table_of, undamaged_of}
use Rattle.store.specs.Judged.{Judged, is_skipped, is_refused, is_accepted, on_state}
use Rattle.revoke.specs.Revoke.{has_subject, how_many, revoked_rule, without_modes, subject_count, revoke_write, count_of, revoke_count, revoke_answer}
use Rattle.access.specs.Access.{effective}
use Rattle.new_object.proofs.WhichLabel.{goes_by-modes, pair_alone}
use Rattle.grown.specs.Sane.{LabelsOnce}
use Rattle.grown.specs.Pairs.{SoundTable}
use Rattle.grown.proofs.Pairs.{undamaged-sound}
use Rattle.grown.proofs.Sane.{one_label, sound-parts, rule-known}
use Rattle.grown.proofs.Pairs.{answer-same}
use Rattle.effects.specs.Effects.{cleared, Revokes, CountsRules, rules_of}

abbrev none : Rule
none = record { subject = 0; object = 0; modes = 0 }

number : {i j : ℕ} → Some i ≡ Some j → i ≡ j
number q = cc

nowhere : {i : ℕ} → None ≡ Some i → ⊥
nowhere q = let z : ◌≡◌ {A = ℕ} 0 1 = cc in omega arith

-- a search for a pair finds the same place among rules whose labels are the same, whatever their modes
pub same_place :
    (f : Rule → Rule) → ((r : Rule) → (f r).subject ≡ r.subject) → ((r : Rule) → (f r).object ≡ r.object) →
    (rules : List Rule) (i j : ℕ) → first (is_pair i j) (map f rules) ≡ first (is_pair i j) rules
unfolding is_pair
same_place f subject object rules i j =
    first-map (is_pair i j) f rules ∙ first-same (λ (r : Rule). is_pair i j (f r)) (is_pair i j) rules (λ r. rw (subject r, object r))

-- a rule, with no modes where a test passes
abbrev emptied : Bool → Rule → Rule
emptied b r = cond b (record { subject = r.subject; object = r.object; modes = 0 }) r

module _ (n : ℕ) where
  same_subject : (r : Rule) → (revoked_rule n r).subject ≡ r.subject
  same_subject r = by-test (has_subject n r)
    where
      by-test : (b : Bool) → (emptied b r).subject ≡ r.subject
      by-test true = refl
      by-test false = refl

  same_object : (r : Rule) → (revoked_rule n r).object ≡ r.object
  same_object r = by-test (has_subject n r)
    where
      by-test : (b : Bool) → (emptied b r).object ≡ r.object
      by-test true = refl
      by-test false = refl

  pair_place : (rules : List Rule) (i j : ℕ) → first (is_pair i j) (map (revoked_rule n) rules) ≡ first (is_pair i j) rules
  pair_place rules i j = same_place (revoked_rule n) same_subject same_object rules i j

  -- the rule found there has the subject
  pair-subject : (rules : List Rule) (i j k : ℕ) → first (is_pair i j) rules ≡ Some k → (k < length rules) × ((get_or rules k none).subject ≡ i)
  unfolding is_pair
  pair-subject rules i j k e =
      let h = first-is (is_pair i j) none rules k e in
      (h.0, eqb-true _ _ (and_both (eqb (get_or rules k none).subject i) (eqb (get_or rules k none).object j) h.1).0)

  abbrev after : List Rule → List Rule
  after rules = map (revoked_rule n) rules

  own-modes : (rules : List Rule) (j : ℕ) → modes_found (after rules) (first (is_pair n j) (after rules)) ≡ cleared (modes_found rules (first (is_pair n j) rules))
  own-modes rules j = ap (modes_found (after rules)) (pair_place rules n j) ∙ by_case (first (is_pair n j) rules) (pair-subject rules n j)
    where
      by_case :
          (f : Option ℕ) →
          ((k : ℕ) → f ≡ Some k → (k < length rules) × ((get_or rules k none).subject ≡ n)) →
          modes_found (after rules) f ≡ cleared (modes_found rules f)
      by_case (Some k) h =
          ap (λ (r : Rule). has_modes r.modes) (map_at (revoked_rule n) none none rules k (h k refl).0)
          ∙ ap (λ (b : Bool). has_modes (emptied b (get_or rules k none)).modes) (eq-eqb _ _ (h k refl).1)
      by_case None h = refl

  other_modes :
      (rules : List Rule) (i j : ℕ) → i ≢ n → modes_found (after rules) (first (is_pair i j) (after rules)) ≡ modes_found rules (first (is_pair i j) rules)
  other_modes rules i j apart = ap (modes_found (after rules)) (pair_place rules i j) ∙ by_case (first (is_pair i j) rules) (pair-subject rules i j)
    where
      by_case :
          (f : Option ℕ) →
          ((k : ℕ) → f ≡ Some k → (k < length rules) × ((get_or rules k none).subject ≡ i)) →
          modes_found (after rules) f ≡ modes_found rules f
      by_case (Some k) h =
          ap (λ (r : Rule). has_modes r.modes) (map_at (revoked_rule n) none none rules k (h k refl).0)
          ∙ ap (λ (b : Bool). has_modes (emptied b (get_or rules k none)).modes) (ne_eqb _ _ (λ q. apart (sym (h k refl).1 ∙ q)))
      by_case None h = refl

  -- the rule at a place, with the modes that a test leaves it
  modes-at : (rules : List Rule) (k : ℕ) → has_subject n (get_or rules k none) ≡ true → (get_or (after rules) k none).modes ≡ 0
  modes-at [] k e = refl
  modes-at (r ∷ rs) zero e = ap (λ (b : Bool). (emptied b r).modes) e
  modes-at (r ∷ rs) (suc k) e = modes-at rs k e

  modes_stay : (rules : List Rule) (k : ℕ) → has_subject n (get_or rules k none) ≡ false → (get_or (after rules) k none).modes ≡ (get_or rules k none).modes
  modes_stay [] k e = refl
  modes_stay (r ∷ rs) zero e = ap (λ (b : Bool). (emptied b r).modes) e
  modes_stay (r ∷ rs) (suc k) e = modes_stay rs k e

  -- a part of the rule at a place that no test changes
  place-part :
      (part : Rule → ℕ) →
      ((r : Rule) → part (revoked_rule n r) ≡ part r) →
      (rules : List Rule) (k : ℕ) →
      part (get_or (after rules) k none) ≡ part (get_or rules k none)
  place-part part same [] k = refl
  place-part part same (r ∷ rs) zero = same r
  place-part part same (r ∷ rs) (suc k) = place-part part same rs k

module _ (t : Table) (l : List ℕ) where
  module _ (n : ℕ) (e : label_in t l ≡ Some n) where
    abbrev t' : Table
    t' = without_modes t (Some n)

    by-object : (g : Option ℕ) → modes_found t'.rules (rule_between t' (label_in t l) g) ≡ cleared (modes_found t.rules (rule_between t (label_in t l) g))
    by-object (Some j) = rw e (own-modes n t.rules j)
    by-object None = rw e

    by_both : (f g : Option ℕ) → ((i : ℕ) → f ≡ Some i → i ≢ n) → modes_found t'.rules (rule_between t' f g) ≡ modes_found t.rules (rule_between t f g)
    by_both (Some i) (Some j) apart = other_modes n t.rules i j (apart i refl)
    by_both (Some i) None apart = refl
    by_both None g apart = refl

    other : (x y : List ℕ) → x ≢ l → modes_between t' x y ≡ modes_between t x y
    unfolding modes_between
    other x y apart = by_both (label_in t x) (label_in t y) (λ i q z. apart (one_label t.labels x l n (q ∙ ap Some z) e))

    revokes-at : Revokes t t' l
    unfolding modes_between effective
    revokes-at =
        record {
          own = λ o. by-object (label_in t o);
          others = other;
          other_answers = λ x y request capable apart. answer-same t t' x y (other x y apart) (λ c. refl) request capable;
          own_new_objects = λ o. goes_by-modes t' l o _ (by-object (label_in t o));
          other_new_objects = λ x y apart. pair_alone t' t x y (other x y apart);
          as_many = length-map t.rules (revoked_rule n);
          subjects = place-part n (λ r. r.subject) (same_subject n) t.rules;
          objects = place-part n (λ r. r.object) (same_object n) t.rules;
          own_rules = λ k q. modes-at n t.rules k (eq-eqb _ _ (number (sym q ∙ e)));
          other_rules = λ k q. modes_stay n t.rules k (ne_eqb _ _ (λ z. q (e ∙ ap Some (sym z))));
          labels = refl;
          mappings = refl;
          onlycap = refl;
        }

  revokes_none : label_in t l ≡ None → Revokes t t l
  unfolding modes_between
  revokes_none e =
      record {
        own = λ o. unknown (label_in t o);
        others = λ x y apart. refl;
        other_answers = λ x y request capable apart. refl;
        own_new_objects = λ o. goes_by-modes t l o _ (unknown (label_in t o));
        other_new_objects = λ x y apart folder_transmutes is_folder. refl;
        as_many = refl;
        subjects = λ k. refl;
        objects = λ k. refl;
        own_rules = λ k q. absurd (nowhere (sym e ∙ q));
        other_rules = λ k q. refl;
        labels = refl;
        mappings = refl;
        onlycap = refl;
      }
    where
      unknown : (g : Option ℕ) → modes_found t.rules (rule_between t (label_in t l) g) ≡ cleared (modes_found t.rules (rule_between t (label_in t l) g))
      unknown g = rw e

-- AN ACCEPTED REVOKE
pub revoke-clears : (t t' : Table) (l : List ℕ) → revoke_write l t ≡ is_accepted t' → Revokes t t' l
unfolding revoke_write
revoke-clears t t' l e = by_tests (ltb 600 (length l)) (well_formed l) (label_in t l) refl e
  where
    by_tests :
        (a b : Bool) (f : Option ℕ) →
        label_in t l ≡ f →
        cond a (is_refused too_long) (cond b (is_accepted (without_modes t f)) (is_refused (bad_label_at (bad_byte l)))) ≡ is_accepted t' →
        Revokes t t' l
    by_tests true b f q e = let z : ◌≡◌ {A = ℕ} 0 1 = cc in absurd (omega arith)
    by_tests false true (Some n) q e = let z : without_modes t (Some n) ≡ t' = cc in subst (λ (x : Table). Revokes t x l) z (revokes-at t l n q)
    by_tests false true None q e = let z : t ≡ t' = cc in subst (λ (x : Table). Revokes t x l) z (revokes_none t l q)
    by_tests false false f q e = let z : ◌≡◌ {A = ℕ} 0 1 = cc in absurd (omega arith)

-- ---- how many rules it has

-- those that pass, counted, by a test that says the same of each
many_those : (p q c : Rule → Bool) (rules : List Rule) → all c rules ≡ true → ((r : Rule) → c r ≡ true → p r ≡ q r) → how_many p rules ≡ length (those q rules)
unfolding how_many all
many_those p q c [] e h = refl
many_those p q c (r ∷ rs) e h =
    let b = and_both (c r) (all c rs) e in
    rw (h r b.0, many_those p q c rs b.1 h) (by-test (q r))
  where
    by-test : (b : Bool) → cond b (suc (length (those q rs))) (length (those q rs)) ≡ length (cond b (r ∷ those q rs) (those q rs))
    by-test true = refl
    by-test false = refl

revoke-counts : (t : Table) (l : List ℕ) → LabelsOnce t → SoundTable t → revoke_count l t ≡ length (rules_of t l)
unfolding all
revoke-counts t l h whole = by-found (label_in t l) refl
  where
    at : (r : Rule) → sound_rule (length t.labels) r ≡ true → label_in t (label_numbered t r.subject) ≡ Some r.subject
    at r s = h.label_once r.subject (rule-known (length t.labels) r s).0

    sound : all (sound_rule (length t.labels)) t.rules ≡ true
    sound = (sound-parts t (length t.labels) whole).0

    same_at : (n : ℕ) → label_in t l ≡ Some n → (r : Rule) → sound_rule (length t.labels) r ≡ true → has_subject n r ≡ same_bytes (label_numbered t r.subject) l
    same_at n e r s = by-test (same_bytes (label_numbered t r.subject) l) refl
      where
        by-test : (b : Bool) → same_bytes (label_numbered t r.subject) l ≡ b → has_subject n r ≡ b
        by-test true q = eq-eqb _ _ (number (sym (at r s) ∙ ap (label_in t) (same-equal _ _ q) ∙ e))
        by-test false q = ne_eqb _ _ (λ z. no (sym q ∙ ap (λ (x : List ℕ). same_bytes x l) (one_label t.labels _ l n (at r s ∙ ap Some z) e) ∙ same_refl l))

    no-pass :
        (rs : List Rule) →
        all (sound_rule (length t.labels)) rs ≡ true →
        label_in t l ≡ None →
        0 ≡ length (those (λ (r : Rule). same_bytes (label_numbered t r.subject) l) rs)
    no-pass [] s e = refl
    no-pass (r ∷ rs) s e =
        let b = and_both (sound_rule (length t.labels) r) (all (sound_rule (length t.labels)) rs) s in
        let other = not_so (same_bytes (label_numbered t r.subject) l) (λ q. nowhere (sym e ∙ ap (label_in t) (sym (same-equal _ _ q)) ∙ at r b.0)) in
        rw other (no-pass rs b.1 e)

    by-found : (f : Option ℕ) → label_in t l ≡ f → subject_count t f ≡ length (rules_of t l)
    by-found (Some n) e =
        many_those (has_subject n) (λ (r : Rule). same_bytes (label_numbered t r.subject) l) (sound_rule (length t.labels)) t.rules sound (same_at n e)
    by-found None e = no-pass t.rules sound e

every : (rules : List Rule) → all (λ (r : Rule). true) rules ≡ true
unfolding all
every [] = refl
every (r ∷ rs) = every rs

-- the count that is answered is the table's
answered-count : (k count : ℕ) (j : Judged) → count_of k j ≡ Ok count → count ≡ k
answered-count k count is_skipped e = cc
answered-count k count (is_refused n) e = let z : ◌≡◌ {A = ℕ} 0 1 = cc in absurd (omega arith)
answered-count k count (is_accepted t) e = cc

-- THE ANSWER OF A REVOKE, by numbers and by bytes
pub answer-counts : (st : Store) (l : List ℕ) (count : ℕ) → revoke_answer st l ≡ Ok count → CountsRules (table_of st) l count
unfolding revoke_answer
answer-counts st l count e =
    let q = answered-count _ count (on_state st (revoke_write l)) e in
    record {
      known = λ n at.
          q
          ∙ ap (subject_count (table_of st)) at
          ∙ many_those (has_subject n) (has_subject n) (λ (r : Rule). true) (table_of st).rules (every (table_of st).rules) (λ r s. refl);
      unknown = λ at. q ∙ ap (subject_count (table_of st)) at;
    }

-- a state whose rules are counted is undamaged, and so its table is sound
counted-sound : (st : Store) (l : List ℕ) (count : ℕ) → revoke_answer st l ≡ Ok count → SoundTable (table_of st)
unfolding revoke_answer on_state
counted-sound st l count e = by-test (undamaged_of st) refl e
  where
    by-test : (t : Bool) → undamaged_of st ≡ t → count_of (revoke_count l (table_of st)) (cond t (revoke_write l (table_of st)) (is_refused damaged)) ≡ Ok count → SoundTable (table_of st)
    by-test true u q = undamaged-sound st u
    by-test false u q = let z : ◌≡◌ {A = ℕ} 0 1 = cc in absurd (omega arith)

pub answer-counts-once :
    (st : Store) (l : List ℕ) (count : ℕ) → LabelsOnce (table_of st) → revoke_answer st l ≡ Ok count → count ≡ length (rules_of (table_of st) l)
unfolding revoke_answer
answer-counts-once st l count h e = answered-count _ count (on_state st (revoke_write l)) e ∙ revoke-counts (table_of st) l h (counted-sound st l count e)

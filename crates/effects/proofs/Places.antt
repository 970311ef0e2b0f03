-- A line of rule text and a change let labels and rules keep their places; what is new goes last. Assumes nothing.
use mathlib.Core.Path.{◌≡◌, refl, sym, ap, ◌∙◌, subst}
use mathlib.Core.Bool.{Bool, true, false, cond, or-true}
use mathlib.Core.Logic.{◌≢◌}
use mathlib.Core.List.{List, [], ◌∷◌}
use Prim.Native.Nat.{ℕ, suc, ◌<◌}
use native.Mathlib.Numerals.{add-one}
use native.Mathlib.Omega.{arith}
use lib.Dec.{eqb, ltb}
use lib.ListN.{length, get_or}
use borrow.Author.Tests.{eqb-true, eqb-false}
use Rattle.search.specs.Search.{put, place_of}
use Rattle.search.specs.Within.{count_after}
use Rattle.search.specs.Bytes.{same_bytes}
use Rattle.std.proofs.Common.{Option, Some, None}
use Rattle.search.proofs.Laws.{no, and_both, same_refl, first-is, put-at, put_other, length-put, Front, front-more, front-first}
use Rattle.refusals.specs.Refusals.{labels_full, rules_full}
use Rattle.store.specs.declared.Rule.{Rule}
use Rattle.store.specs.Table.{Table, label_in, enter, number_in, is_pair, no_place}
use Rattle.store.specs.Pairs.{rule_between, modes_found, modes_between, modes_or_none}
use Rattle.store.specs.Judged.{is_refused, is_accepted}
use Rattle.store.proofs.Pairs.{enter-front}
use Rattle.rules.specs.Rules.{pair_labels, pair_rule, with_pair}
use Rattle.lines.specs.Lines.{rule, change}
use Rattle.writes.specs.Writes.{changed, judged}
use Rattle.grown.specs.Pairs.{has_rule}
use Rattle.effects.specs.Labels.{among}
use Rattle.effects.specs.Effects.{KeepsPlaces}
use Rattle.effects.proofs.Entering.{among-enter, entering, number_back}

abbrev none : Rule
none = record { subject = 0; object = 0; modes = 0 }

-- ---- a rule put in its pair's place, or last

module _ (rules : List Rule) (f : Option ℕ) (v : Rule) where
  -- a part that the new rule has in common with the one that it replaces
  part-kept :
      (part : Rule → ℕ) →
      ((p : ℕ) → f ≡ Some p → (p < length rules) × (part (get_or rules p none) ≡ part v)) →
      (k : ℕ) →
      k < length rules →
      part (get_or (put f rules v) k none) ≡ part (get_or rules k none)
  part-kept part same k h = by_place (eqb k (place_of f (length rules))) refl
    where
      inside : (g : Option ℕ) → f ≡ g → k ≡ place_of g (length rules) → (place_of g (length rules) < count_after g (length rules)) × (part (get_or rules k none) ≡ part v)
      inside (Some p) e z = ((same p e).0, ap (λ (j : ℕ). part (get_or rules j none)) z ∙ (same p e).1)
      inside None e z = absurd (omega arith)

      by_place : (b : Bool) → eqb k (place_of f (length rules)) ≡ b → part (get_or (put f rules v) k none) ≡ part (get_or rules k none)
      by_place true e =
          let z = eqb-true _ _ e in
          let q = inside f refl z in
          ap (λ (j : ℕ). part (get_or (put f rules v) j none)) z ∙ ap part (put-at none f rules v q.0) ∙ sym q.1
      by_place false e = ap part (put_other none f rules v k h (eqb-false _ _ e))

  -- every other place is as it was
  place_kept : (k : ℕ) → k < length rules → f ≢ Some k → get_or (put f rules v) k none ≡ get_or rules k none
  place_kept k h apart = put_other none f rules v k h (by_case f apart)
    where
      by_case : (g : Option ℕ) → g ≢ Some k → k ≡ place_of g (length rules) → ⊥
      by_case (Some p) q z = q (ap Some (sym z))
      by_case None q z = omega arith

  count_kept : has_rule (modes_found rules f) ≡ true → length (put f rules v) ≡ length rules
  count_kept h = length-put f rules v ∙ by_case f h
    where
      by_case : (g : Option ℕ) → has_rule (modes_found rules g) ≡ true → count_after g (length rules) ≡ length rules
      by_case (Some p) h = refl
      by_case None h = absurd (no h)

  count-more : has_rule (modes_found rules f) ≡ false → length (put f rules v) ≡ suc (length rules)
  count-more h = length-put f rules v ∙ by_case f h
    where
      by_case : (g : Option ℕ) → has_rule (modes_found rules g) ≡ false → count_after g (length rules) ≡ suc (length rules)
      by_case (Some p) h = absurd (no (sym h))
      by_case None h = add-one (length rules)

  last-is : has_rule (modes_found rules f) ≡ false → get_or (put f rules v) (length rules) none ≡ v
  last-is h = by_case f h
    where
      by_case : (g : Option ℕ) → has_rule (modes_found rules g) ≡ false → get_or (put g rules v) (length rules) none ≡ v
      by_case (Some p) h = absurd (no (sym h))
      by_case None h = put-at none None rules v (omega arith)

-- ---- the pair's labels

module _ (t : Table) (s o : List ℕ) where
  abbrev ls : List (List ℕ)
  ls = pair_labels t s o

  front : Front t.labels ls
  front = front-more (enter-front t.labels s) (enter-front (enter t.labels s) o)

  subject_there : among s ls ≡ true
  subject_there =
      among-enter s o (enter t.labels s) ∙ rw (among-enter s s t.labels, same_refl s, or-true (among s t.labels))

  object_there : among o ls ≡ true
  object_there = among-enter o o (enter t.labels s) ∙ rw (same_refl o) (or-true (among o (enter t.labels s)))

  -- the pair's rule is of these two numbers
  pair-at :
      (p : ℕ) →
      pair_rule t s o ≡ Some p →
      (p < length t.rules) × ((get_or t.rules p none).subject ≡ number_in ls s) × ((get_or t.rules p none).object ≡ number_in ls o)
  unfolding is_pair
  pair-at p e = by_both (label_in t s) (label_in t o) refl refl e
    where
      by_both :
          (f g : Option ℕ) →
          label_in t s ≡ f →
          label_in t o ≡ g →
          rule_between t f g ≡ Some p →
          (p < length t.rules) × ((get_or t.rules p none).subject ≡ number_in ls s) × ((get_or t.rules p none).object ≡ number_in ls o)
      by_both (Some i) (Some j) a b e =
          let h = first-is (is_pair i j) none t.rules p e in
          let q = and_both (eqb (get_or t.rules p none).subject i) (eqb (get_or t.rules p none).object j) h.1 in (
            h.0,
            eqb-true _ _ q.0 ∙ sym (ap (λ (f : Option ℕ). place_of f 0) (front-first (same_bytes s) i front a)),
            eqb-true _ _ q.1 ∙ sym (ap (λ (f : Option ℕ). place_of f 0) (front-first (same_bytes o) j front b)),
          )
      by_both (Some i) None a b e = let z : ◌≡◌ {A = ℕ} 0 1 = cc in absurd (omega arith)
      by_both None g a b e = let z : ◌≡◌ {A = ℕ} 0 1 = cc in absurd (omega arith)

  module _ (m : ℕ) where
    abbrev new : Rule
    new = record { subject = number_in ls s; object = number_in ls o; modes = m }

    kept : KeepsPlaces t (with_pair t s o m) s o
    unfolding modes_between with_pair
    kept =
        record {
          subjects = part-kept t.rules (pair_rule t s o) new (λ r. r.subject) (λ p e. let h = pair-at p e in (h.0, h.1));
          objects = part-kept t.rules (pair_rule t s o) new (λ r. r.object) (λ p e. let h = pair-at p e in (h.0, h.2));
          other_rules = place_kept t.rules (pair_rule t s o) new;
          as_many = count_kept t.rules (pair_rule t s o) new;
          one_more = count-more t.rules (pair_rule t s o) new;
          last_subject = λ h. ap (λ (r : Rule). get_or ls r.subject []) (last-is t.rules (pair_rule t s o) new h) ∙ number_back ls s subject_there;
          last_object = λ h. ap (λ (r : Rule). get_or ls r.object []) (last-is t.rules (pair_rule t s o) new h) ∙ number_back ls o object_there;
          labels = entering t (with_pair t s o m) (s ∷ o ∷ []) refl;
          mappings = refl;
          onlycap = refl;
        }

    -- AN ACCEPTED PAIR
    pub pair_keeps : (t' : Table) → judged t (rule s o m) ≡ is_accepted t' → KeepsPlaces t t' s o
    pair_keeps t' e = by_tests (ltb 64 (length ls)) (no_place (pair_rule t s o) (length t.rules) 256) e
      where
        by_tests : (a b : Bool) → cond a (is_refused labels_full) (cond b (is_refused rules_full) (is_accepted (with_pair t s o m))) ≡ is_accepted t' → KeepsPlaces t t' s o
        by_tests true b e = let z : ◌≡◌ {A = ℕ} 0 1 = cc in absurd (omega arith)
        by_tests false true e = let z : ◌≡◌ {A = ℕ} 0 1 = cc in absurd (omega arith)
        by_tests false false e = let z : with_pair t s o m ≡ t' = cc in subst (λ (x : Table). KeepsPlaces t x s o) z kept

pub rule_keeps : (t t' : Table) (s o : List ℕ) (m : ℕ) → judged t (rule s o m) ≡ is_accepted t' → KeepsPlaces t t' s o
rule_keeps t t' s o m e = pair_keeps t s o m t' e

pub change_keeps : (t t' : Table) (s o : List ℕ) (a d : ℕ) → judged t (change s o a d) ≡ is_accepted t' → KeepsPlaces t t' s o
change_keeps t t' s o a d e = pair_keeps t s o (changed (modes_or_none (modes_between t s o)) a d) t' e

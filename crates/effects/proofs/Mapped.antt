-- An accepted mapping is what its label's look-up finds from then on, and nobody else's look-up and no answer change. Assumes nothing.
use mathlib.Core.Path.{◌≡◌, refl, sym, ap, ◌∙◌, subst}
use mathlib.Core.Bool.{Bool, true, false, cond}
use mathlib.Core.Logic.{◌≢◌}
use mathlib.Core.List.{List, [], ◌∷◌}
use Prim.Native.Nat.{ℕ, suc, ◌<◌, ◌≤◌}
use native.Mathlib.Numerals.{add-one}
use native.Mathlib.Omega.{arith}
use lib.Dec.{eqb}
use lib.ListN.{length, get_or}
use borrow.Author.Tests.{eqb-true, eqb-false, eq-eqb, ne_eqb, ltb-true}
use Rattle.search.specs.Search.{first, put, place_of}
use Rattle.search.specs.Within.{count_after}
use Rattle.search.specs.Bytes.{same_bytes}
use Rattle.std.proofs.Common.{Option, Some, None, Result, Ok, Err}
use Rattle.search.proofs.Laws.{and_both, not_so, same-equal, all-at, first-is, first-place, first-none, Front, front-first, front_beyond}
use Rattle.search.proofs.Laws.{first-put, first-put-other, found-put-other, put-at, put_other, length-put}
use Rattle.refusals.specs.Refusals.{labels_full, mappings_full, bad_label_at}
use Rattle.alphabet.specs.Alphabet.{well_formed, bad_byte}
use Rattle.numbers.specs.Categories.{categories, no_categories}
use Rattle.numbers.specs.declared.CategorySet.{CategorySet}
use Rattle.store.specs.declared.Mapping.{Mapping}
use Rattle.store.specs.Table.{Table, label_in, enter, names, mapping_in, sound_mapping, no_place}
use Rattle.store.specs.Judged.{is_refused, is_accepted}
use Rattle.store.proofs.Pairs.{enter-front, enter-number, enter-other}
use Rattle.cipso.specs.Cipso.{mapping, mapping_of, number_for, mapping_for, with_mapping, said_judged, mapping_write}
use Rattle.cipso.proofs.Laws.{said-known}
use Rattle.refusals.specs.declared.Refusal.{Refusal}
use Rattle.lookups.specs.declared.Cipso.{Cipso}
use Rattle.lookups.specs.Lookups.{mapped, mapped_as, looked_up, lookup_by, label_lookup}
use Rattle.store.specs.Pairs.{modes_between}
use Rattle.new_object.proofs.WhichLabel.{pair_alone}
use Rattle.grown.specs.Pairs.{SoundTable}
use Rattle.grown.proofs.Sane.{one_label, sound-parts}
use Rattle.grown.proofs.Pairs.{answer-same, modes-kept, override-kept}
use Rattle.effects.specs.Effects.{HasMapping, Maps}
use Rattle.effects.proofs.Entering.{entering}

abbrev none : Mapping
none = record { label = 0; level = 0; set = no_categories }

-- ---- mappings of a number, and of the others

module _ (ms : List Mapping) (n level : ℕ) (s : CategorySet) where
  abbrev new : Mapping
  new = record { label = n; level = level; set = s }

  abbrev after : List Mapping
  after = put (first (names n) ms) ms new

  new_named : names n new ≡ true
  unfolding names
  new_named = eq-eqb n n refl

  apart_named : (i : ℕ) → i ≢ n → (m : Mapping) → names n m ≡ true → names i m ≡ false
  unfolding names
  apart_named i apart m e = ne_eqb m.label i (λ q. apart (sym q ∙ eqb-true m.label n e))

  own-found : looked_up after (first (names n) after) ≡ mapped level s (length (categories s))
  own-found =
      ap (looked_up after) (first-put (names n) ms new new_named)
      ∙ ap mapped_as (put-at none (first (names n) ms) ms new (first-place (names n) none ms))

  other-found : (i : ℕ) → i ≢ n → looked_up after (first (names i) after) ≡ looked_up ms (first (names i) ms)
  other-found i apart =
      ap (looked_up after) (first-put-other (names i) (names n) ms new (apart_named i apart new new_named) (apart_named i apart))
      ∙ by_case (first (names i) ms) (found-put-other (names i) (names n) none ms new (apart_named i apart))
    where
      by_case : (f : Option ℕ) → ((k : ℕ) → f ≡ Some k → get_or after k none ≡ get_or ms k none) → looked_up after f ≡ looked_up ms f
      by_case (Some k) h = ap mapped_as (h k refl)
      by_case None h = refl

  -- each names the label that it named
  names-kept : (k : ℕ) → k < length ms → (get_or after k none).label ≡ (get_or ms k none).label
  unfolding names
  names-kept k h = by_place (eqb k (place_of (first (names n) ms) (length ms))) refl
    where
      place : (f : Option ℕ) → ((i : ℕ) → f ≡ Some i → (i < length ms) × (names n (get_or ms i none) ≡ true)) → k ≡ place_of f (length ms) → (get_or ms k none).label ≡ n
      place (Some i) q z = eqb-true _ _ (ap (λ (j : ℕ). names n (get_or ms j none)) z ∙ (q i refl).1)
      place None q z = absurd (omega arith)

      by_place : (b : Bool) → eqb k (place_of (first (names n) ms) (length ms)) ≡ b → (get_or after k none).label ≡ (get_or ms k none).label
      by_place true e =
          let z = eqb-true _ _ e in
          ap (λ (j : ℕ). (get_or after j none).label) z
          ∙ ap (λ (m : Mapping). m.label) (put-at none (first (names n) ms) ms new (first-place (names n) none ms))
          ∙ sym (place (first (names n) ms) (first-is (names n) none ms) z)
      by_place false e = ap (λ (m : Mapping). m.label) (put_other none (first (names n) ms) ms new k h (eqb-false _ _ e))

-- every mapping of a sound table names one of its labels, so none a number beyond
mapping-below : (t : Table) → SoundTable t → (k : ℕ) → k < length t.mappings → (get_or t.mappings k none).label < length t.labels
unfolding sound_mapping
mapping-below t sound k h =
    let a = all-at (sound_mapping (length t.labels)) none t.mappings (sound-parts t (length t.labels) sound).1 k h in
    ltb-true _ _ (and_both _ _ a).0

unmapped_beyond : (t : Table) → SoundTable t → (i : ℕ) → length t.labels ≤ i → mapping_in t i ≡ None
unfolding names
unmapped_beyond t sound i b =
    first-none (names i) none t.mappings (λ k h. ne_eqb _ _ (λ (q : (get_or t.mappings k none).label ≡ i). omega (arith, mapping-below t sound k h)))

-- ---- labels that enter change no look-up

pub lookups_kept :
    (t t' : Table) → SoundTable t → Front t.labels t'.labels → t'.mappings ≡ t.mappings → (x : List ℕ) → label_lookup t' x ≡ label_lookup t x
unfolding label_lookup
lookups_kept t t' sound front same x =
    ap (λ (r : Result (Option Cipso) Refusal). cond (well_formed x) r (Err (bad_label_at (bad_byte x))))
    (by-found (label_in t x) (label_in t' x) (λ i e. front-first (same_bytes x) i front e) (λ i e q. front_beyond (same_bytes x) i front e q))
  where
    by-found :
        (f g : Option ℕ) → ((i : ℕ) → f ≡ Some i → g ≡ Some i) → ((i : ℕ) → f ≡ None → g ≡ Some i → length t.labels ≤ i) → lookup_by t' g ≡ lookup_by t f
    by-found (Some i) g h k = ap (lookup_by t') (h i refl) ∙ ap (λ (ms : List Mapping). looked_up ms (first (names i) ms)) same
    by-found None (Some i) h k =
        ap (λ (ms : List Mapping). looked_up ms (first (names i) ms)) same ∙ ap (looked_up t.mappings) (unmapped_beyond t sound i (k i refl refl))
    by-found None None h k = refl

module _ (t : Table) (sound : SoundTable t) (l : List ℕ) (level : ℕ) (s : CategorySet) (formed : well_formed l ≡ true) where
  abbrev t' : Table
  t' =
      record {
        labels = enter t.labels l;
        rules = t.rules;
        mappings = put (mapping_for t l) t.mappings (record { label = number_for t l; level = level; set = s });
        onlycap = t.onlycap;
      }

  other-number : (x : List ℕ) → x ≢ l → (i : ℕ) → label_in t x ≡ Some i → i ≢ number_for t l
  other-number x apart i e = by-found (label_in t l) refl
    where
      by-found : (f : Option ℕ) → label_in t l ≡ f → i ≢ place_of f (length t.labels)
      by-found (Some m) q z = apart (one_label t.labels x l m (e ∙ ap Some z) q)
      by-found None q z = omega (arith, (first-is (same_bytes x) [] t.labels i e).0)

  others-kept : (x : List ℕ) → x ≢ l → lookup_by t' (label_in t' x) ≡ lookup_by t (label_in t x)
  others-kept x apart =
      ap (lookup_by t') (enter-other t.labels l x (not_so (same_bytes x l) (λ e. apart (same-equal x l e))))
      ∙ by-found (label_in t x) (other-number x apart)
    where
      by-found : (f : Option ℕ) → ((i : ℕ) → f ≡ Some i → i ≢ number_for t l) → lookup_by t' f ≡ lookup_by t f
      by-found (Some i) h = other-found t.mappings (number_for t l) level s i (h i refl)
      by-found None h = refl

  -- the label's mapping, by the number that it has or gets
  looked_up_lem : label_lookup t l ≡ looked_up t.mappings (mapping_for t l)
  unfolding label_lookup
  looked_up_lem = rw formed (by-found (label_in t l))
    where
      by-found : (f : Option ℕ) → lookup_by t f ≡ looked_up t.mappings (mapping_in t (place_of f (length t.labels)))
      by-found (Some i) = refl
      by-found None = sym (ap (looked_up t.mappings) (unmapped_beyond t sound (length t.labels) (omega arith)))

  -- the place that is written is that of the label's mapping
  place-own : (k : ℕ) → k < length t.mappings → k ≡ place_of (mapping_for t l) (length t.mappings) → HasMapping t l k
  place-own k h z = by-found (label_in t l) refl z
    where
      by_place : (n : ℕ) → label_in t l ≡ Some n → (g : Option ℕ) → mapping_in t n ≡ g → k ≡ place_of g (length t.mappings) → HasMapping t l k
      by_place n e (Some i) q z = (n, e, q ∙ ap Some (sym z))
      by_place n e None q z = absurd (omega arith)

      by-found : (f : Option ℕ) → label_in t l ≡ f → k ≡ place_of (mapping_in t (place_of f (length t.labels))) (length t.mappings) → HasMapping t l k
      by-found (Some n) e z = by_place n e (mapping_in t n) refl z
      by-found None e z =
          let q = ap (λ (g : Option ℕ). place_of g (length t.mappings)) (unmapped_beyond t sound (length t.labels) (omega arith)) in
          absurd (omega (arith, z ∙ q))

  maps : Maps t t' l level s
  unfolding label_lookup
  maps =
      let kept : (x y : List ℕ) → modes_between t' x y ≡ modes_between t x y = λ x y. modes-kept t t' sound (enter-front t.labels l) x y (λ i j a b. refl) in
      record {
        found = rw (formed, enter-number t.labels l) (own-found t.mappings (number_for t l) level s);
        others = λ x apart. ap (λ (r : Result (Option Cipso) Refusal). cond (well_formed x) r (Err (bad_label_at (bad_byte x)))) (others-kept x apart);
        places = names-kept t.mappings (number_for t l) level s;
        other_mappings = λ k h apart. put_other none (mapping_for t l) t.mappings _ k h (λ z. apart (place-own k h z));
        replaced = λ h. length-put (mapping_for t l) t.mappings _ ∙ counted (mapping_for t l) (λ e. h (looked_up_lem ∙ ap (looked_up t.mappings) e));
        last = λ h. length-put (mapping_for t l) t.mappings _ ∙ more (mapping_for t l) (sym looked_up_lem ∙ h);
        labels = entering t t' (l ∷ []) refl;
        rules = refl;
        onlycap = refl;
        answers = λ x y.
            answer-same t t' x y
            (kept x y)
            (override-kept t t' sound (enter-front t.labels l) refl x);
        new_objects = λ x y. pair_alone t' t x y (kept x y);
      }
    where
      counted : (f : Option ℕ) → (f ≢ None) → count_after f (length t.mappings) ≡ length t.mappings
      counted (Some i) h = refl
      counted None h = absurd (h refl)

      more : (f : Option ℕ) → looked_up t.mappings f ≡ Ok None → count_after f (length t.mappings) ≡ suc (length t.mappings)
      more (Some i) h = let z : ◌≡◌ {A = ℕ} 0 1 = cc in absurd (omega arith)
      more None h = add-one (length t.mappings)

-- AN ACCEPTED MAPPING
pub mapping-maps :
    (t t' : Table) (text l : List ℕ) (level : ℕ) (s : CategorySet) →
    SoundTable t →
    mapping_of text ≡ mapping l level s →
    mapping_write text t ≡ is_accepted t' →
    Maps t t' l level s
unfolding mapping_write with_mapping
mapping-maps t t' text l level s sound m e =
    by_tests (no_place (label_in t l) (length t.labels) 64) (no_place (mapping_for t l) (length t.mappings) 32) (ap (said_judged t) (sym m) ∙ e)
  where
    by_tests : (a b : Bool) → cond a (is_refused labels_full) (cond b (is_refused mappings_full) (is_accepted (with_mapping t l level s))) ≡ is_accepted t' → Maps t t' l level s
    by_tests true b e = let z : ◌≡◌ {A = ℕ} 0 1 = cc in absurd (omega arith)
    by_tests false true e = let z : ◌≡◌ {A = ℕ} 0 1 = cc in absurd (omega arith)
    by_tests false false e =
        let z : with_mapping t l level s ≡ t' = cc in
        subst (λ (x : Table). Maps t x l level s) z (maps t sound l level s (said-known text l level s m).2)

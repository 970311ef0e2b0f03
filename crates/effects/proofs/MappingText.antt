-- A mapping write says a mapping exactly where its fields are a label, a level and categories. Assumes nothing.
use mathlib.Core.Path.{◌≡◌, refl, sym, ap, ◌∙◌, subst}
use mathlib.Core.Bool.{Bool, true, false, cond, ◌||◌}
use mathlib.Core.Logic.{◌↔◌, ◌⊎◌, inl, inr, ⊎_elim}
use mathlib.Core.List.{List, [], ◌∷◌, foldl}
use Prim.Native.Nat.{ℕ, zero, suc, ◌<◌, ◌≤◌, suc-le-suc}
use native.Mathlib.Nat.{le_of_suc-le-suc}
use native.Mathlib.Omega.{arith}
use lib.Dec.{eqb, ltb}
use lib.ListN.{length, get_or}
use borrow.Author.Tests.{le-ltb, ltb-false}
use Rattle.search.proofs.Laws.{no, or_is, eqb_is}
use Rattle.refusals.specs.Refusals.{too_long, bad_level_or_category, bad_label_at}
use Rattle.alphabet.specs.Alphabet.{well_formed, fields, bad_byte_in}
use Rattle.numbers.specs.Numbers.{number_of}
use Rattle.numbers.specs.Categories.{is_mapping_level, is_category, has_category, no_categories, with_category, known_set, InWords}
use Rattle.numbers.specs.declared.CategorySet.{CategorySet}
use Rattle.std.proofs.Common.{Option, Some, None}
use Rattle.numbers.proofs.Sets.{none-words, category_sets}
use Rattle.cipso.specs.Cipso.{refused, mapping, with_number, with_field, categories_of, with_set, with_level, said_by, said_fields, mapping_of}
use Rattle.effects.specs.MappingText.{OneIs, MappingText}

-- ---- the set that fields make of another

record Made (s₀ : CategorySet) (fs : List (List ℕ)) (s : CategorySet) : Type 0 where
  categories : (j : ℕ) → j < length fs → (k : ℕ) × (number_of (get_or fs j []) ≡ Some k) × (is_category k ≡ true)
  has : (k : ℕ) → is_category k ≡ true → (has_category s k ≡ true) ↔ ((has_category s₀ k ≡ true) ⊎ OneIs fs k)
  known : known_set s ≡ known_set s₀
  words : InWords s

made_none : (s : CategorySet) → InWords s → Made s [] s
made_none s w =
    record {
      categories = λ j h. absurd (omega arith);
      has = λ k c. (inl, ⊎_elim (λ x. x) (λ (w : OneIs [] k). absurd (omega (arith, w.1))));
      known = refl;
      words = w;
    }

same-value : {n k : ℕ} {v : Option ℕ} → v ≡ Some n → v ≡ Some k → n ≡ k
same-value a b = cc

module _ (f : List ℕ) (fs : List (List ℕ)) (n : ℕ) (s₀ s : CategorySet) (w₀ : InWords s₀) (q : number_of f ≡ Some n) (c : is_category n ≡ true) where
  module _ (m : Made (with_category s₀ n) fs s) where
    more-has : (k : ℕ) → is_category k ≡ true → (has_category s k ≡ true) ↔ ((has_category s₀ k ≡ true) ⊎ OneIs (f ∷ fs) k)
    more-has k d = (
      λ e. ⊎_elim (λ z. with-to (one.0 (sym (category_sets.one_more s₀ n k w₀ c d) ∙ z))) (λ w. inr (suc w.0, suc-le-suc w.1, w.2)) ((m.has k d).0 e),
      ⊎_elim (λ z. (m.has k d).1 (inl (category_sets.one_more s₀ n k w₀ c d ∙ one.1 (inl z)))) (λ w. back w.0 w.1 w.2),
    )
      where
        one : ((has_category s₀ k || eqb k n) ≡ true) ↔ ((has_category s₀ k ≡ true) ⊎ (k ≡ n))
        one = or_is (has_category s₀ k) (eqb k n) (λ x. x, λ x. x) (eqb_is k n)

        with-to : (has_category s₀ k ≡ true) ⊎ (k ≡ n) → (has_category s₀ k ≡ true) ⊎ OneIs (f ∷ fs) k
        with-to (inl z) = inl z
        with-to (inr z) = inr (zero, omega arith, q ∙ ap Some (sym z))

        back : (j : ℕ) → j < suc (length fs) → number_of (get_or (f ∷ fs) j []) ≡ Some k → has_category s k ≡ true
        back zero h z = (m.has k d).1 (inl (category_sets.one_more s₀ n k w₀ c d ∙ one.1 (inr (same-value z q))))
        back (suc j) h z = (m.has k d).1 (inr (j, le_of_suc-le-suc h, z))

    more-categories : (j : ℕ) → j < suc (length fs) → (k : ℕ) × (number_of (get_or (f ∷ fs) j []) ≡ Some k) × (is_category k ≡ true)
    more-categories zero h = (n, q, c)
    more-categories (suc j) h = m.categories j (le_of_suc-le-suc h)

    made_more : Made s₀ (f ∷ fs) s
    made_more =
        record {
          categories = more-categories;
          has = more-has;
          known = m.known ∙ category_sets.still_known s₀ n c;
          words = m.words;
        }

bad_stays : (fs : List (List ℕ)) → foldl with_field None fs ≡ None
bad_stays [] = refl
bad_stays (f ∷ fs) = bad_stays fs

not_bad : (fs : List (List ℕ)) (s : CategorySet) → foldl with_field None fs ≡ Some s → ⊥
not_bad fs s e = let q = bad_stays fs in let z : ◌≡◌ {A = ℕ} 0 1 = cc in omega arith

made : (fs : List (List ℕ)) (s₀ s : CategorySet) → InWords s₀ → foldl with_field (Some s₀) fs ≡ Some s → Made s₀ fs s
made [] s₀ s w e = let z : s₀ ≡ s = cc in subst (Made s₀ []) z (made_none s₀ w)
made (f ∷ fs) s₀ s w e = by_number (number_of f) refl (made fs) e
  where
    by-test :
        (n : ℕ) →
        number_of f ≡ Some n →
        (b : Bool) →
        is_category n ≡ b →
        ((s₀ s : CategorySet) → InWords s₀ → foldl with_field (Some s₀) fs ≡ Some s → Made s₀ fs s) →
        foldl with_field (cond b (Some (with_category s₀ n)) None) fs ≡ Some s →
        Made s₀ (f ∷ fs) s
    by-test n q true c ih e = made_more f fs n s₀ s w q c (ih (with_category s₀ n) s (category_sets.still_words s₀ n w c) e)
    by-test n q false c ih e = absurd (not_bad fs s e)

    by_number :
        (v : Option ℕ) →
        number_of f ≡ v →
        ((s₀ s : CategorySet) → InWords s₀ → foldl with_field (Some s₀) fs ≡ Some s → Made s₀ fs s) →
        foldl with_field (with_number s₀ v) fs ≡ Some s →
        Made s₀ (f ∷ fs) s
    by_number (Some n) q ih e = by-test n q (is_category n) refl ih e
    by_number None q ih e = absurd (not_bad fs s e)

-- fields that are all categories make a set
makes :
    (fs : List (List ℕ)) (s₀ : CategorySet) →
    ((j : ℕ) → j < length fs → (k : ℕ) × (number_of (get_or fs j []) ≡ Some k) × (is_category k ≡ true)) →
    (s : CategorySet) × (foldl with_field (Some s₀) fs ≡ Some s)
makes [] s₀ h = (s₀, refl)
makes (f ∷ fs) s₀ h =
    let r = h zero (omega arith) in
    let ih = makes fs (with_category s₀ r.0) (λ j i. h (suc j) (suc-le-suc i)) in (
      ih.0,
      ap (λ (v : Option ℕ). foldl with_field (with_number s₀ v) fs) r.1
          ∙ ap (λ (b : Bool). foldl with_field (cond b (Some (with_category s₀ r.0)) None) fs) r.2
          ∙ ih.1,
    )

-- ---- a write that says a mapping

-- from the set of no category: it has the written ones
begun : (fs : List (List ℕ)) (s : CategorySet) → Made no_categories fs s → (k : ℕ) → is_category k ≡ true → (has_category s k ≡ true) ↔ OneIs fs k
begun fs s m k c = (
  λ e. ⊎_elim (λ z. absurd (no (sym (category_sets.none k c) ∙ z))) (λ w. w) ((m.has k c).0 e),
  λ w. (m.has k c).1 (inr w),
)

text_says_lem : (text l : List ℕ) (level : ℕ) (s : CategorySet) → mapping_of text ≡ mapping l level s → MappingText text l level s
unfolding mapping_of said_by categories_of
text_says_lem text l level s e = by_length (ltb 1000 (length text)) refl e
  where
    by-set :
        (x f : List ℕ) (cs : List (List ℕ)) (n : ℕ) →
        length text ≤ 1000 →
        fields text ≡ x ∷ f ∷ cs →
        well_formed x ≡ true →
        number_of f ≡ Some n →
        is_mapping_level n ≡ true →
        (c : Option CategorySet) →
        foldl with_field (Some no_categories) cs ≡ c →
        with_set x n c ≡ mapping l level s →
        MappingText text l level s
    by-set x f cs n short parts formed number mapping_level None q e = let z : ◌≡◌ {A = ℕ} 0 1 = cc in absurd (omega arith)
    by-set x f cs n short parts formed number mapping_level (Some v) q e =
        let i : x ≡ l = cc in
        let j : n ≡ level = cc in
        let k : v ≡ s = cc in
        let m = made cs no_categories v none-words q in
        rw (← i, ← j, ← k)
        (record {
          short = short;
          level_field = f;
          category_fields = cs;
          parts = parts;
          label = formed;
          number = number;
          mapping_level = mapping_level;
          categories = m.categories;
          has = begun cs v m;
          known = m.known;
          words = m.words;
        })

    by_level :
        (x f : List ℕ) (cs : List (List ℕ)) (n : ℕ) →
        length text ≤ 1000 →
        fields text ≡ x ∷ f ∷ cs →
        well_formed x ≡ true →
        number_of f ≡ Some n →
        (b : Bool) →
        is_mapping_level n ≡ b →
        cond b (with_set x n (foldl with_field (Some no_categories) cs)) (refused bad_level_or_category) ≡ mapping l level s →
        MappingText text l level s
    by_level x f cs n short parts formed q true mapping_level e = by-set x f cs n short parts formed q mapping_level (foldl with_field (Some no_categories) cs) refl e
    by_level x f cs n short parts formed q false mapping_level e = let z : ◌≡◌ {A = ℕ} 0 1 = cc in absurd (omega arith)

    by_number :
        (x f : List ℕ) (cs : List (List ℕ)) →
        length text ≤ 1000 →
        fields text ≡ x ∷ f ∷ cs →
        well_formed x ≡ true →
        (v : Option ℕ) →
        number_of f ≡ v →
        with_level x v (foldl with_field (Some no_categories) cs) ≡ mapping l level s →
        MappingText text l level s
    by_number x f cs short parts formed (Some n) q e = by_level x f cs n short parts formed q (is_mapping_level n) refl e
    by_number x f cs short parts formed None q e = let z : ◌≡◌ {A = ℕ} 0 1 = cc in absurd (omega arith)

    by-formed :
        (x f : List ℕ) (cs : List (List ℕ)) →
        length text ≤ 1000 →
        fields text ≡ x ∷ f ∷ cs →
        (b : Bool) →
        well_formed x ≡ b →
        cond b (with_level x (number_of f) (foldl with_field (Some no_categories) cs)) (refused (bad_label_at (bad_byte_in text))) ≡ mapping l level s →
        MappingText text l level s
    by-formed x f cs short parts true formed e = by_number x f cs short parts formed (number_of f) refl e
    by-formed x f cs short parts false formed e = let z : ◌≡◌ {A = ℕ} 0 1 = cc in absurd (omega arith)

    by-fields : (fs : List (List ℕ)) → fields text ≡ fs → length text ≤ 1000 → said_fields (bad_byte_in text) fs ≡ mapping l level s → MappingText text l level s
    by-fields [] parts short e = let z : ◌≡◌ {A = ℕ} 0 1 = cc in absurd (omega arith)
    by-fields (x ∷ []) parts short e = let z : ◌≡◌ {A = ℕ} 0 1 = cc in absurd (omega arith)
    by-fields (x ∷ f ∷ cs) parts short e = by-formed x f cs short parts (well_formed x) refl e

    by_length : (b : Bool) → ltb 1000 (length text) ≡ b → cond b (refused too_long) (said_fields (bad_byte_in text) (fields text)) ≡ mapping l level s → MappingText text l level s
    by_length true q e = let z : ◌≡◌ {A = ℕ} 0 1 = cc in absurd (omega arith)
    by_length false q e = by-fields (fields text) refl (ltb-false _ _ q) e

-- two sets that have the same written categories are one
same_test : (a b : Bool) {A : Type 0} → (a ≡ true) ↔ A → (b ≡ true) ↔ A → a ≡ b
same_test true b x y = sym (y.1 (x.0 refl))
same_test false true x y = x.1 (y.0 refl)
same_test false false x y = refl

says-text : (text l : List ℕ) (level : ℕ) (s : CategorySet) → MappingText text l level s → mapping_of text ≡ mapping l level s
unfolding mapping_of said_by categories_of
says-text text l level s w =
    let r = makes w.category_fields no_categories w.categories in
    let m = made w.category_fields no_categories r.0 none-words r.1 in
    let z : r.0 ≡ s =
    (category_sets.equal r.0 s).0
    (category_sets.same r.0 s m.words w.words m.known w.known
    (λ k c. same_test (has_category r.0 k) (has_category s k) (begun w.category_fields r.0 m k c) (w.has k c))) in
    rw (le-ltb 1000 (length text) w.short, w.parts, w.label, w.number, w.mapping_level, r.1, z)

-- WHAT A MAPPING WRITE SAYS
pub mapping-says : (text l : List ℕ) (level : ℕ) (s : CategorySet) → (mapping_of text ≡ mapping l level s) ↔ MappingText text l level s
mapping-says text l level s = (text_says_lem text l level s, says-text text l level s)

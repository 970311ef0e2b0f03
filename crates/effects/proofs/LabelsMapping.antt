-- The look-up by label finds the first mapping of the label's first number, or that there is none. Assumes nothing.
use mathlib.Core.Path.{◌≡◌, refl, sym, ap, ◌∙◌}
use mathlib.Core.Bool.{Bool, true, false, cond}
use mathlib.Core.List.{List}
use Prim.Native.Nat.{ℕ}
use native.Mathlib.Omega.{arith}
use lib.ListN.{length}
use Rattle.std.proofs.Common.{Option, Some, None, Result, Ok, Err}
use Rattle.refusals.specs.Refusals.{bad_label_at}
use Rattle.refusals.specs.declared.Refusal.{Refusal}
use Rattle.alphabet.specs.Alphabet.{well_formed, bad_byte}
use Rattle.numbers.specs.Categories.{categories}
use Rattle.numbers.specs.declared.CategorySet.{CategorySet}
use Rattle.store.specs.Table.{Table, label_in, mapping_in, mapping_numbered}
use Rattle.lookups.specs.declared.Cipso.{Cipso}
use Rattle.lookups.specs.Lookups.{mapped, mapped_as, looked_up, lookup_by, label_lookup}
use Rattle.effects.specs.Effects.{HasMapping}
use Rattle.effects.specs.OverrideAndLookUp.{LabelsMapping}

-- two look-ups that find the same have the same level, set and count
pub same_mapped : {a b : Cipso} → ◌≡◌ {A = Result (Option Cipso) Refusal} (Ok (Some a)) (Ok (Some b)) → a ≡ b
same_mapped e = cc

module _ (t : Table) (l : List ℕ) where
  -- by what is found: the label's mapping, or none
  has-mapping : (k : ℕ) → HasMapping t l k → lookup_by t (label_in t l) ≡ mapped_as (mapping_numbered t k)
  has-mapping k h = ap (lookup_by t) h.1 ∙ ap (looked_up t.mappings) h.2

  found-mapped :
      (level : ℕ) (s : CategorySet) (count : ℕ) →
      lookup_by t (label_in t l) ≡ mapped level s count →
      (k : ℕ) × HasMapping t l k × ((mapping_numbered t k).level ≡ level) × ((mapping_numbered t k).set ≡ s) × (count ≡ length (categories s))
  found-mapped level s count e = by_label (label_in t l) refl e
    where
      by-mapping :
          (n : ℕ) →
          label_in t l ≡ Some n →
          (g : Option ℕ) →
          mapping_in t n ≡ g →
          looked_up t.mappings g ≡ mapped level s count →
          (k : ℕ) × HasMapping t l k × ((mapping_numbered t k).level ≡ level) × ((mapping_numbered t k).set ≡ s) × (count ≡ length (categories s))
      by-mapping n a (Some k) b e =
          let q = same_mapped e in
          let y : (mapping_numbered t k).set ≡ s = ap (λ (m : Cipso). m.set) q in
          (k, (n, a, b), ap (λ (m : Cipso). m.level) q, y, ap (λ (m : Cipso). m.count) (sym q) ∙ ap (λ (v : CategorySet). length (categories v)) y)
      by-mapping n a None b e = let z : ◌≡◌ {A = ℕ} 0 1 = cc in absurd (omega arith)

      by_label :
          (f : Option ℕ) →
          label_in t l ≡ f →
          lookup_by t f ≡ mapped level s count →
          (k : ℕ) × HasMapping t l k × ((mapping_numbered t k).level ≡ level) × ((mapping_numbered t k).set ≡ s) × (count ≡ length (categories s))
      by_label (Some n) a e = by-mapping n a (mapping_in t n) refl e
      by_label None a e = let z : ◌≡◌ {A = ℕ} 0 1 = cc in absurd (omega arith)

  found-unmapped : lookup_by t (label_in t l) ≡ Ok None → (k : ℕ) → HasMapping t l k → ⊥
  found-unmapped e k h = let q = has-mapping k h in let z : ◌≡◌ {A = ℕ} 0 1 = cc in omega arith

  unmapped-found : ((k : ℕ) → HasMapping t l k → ⊥) → lookup_by t (label_in t l) ≡ Ok None
  unmapped-found none = by_label (label_in t l) refl
    where
      by-mapping : (n : ℕ) → label_in t l ≡ Some n → (g : Option ℕ) → mapping_in t n ≡ g → looked_up t.mappings g ≡ Ok None
      by-mapping n a (Some k) b = absurd (none k (n, a, b))
      by-mapping n a None b = refl

      by_label : (f : Option ℕ) → label_in t l ≡ f → lookup_by t f ≡ Ok None
      by_label (Some n) a = by-mapping n a (mapping_in t n) refl
      by_label None a = refl

  -- a look-up that is not refused is of a well formed label
  formed-mapped : (level : ℕ) (s : CategorySet) (count : ℕ) → label_lookup t l ≡ mapped level s count → (well_formed l ≡ true) × (lookup_by t (label_in t l) ≡ mapped level s count)
  unfolding label_lookup
  formed-mapped level s count e = by-test (well_formed l) refl e
    where
      by-test :
          (b : Bool) →
          well_formed l ≡ b →
          cond b (lookup_by t (label_in t l)) (Err (bad_label_at (bad_byte l))) ≡ mapped level s count →
          (well_formed l ≡ true) × (lookup_by t (label_in t l) ≡ mapped level s count)
      by-test true q e = (q, e)
      by-test false q e = let z : ◌≡◌ {A = ℕ} 0 1 = cc in absurd (omega arith)

  formed-unmapped : label_lookup t l ≡ Ok None → (well_formed l ≡ true) × (lookup_by t (label_in t l) ≡ Ok None)
  unfolding label_lookup
  formed-unmapped e = by-test (well_formed l) refl e
    where
      by-test :
          (b : Bool) →
          well_formed l ≡ b →
          cond b (lookup_by t (label_in t l)) (Err (bad_label_at (bad_byte l))) ≡ Ok None →
          (well_formed l ≡ true) × (lookup_by t (label_in t l) ≡ Ok None)
      by-test true q e = (q, e)
      by-test false q e = let z : ◌≡◌ {A = ℕ} 0 1 = cc in absurd (omega arith)

  -- THE LOOK-UP BY LABEL
  pub looked_up_lem : LabelsMapping t l
  unfolding label_lookup
  looked_up_lem =
      record {
        mapped = λ level s count. (
          λ e.
              let q = formed-mapped level s count e in
              let h = found-mapped level s count q.1 in
              (q.0, h.0, h.1, h.2, h.3, h.4),
          λ h.
              let q = has-mapping h.1 h.2 in
              let m = mapping_numbered t h.1 in
              let x : m.level ≡ level = h.3 in
              let y : m.set ≡ s = h.4 in
              let z : count ≡ length (categories s) = h.5 in
              rw h.0 (q ∙ rw (x, y, ← z)),
        );
        unmapped = (
          λ e. let q = formed-unmapped e in (q.0, found-unmapped q.1),
          λ h. rw h.0 (unmapped-found h.1),
        );
      }

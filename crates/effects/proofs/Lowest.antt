-- The look-up by level and set finds the lowest-numbered label whose own look-up gives both. Assumes nothing.
use mathlib.Core.Path.{◌≡◌, refl, sym, ap, ◌∙◌}
use mathlib.Core.Bool.{Bool, true, false, ◌&&◌}
use mathlib.Core.Logic.{◌↔◌}
use mathlib.Core.List.{List, []}
use Prim.Native.Nat.{ℕ, ◌<◌}
use native.Mathlib.Omega.{arith}
use lib.Dec.{eqb}
use lib.ListN.{length, get_or}
use borrow.Author.Tests.{eqb-true, eq-eqb}
use Rattle.search.specs.Search.{first, entries}
use Rattle.std.proofs.Common.{Option, Some, None, Result, Ok}
use Rattle.search.proofs.Laws.{no, and_both, not_so, all-at, first-is, first-before, entries-length, entries_at, found-at, found_none}
use Rattle.alphabet.specs.Alphabet.{well_formed}
use Rattle.numbers.specs.Categories.{categories, no_categories, same_set}
use Rattle.numbers.proofs.Sets.{category_sets}
use Rattle.numbers.specs.declared.CategorySet.{CategorySet}
use Rattle.refusals.specs.declared.Refusal.{Refusal}
use Rattle.store.specs.declared.Mapping.{Mapping}
use Rattle.store.specs.Table.{Table, label_numbered, mapping_in}
use Rattle.lookups.specs.declared.Cipso.{Cipso}
use Rattle.lookups.specs.Lookups.{sought, mapped, mapped_as, looked_up, label_lookup, both_equal, mapped_to, found_at, has_both, level_lookup}
use Rattle.access.specs.Access.{is_found}
use Rattle.grown.specs.Sane.{LabelsOnce}
use Rattle.effects.specs.OverrideAndLookUp.{HasBoth, LowestLabel}
use Rattle.effects.proofs.Entering.{found_some}
use Rattle.effects.proofs.LabelsMapping.{same_mapped}

-- a mapping has both exactly where its look-up says so
mapping-has : (level : ℕ) (s : CategorySet) (m : Mapping) → (both_equal level s m ≡ true) ↔ (mapped_as m ≡ mapped level s (length (categories s)))
mapping-has level s m = (
  λ e.
      let h = and_both (eqb m.level level) (same_set m.set s) e in
      let a : m.level ≡ level = eqb-true _ _ h.0 in
      let b : m.set ≡ s = (category_sets.equal m.set s).0 h.1 in
      rw (a, b),
  λ e.
      let q = same_mapped e in
      rw (eq-eqb _ _ (ap (λ (x : Cipso). x.level) q), (category_sets.equal m.set s).1 (ap (λ (x : Cipso). x.set) q)),
)

found-has : (level : ℕ) (s : CategorySet) (ms : List Mapping) (f : Option ℕ) → (mapped_to level s ms f ≡ true) ↔ (looked_up ms f ≡ mapped level s (length (categories s)))
found-has level s ms (Some k) = mapping-has level s (get_or ms k (record { label = 0; level = 0; set = no_categories }))
found-has level s ms None = (λ e. absurd (no e), λ e. let z : ◌≡◌ {A = ℕ} 0 1 = cc in absurd (omega arith))

module _ (t : Table) (level : ℕ) (s : CategorySet) (h : LabelsOnce t) where
  -- a label's own look-up goes by its number
  own_look_up : (n : ℕ) → n < length t.labels → label_lookup t (label_numbered t n) ≡ looked_up t.mappings (mapping_in t n)
  unfolding label_lookup
  own_look_up n i = rw (all-at well_formed [] t.labels h.formed n i, h.label_once n i)

  own-place : (n : ℕ) → n < length t.labels → has_both t level s n ≡ mapped_to level s t.mappings (mapping_in t n)
  unfolding has_both
  own-place n i =
      ap (λ (f : Option ℕ). mapped_to level s t.mappings (mapping_in t n) && found_at n f) (h.label_once n i)
      ∙ by-test (mapped_to level s t.mappings (mapping_in t n))
    where
      by-test : (b : Bool) → (b && found_at n (Some n)) ≡ b
      by-test true = eq-eqb n n refl
      by-test false = refl

  has-is : (n : ℕ) → n < length t.labels → (has_both t level s n ≡ true) ↔ HasBoth t level s n
  has-is n i =
      let a = found-has level s t.mappings (mapping_in t n) in
      (λ e. own_look_up n i ∙ a.0 (sym (own-place n i) ∙ e), λ e. own-place n i ∙ a.1 (sym (own_look_up n i) ∙ e))

  has_not : (n : ℕ) → n < length t.labels → (HasBoth t level s n → ⊥) → has_both t level s n ≡ false
  has_not n i q = not_so (has_both t level s n) (λ e. q ((has-is n i).0 e))

  abbrev numbers : List ℕ
  numbers = entries (λ (n : ℕ). n) (length t.labels)

  abbrev search : Option ℕ
  search = first (has_both t level s) numbers

  -- what the search finds
  is-lowest : (n : ℕ) → search ≡ Some n → (n < length t.labels) × HasBoth t level s n × ((k : ℕ) → k < n → HasBoth t level s k → ⊥)
  is-lowest n e =
      let a = first-is (has_both t level s) 0 numbers n e in
      let i : n < length t.labels = omega (arith, a.0, entries-length (λ (k : ℕ). k) (length t.labels)) in (
        i,
        (has-is n i).0 (ap (has_both t level s) (sym (entries_at (λ (k : ℕ). k) 0 (length t.labels) n i)) ∙ a.1),
        λ k b q.
            let j : k < length t.labels = omega arith in
            no
            (sym (first-before (has_both t level s) 0 numbers n e k b)
            ∙ ap (has_both t level s) (entries_at (λ (m : ℕ). m) 0 (length t.labels) k j)
            ∙ (has-is k j).1 q),
      )

  lowest-is : (n : ℕ) → n < length t.labels → HasBoth t level s n → ((k : ℕ) → k < n → HasBoth t level s k → ⊥) → search ≡ Some n
  lowest-is n i q before =
      found-at (has_both t level s) (λ (k : ℕ). k) (length t.labels) n i
      (λ k b. let j : k < length t.labels = omega arith in has_not k j (before k b))
      ((has-is n i).1 q)

  is_none : search ≡ None → (n : ℕ) → n < length t.labels → HasBoth t level s n → ⊥
  is_none e n i q =
      let j : n < length numbers = omega (arith, entries-length (λ (k : ℕ). k) (length t.labels)) in
      let a = ap (has_both t level s) (entries_at (λ (k : ℕ). k) 0 (length t.labels) n i) ∙ (has-is n i).1 q in
      no (sym (ap is_found e) ∙ found_some (has_both t level s) 0 numbers n j a)

  none_is : ((n : ℕ) → n < length t.labels → HasBoth t level s n → ⊥) → search ≡ None
  none_is q = found_none (has_both t level s) (λ (k : ℕ). k) (length t.labels) (λ k i. has_not k i (q k i))

same_found : {f g : Option ℕ} → ◌≡◌ {A = Result (Option ℕ) Refusal} (Ok f) (Ok g) → f ≡ g
same_found e = cc

-- THE LOWEST LABEL
pub lowest : (t : Table) (level : ℕ) (s : CategorySet) → LabelsOnce t → sought level s ≡ true → LowestLabel t level s
unfolding level_lookup
lowest t level s h e =
    record {
      lowest = λ n. (
        λ q. is-lowest t level s h n (same_found (sym looked ∙ q)),
        λ q. looked ∙ ap Ok (lowest-is t level s h n q.0 q.1 q.2),
      );
      none = (λ q. is_none t level s h (same_found (sym looked ∙ q)), λ q. looked ∙ ap Ok (none_is t level s h q));
    }
  where
    looked : level_lookup t level s ≡ Ok (search t level s h)
    looked = rw e

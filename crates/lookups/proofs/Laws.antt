-- Laws of the look-ups. Assumes nothing.
use mathlib.Core.Path.{◌≡◌, ap, ◌∙◌}
use mathlib.Core.Bool.{true, false, ◌&&◌}
use mathlib.Core.List.{List, []}
use Prim.Native.Nat.{ℕ, ◌+◌, ◌<◌}
use native.Mathlib.Omega.{arith}
use lib.Dec.{eqb}
use borrow.Author.Tests.{eq-eqb, ne_eqb, lt-leb}
use lib.ListN.{length, get_or}
use Rattle.search.specs.Search.{first, entries}
use Rattle.search.specs.Bytes.{same_bytes}
use Rattle.std.proofs.Common.{Option, Some, None, Ok, Err}
use Rattle.search.proofs.Laws.{first-is, entries-length, entries_at, found-at, found_none}
use Rattle.refusals.specs.Refusals.{damaged, bad_label_at, bad_level_or_category}
use Rattle.alphabet.specs.Alphabet.{well_formed, bad_byte}
use Rattle.numbers.specs.Categories.{categories, no_categories, same_set}
use Rattle.numbers.specs.declared.CategorySet.{CategorySet}
use Rattle.store.specs.declared.Mapping.{Mapping}
use Rattle.store.specs.Table.{names}
use Rattle.store.specs.Layout.{Store, store, label_at, mapping_at, set_at, table_of, undamaged_of}
use Rattle.lookups.specs.Lookups.{sought, mapped, mapped_as, looked_up, lookup_by, label_lookup, by_label_of, both_equal, mapped_to, found_at, has_both, level_lookup, by_level_of}

-- ---- the look-ups, by the tests in their order

-- a level over 255 is none that can be sought
pub over_level : (level : ℕ) (s : CategorySet) → 255 < level → false ≡ sought level s
unfolding sought
over_level level s h = rw (lt-leb level 255 h)

-- a mapping that was found is one of those that are stored
pub mapping-below : (e w : List ℕ) (n m k : ℕ) → first (names n) (entries (mapping_at e w) m) ≡ Some k → k < m
mapping-below e w n m k q = omega (arith, (first-is (names n) (mapping_at e w 0) (entries (mapping_at e w) m) k q).0, entries-length (mapping_at e w) m)

module _ (l e w : List ℕ) where
  abbrev lent : Store
  lent = store l e w

  abbrev label_count : ℕ
  label_count = get_or w 0 0

  abbrev mapping_count : ℕ
  mapping_count = get_or w 2 0

  module _ (x : List ℕ) where
    pub label-damaged : undamaged_of lent ≡ false → by_label_of lent x ≡ Err damaged
    unfolding by_label_of
    label-damaged u = rw u

    module _ (u : undamaged_of lent ≡ true) where
      label-tested : by_label_of lent x ≡ label_lookup (table_of lent) x
      unfolding by_label_of
      label-tested = rw u

      pub label-unformed : well_formed x ≡ false → by_label_of lent x ≡ Err (bad_label_at (bad_byte x))
      unfolding label_lookup
      label-unformed f = label-tested ∙ rw f

      module _ (f : well_formed x ≡ true) where
        label-formed : {r : Option ℕ} → first (same_bytes x) (entries (label_at l) label_count) ≡ r → by_label_of lent x ≡ lookup_by (table_of lent) r
        unfolding label_lookup
        label-formed r = label-tested ∙ rw (f, r)

        pub label-unknown : first (same_bytes x) (entries (label_at l) label_count) ≡ None → by_label_of lent x ≡ Ok None
        label-unknown r = label-formed r

        module _ {i : ℕ} (r : first (same_bytes x) (entries (label_at l) label_count) ≡ Some i) where
          pub label-unmapped : first (names i) (entries (mapping_at e w) mapping_count) ≡ None → by_label_of lent x ≡ Ok None
          label-unmapped q = label-formed r ∙ rw q

          pub label-mapped : {k : ℕ} → first (names i) (entries (mapping_at e w) mapping_count) ≡ Some k → by_label_of lent x ≡ mapped (get_or e (800 + k) 0) (set_at w k) (length (categories (set_at w k)))
          unfolding mapping_at
          label-mapped {k} q =
              label-formed r
              ∙ ap (looked_up (entries (mapping_at e w) mapping_count)) q
              ∙ ap mapped_as (entries_at (mapping_at e w) (record { label = 0; level = 0; set = no_categories }) mapping_count k (mapping-below e w i mapping_count k q))

  module _ (level : ℕ) (s : CategorySet) (j : ℕ) where
    abbrev one : Option ℕ
    one = first (names j) (entries (mapping_at e w) mapping_count)

    abbrev other : Option ℕ
    other = first (same_bytes (get_or (entries (label_at l) label_count) j [])) (entries (label_at l) label_count)

    both_by : {r : Option ℕ} → one ≡ r → has_both (table_of lent) level s j ≡ (mapped_to level s (entries (mapping_at e w) mapping_count) r && found_at j other)
    unfolding has_both
    both_by q = ap (λ (r : Option ℕ). mapped_to level s (entries (mapping_at e w) mapping_count) r && found_at j other) q

    pub both-none : one ≡ None → has_both (table_of lent) level s j ≡ false
    both-none q = both_by q

    module _ {k : ℕ} (q : one ≡ Some k) where
      both_at : has_both (table_of lent) level s j ≡ ((eqb (get_or e (800 + k) 0) level && same_set (set_at w k) s) && found_at j other)
      unfolding mapping_at
      both_at =
          both_by q
          ∙ ap (λ (g : Mapping). both_equal level s g && found_at j other) (entries_at (mapping_at e w) (record { label = 0; level = 0; set = no_categories }) mapping_count k (mapping-below e w j mapping_count k q))

      pub both-level : (get_or e (800 + k) 0 ≡ level → ⊥) → has_both (table_of lent) level s j ≡ false
      both-level h = both_at ∙ rw (ne_eqb (get_or e (800 + k) 0) level h)

      module _ (h : get_or e (800 + k) 0 ≡ level) where
        pub both-set : same_set (set_at w k) s ≡ false → has_both (table_of lent) level s j ≡ false
        both-set i = both_at ∙ rw (eq-eqb (get_or e (800 + k) 0) level h, i)

        pub both-label : {r : Option ℕ} → same_set (set_at w k) s ≡ true → j < label_count → first (same_bytes (label_at l j)) (entries (label_at l) label_count) ≡ r → has_both (table_of lent) level s j ≡ found_at j r
        both-label {r} i hj f =
            both_at
            ∙ rw (eq-eqb (get_or e (800 + k) 0) level h, i)
            (ap (λ (b : List ℕ). found_at j (first (same_bytes b) (entries (label_at l) label_count))) (entries_at (label_at l) [] label_count j hj) ∙ ap (found_at j) f)

  module _ (level : ℕ) (s : CategorySet) where
    pub level-damaged : undamaged_of lent ≡ false → by_level_of lent level s ≡ Err damaged
    unfolding by_level_of
    level-damaged u = rw u

    module _ (u : undamaged_of lent ≡ true) where
      level-tested : by_level_of lent level s ≡ level_lookup (table_of lent) level s
      unfolding by_level_of
      level-tested = rw u

      pub level-refused : sought level s ≡ false → by_level_of lent level s ≡ Err bad_level_or_category
      unfolding level_lookup
      level-refused h = level-tested ∙ rw h

      module _ (h : sought level s ≡ true) where
        level_by : {r : Option ℕ} → first (has_both (table_of lent) level s) (entries (λ (j : ℕ). j) label_count) ≡ r → by_level_of lent level s ≡ Ok r
        unfolding level_lookup
        level_by r = level-tested ∙ rw (h, entries-length (label_at l) label_count, r)

        pub level-found : (k : ℕ) → k < label_count → ((j : ℕ) → j < k → has_both (table_of lent) level s j ≡ false) → has_both (table_of lent) level s k ≡ true → by_level_of lent level s ≡ Ok (Some k)
        level-found k hk before here = level_by (found-at (has_both (table_of lent) level s) (λ (j : ℕ). j) label_count k hk before here)

        pub level-none : ((j : ℕ) → j < label_count → has_both (table_of lent) level s j ≡ false) → by_level_of lent level s ≡ Ok None
        level-none none = level_by (found_none (has_both (table_of lent) level s) (λ (j : ℕ). j) label_count none)

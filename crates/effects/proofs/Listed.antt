-- An accepted override list is who overrides from then on. Assumes nothing.
use mathlib.Core.Path.{◌≡◌, refl, sym, ap, ◌∙◌, subst}
use mathlib.Core.Bool.{Bool, true, false, cond, ◌&&◌, ◌||◌, or-true}
use mathlib.Core.Logic.{◌↔◌, ◌≢◌}
use mathlib.Core.List.{List, [], ◌∷◌, map}
use Prim.Native.Nat.{ℕ, suc}
use native.Mathlib.Omega.{arith}
use lib.Dec.{eqb, ltb}
use lib.ListN.{length, get_or}
use borrow.Author.Tests.{ne_eqb}
use Rattle.search.specs.Search.{first, all}
use Rattle.search.specs.Bytes.{same_bytes}
use Rattle.std.proofs.Common.{Option, Some, None}
use Rattle.search.proofs.Laws.{no, same_refl, same-equal, all-by, front_same}
use Rattle.refusals.specs.Refusals.{too_long, labels_full, too_many_overrides, bad_label_at}
use Rattle.alphabet.specs.Alphabet.{well_formed, fields, bad_byte_in}
use Rattle.store.specs.Table.{Table, with_onlycap, number_in}
use Rattle.store.specs.Judged.{is_refused, is_accepted}
use Rattle.onlycap.specs.Onlycap.{different, labels_with, with_list, lone_dash, onlycap_fields, onlycap_write}
use Rattle.access.specs.Access.{is_found, on_list, effective}
use Rattle.store.specs.Pairs.{modes_between}
use Rattle.new_object.proofs.WhichLabel.{pair_alone}
use Rattle.grown.specs.Pairs.{SoundTable}
use Rattle.grown.proofs.Pairs.{modes-kept}
use Rattle.effects.specs.Labels.{among, FirstAppearances}
use Rattle.effects.specs.Effects.{SetsList, SetsFields}
use Rattle.effects.proofs.Entering.{found_cons, found_some, among-fold, fold-front, appearances, entering, in_all, numbers_back, number-listed}
use Rattle.effects.proofs.Mapped.{lookups_kept}

-- the one list of fields that is a lone dash
dash-is : (fs : List (List ℕ)) → (lone_dash fs ≡ true) ↔ (fs ≡ (45 ∷ []) ∷ [])
dash-is [] = (λ e. absurd (no e), λ (e : ◌≡◌ {A = List (List ℕ)} [] ((45 ∷ []) ∷ [])). let z : ◌≡◌ {A = ℕ} 0 1 = cc in absurd (omega arith))
dash-is (f ∷ []) = (λ e. ap (λ (x : List ℕ). x ∷ []) (same-equal f (45 ∷ []) e), λ e. ap lone_dash e ∙ same_refl (45 ∷ []))
dash-is (f ∷ g ∷ more) = (λ e. absurd (no e), λ (e : f ∷ g ∷ more ≡ (45 ∷ []) ∷ []). let z : ◌≡◌ {A = ℕ} 0 1 = cc in absurd (omega arith))

module _ (t : Table) (sound : SoundTable t) where
  -- the empty list
  none-set : SetsList t (with_onlycap t []) []
  unfolding effective
  none-set =
      let kept : (x y : List ℕ) → modes_between (with_onlycap t []) x y ≡ modes_between t x y = λ x y. modes-kept t (with_onlycap t []) sound (front_same t.labels) x y (λ i j a b. refl) in
      record {
        override = λ x capable. refl;
        listed = appearances [];
        labels = entering t (with_onlycap t []) [] refl;
        rules = refl;
        mappings = refl;
        modes = kept;
        new_objects = λ x y. pair_alone (with_onlycap t []) t x y (kept x y);
        look_ups = lookups_kept t (with_onlycap t []) sound (front_same t.labels) refl;
      }

  -- one label or more
  module _ (f : List ℕ) (more : List (List ℕ)) where
    abbrev fs : List (List ℕ)
    fs = f ∷ more

    abbrev ls : List (List ℕ)
    ls = labels_with t fs

    abbrev ds : List (List ℕ)
    ds = different fs

    among-different : (x : List ℕ) → among x ds ≡ among x fs
    among-different = (appearances fs).same

    among-labels : (x : List ℕ) → among x ls ≡ (among x t.labels || among x fs)
    among-labels x = among-fold x fs t.labels

    -- the different ones are all there
    all_there : all (in_all ls) ds ≡ true
    all_there =
        all-by (in_all ls) [] ds
        (λ k h.
        let x = get_or ds k [] in
        among-labels x ∙ rw (sym (among-different x) ∙ found_some (same_bytes x) [] ds k h (same_refl x)) (or-true (among x t.labels)))

    -- there is one
    some-listed : (xs : List (List ℕ)) → among f xs ≡ true → eqb (length (map (number_in ls) xs)) 0 ≡ false
    unfolding first
    some-listed [] h = absurd (no h)
    some-listed (x ∷ xs) h = ne_eqb (suc (length (map (number_in ls) xs))) 0 (λ z. omega arith)

    first-there : among f ds ≡ true
    first-there = among-different f ∙ found_cons (same_bytes f) f more ∙ rw (same_refl f)

    listed-is : (x : List ℕ) → on_list (map (number_in ls) ds) (first (same_bytes x) ls) ≡ among x fs
    listed-is x = by-found (first (same_bytes x) ls) refl
      where
        none : (a b : Bool) → false ≡ (a || b) → false ≡ b
        none true b z = absurd (no z)
        none false b z = z

        by-found : (g : Option ℕ) → first (same_bytes x) ls ≡ g → on_list (map (number_in ls) ds) g ≡ among x fs
        by-found (Some i) q = number-listed ls ds all_there x i q ∙ among-different x
        by-found None q = none (among x t.labels) (among x fs) (sym (ap is_found q) ∙ among-labels x)

    labels-set : SetsList t (with_list t fs) fs
    unfolding effective
    labels-set =
        let kept : (x y : List ℕ) → modes_between (with_list t fs) x y ≡ modes_between t x y = λ x y. modes-kept t (with_list t fs) sound (fold-front fs t.labels) x y (λ i j a b. refl) in
        record {
          override = λ x capable.
              ap (λ (b : Bool). capable && (b || on_list (map (number_in ls) ds) (first (same_bytes x) ls))) (some-listed ds first-there)
              ∙ ap (λ (b : Bool). capable && b) (listed-is x)
              ∙ ap (λ (b : Bool). capable && (b || among x fs)) (sym (ne_eqb (suc (length more)) 0 (λ z. omega arith)));
          listed = subst (FirstAppearances fs) (sym (numbers_back ls ds all_there)) (appearances fs);
          labels = entering t (with_list t fs) fs refl;
          rules = refl;
          mappings = refl;
          modes = kept;
          new_objects = λ x y. pair_alone (with_list t fs) t x y (kept x y);
          look_ups = lookups_kept t (with_list t fs) sound (fold-front fs t.labels) refl;
        }

  dash-set : (fs : List (List ℕ)) → lone_dash fs ≡ true → SetsFields t (with_onlycap t []) fs
  dash-set fs e = record { lone_dash_is = λ q. none-set; its_labels = other }
    where
      other : fs ≢ (45 ∷ []) ∷ [] → SetsList t (with_onlycap t []) fs
      other q = absurd (q ((dash-is fs).0 e))

  labelled-set : (f : List ℕ) (more : List (List ℕ)) → lone_dash (f ∷ more) ≡ false → SetsFields t (with_list t (f ∷ more)) (f ∷ more)
  labelled-set f more e = record { lone_dash_is = λ q. absurd (no (sym e ∙ (dash-is (f ∷ more)).1 q)); its_labels = λ q. labels-set f more }

  fields-set : (place : ℕ) (fs : List (List ℕ)) (t' : Table) → onlycap_fields place t fs ≡ is_accepted t' → SetsFields t t' fs
  fields-set place [] t' e = let z : ◌≡◌ {A = ℕ} 0 1 = cc in absurd (omega arith)
  fields-set place (f ∷ more) t' e =
      by_tests (lone_dash (f ∷ more)) refl (all well_formed (f ∷ more)) (ltb 8 (length (different (f ∷ more)))) (ltb 64 (length (labels_with t (f ∷ more)))) e
    where
      by_tests :
          (a : Bool) →
          lone_dash (f ∷ more) ≡ a →
          (b c d : Bool) →
          cond a
          (is_accepted (with_onlycap t []))
          (cond b (cond c (is_refused too_many_overrides) (cond d (is_refused labels_full) (is_accepted (with_list t (f ∷ more))))) (is_refused (bad_label_at place)))
          ≡ is_accepted t' →
          SetsFields t t' (f ∷ more)
      by_tests true q b c d e = let z : with_onlycap t [] ≡ t' = cc in subst (λ (x : Table). SetsFields t x (f ∷ more)) z (dash-set (f ∷ more) q)
      by_tests false q true true d e = let z : ◌≡◌ {A = ℕ} 0 1 = cc in absurd (omega arith)
      by_tests false q true false true e = let z : ◌≡◌ {A = ℕ} 0 1 = cc in absurd (omega arith)
      by_tests false q true false false e = let z : with_list t (f ∷ more) ≡ t' = cc in subst (λ (x : Table). SetsFields t x (f ∷ more)) z (labelled-set f more q)
      by_tests false q false c d e = let z : ◌≡◌ {A = ℕ} 0 1 = cc in absurd (omega arith)

-- AN ACCEPTED OVERRIDE LIST
pub list_sets : (t t' : Table) (text : List ℕ) → SoundTable t → onlycap_write text t ≡ is_accepted t' → SetsFields t t' (fields text)
unfolding onlycap_write
list_sets t t' text sound e = by_size (ltb 600 (length text)) e
  where
    by_size : (b : Bool) → cond b (is_refused too_long) (onlycap_fields (bad_byte_in text) t (fields text)) ≡ is_accepted t' → SetsFields t t' (fields text)
    by_size true e = let z : ◌≡◌ {A = ℕ} 0 1 = cc in absurd (omega arith)
    by_size false e = fields-set t sound (bad_byte_in text) (fields text) t' e

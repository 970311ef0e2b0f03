-- What a search finds is the first of its kind. Assumes nothing.
use mathlib.Core.Path.{◌≡◌, sym, ap, ◌∙◌}
use mathlib.Core.Bool.{Bool, true}
use mathlib.Core.List.{List, []}
use mathlib.Core.Logic.{◌↔◌}
use Prim.Native.Nat.{ℕ, ◌<◌}
use lib.Dec.{eqb}
use lib.ListN.{length, get_or}
use borrow.Author.Tests.{eq-eqb}
use Rattle.search.specs.Search.{first}
use Rattle.search.specs.Bytes.{same_bytes}
use Rattle.std.proofs.Common.{Some}
use Rattle.search.proofs.Laws.{no, and_both, eqb_is, same_refl, same-equal, not_so, first-at, first-is, first-before}
use Rattle.numbers.specs.Categories.{no_categories}
use Rattle.store.specs.declared.Rule.{Rule}
use Rattle.store.specs.declared.Mapping.{Mapping}
use Rattle.store.specs.Table.{Table, is_pair, names, FirstCounts}

-- a test that says what an entry is: what is found is the first entry that is so
module _ {A : Type 0} (p : A → Bool) (is : A → Type 0) (says : (x : A) → (p x ≡ true) ↔ is x) (d : A) (l : List A) (k : ℕ) where
  the_first : (first p l ≡ Some k) ↔ ((k < length l) × is (get_or l k d) × ((j : ℕ) → j < k → is (get_or l j d) → ⊥))
  the_first = (
    λ e.
        let f = first-is p d l k e in
        (f.0, (says (get_or l k d)).0 f.1, λ j h x. no (sym (first-before p d l k e j h) ∙ (says (get_or l j d)).1 x)),
    λ q. first-at p d l k q.0 (λ j h. not_so (p (get_or l j d)) (λ e. q.2 j h ((says (get_or l j d)).0 e))) ((says (get_or l k d)).1 q.1),
  )

-- ---- the three tests

same-is : (l x : List ℕ) → (same_bytes l x ≡ true) ↔ (x ≡ l)
same-is l x = (λ e. sym (same-equal l x e), λ e. ap (λ (y : List ℕ). same_bytes l y) e ∙ same_refl l)

pair_is : (s o : ℕ) (r : Rule) → (is_pair s o r ≡ true) ↔ ((r.subject ≡ s) × (r.object ≡ o))
unfolding is_pair
pair_is s o r = (
  λ e.
      let b = and_both (eqb r.subject s) (eqb r.object o) e in
      ((eqb_is r.subject s).0 b.0, (eqb_is r.object o).0 b.1),
  λ q. rw (eq-eqb r.subject s q.0, eq-eqb r.object o q.1),
)

names-is : (n : ℕ) (m : Mapping) → (names n m ≡ true) ↔ (m.label ≡ n)
unfolding names
names-is n m = eqb_is m.label n

-- THE FIRST COUNTS
pub first-counts : (t : Table) → FirstCounts t
first-counts t =
    record {
      label = λ l k. the_first (same_bytes l) (λ (x : List ℕ). x ≡ l) (same-is l) [] t.labels k;
      pair = λ s o k.
          let none : Rule = record { subject = 0; object = 0; modes = 0 } in
          let f = the_first (is_pair s o) (λ (r : Rule). (r.subject ≡ s) × (r.object ≡ o)) (pair_is s o) none t.rules k in
          (λ e. let q = f.0 e in (q.0, q.1.0, q.1.1, λ j h x y. q.2 j h (x, y)), λ q. f.1 (q.0, (q.1, q.2), λ j h z. q.3 j h z.0 z.1));
      mapping = λ n k. the_first (names n) (λ (m : Mapping). m.label ≡ n) (names-is n) (record { label = 0; level = 0; set = no_categories }) t.mappings k;
    }

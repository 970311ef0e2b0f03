-- Laws of the layout. Assumes nothing.
use mathlib.Core.Path.{◌≡◌, sym, ◌∙◌}
use mathlib.Core.Bool.{true}
use mathlib.Core.List.{List, [], ◌∷◌, ◌++◌, append_assoc}
use Prim.Native.Nat.{ℕ, suc, ◌+◌, ◌*◌, ◌<◌, ◌≤◌}
use native.Mathlib.Numerals.{add-one}
use native.Mathlib.Omega.{arith}
use lib.Dec.{ltb}
use borrow.Author.Tests.{eqb-true, leb-true, eq-eqb, le-leb, ltb-true, lt-ltb}
use lib.ListN.{length, take, drop, get_or, set, length-drop, take-append-drop}
use lib.Seq.{take-append-le, take-append_seam, drop-append-le, take-take, drop_at, length-take-le, take-suc-set, drop-set-lt}
use Rattle.search.specs.Bytes.{written}
use Rattle.search.proofs.Laws.{and_both, all_weaker, length-written}
use Rattle.store.specs.declared.Rule.{Rule}
use Rattle.store.specs.declared.Mapping.{Mapping}
use Rattle.store.specs.Table.{Table, sound_rule, sound_mapping, sound_table}
use Rattle.store.specs.Layout.{Store, label_at, table_of, undamaged_of, Sizes}
use Rattle.store.specs.Within.{with_label, Counts}

-- ---- the label store

-- what stands behind a place does not change its label
pub label-front : (p q : List ℕ) (k : ℕ) → k * 256 + 256 ≤ length p → label_at (p ++ q) k ≡ label_at p k
unfolding label_at
label-front p q k h =
    let h₁ : k * 256 ≤ length p = omega arith in
    let h₂ : 256 ≤ length (drop (k * 256) p) = simp length-drop (omega arith) in
    rw (drop-append-le (k * 256) p q h₁, take-append-le 256 (drop (k * 256) p) q h₂)

-- the label that was written is the one in its place
pub label-written : (t : List ℕ) (k : ℕ) (l : List ℕ) → k * 256 ≤ length t → length l ≤ 255 → label_at (with_label t k l) k ≡ l
unfolding label_at with_label written
label-written t k l h small =
    let e : length (take (k * 256) t) ≡ k * 256 = length-take-le (k * 256) t h in
    let rest : List ℕ = drop (k * 256 + suc (length l)) t in
    rw (drop_at (take (k * 256) t) (length l ∷ l ++ rest) (k * 256) e) (take-take (length l) 255 (l ++ rest) small ∙ take-append_seam l rest)

-- the labels before it are as they were
pub label-before : (t : List ℕ) (k j : ℕ) (l : List ℕ) → k * 256 ≤ length t → j < k → label_at (with_label t k l) j ≡ label_at t j
unfolding with_label written
label-before t k j l h hj =
    let e : j * 256 + 256 ≤ length (take (k * 256) t) = rw (length-take-le (k * 256) t h) (omega arith) in
    label-front (take (k * 256) t) (length l ∷ l ++ drop (k * 256 + suc (length l)) t) j e
    ∙ sym (label-front (take (k * 256) t) (drop (k * 256) t) j e)
    ∙ rw (take-append-drop (k * 256) t)

-- the length byte, and then the label behind it, are one write
pub written_cons : (t : List ℕ) (at x : ℕ) (l : List ℕ) → at < length t → written (set t at x) (at + 1) l ≡ written t at (x ∷ l)
unfolding written
written_cons t at x l h =
    let e : at + 1 + length l ≡ at + suc (length l) = omega arith in
    let h₁ : at < at + suc (length l) = omega arith in
    rw (e, drop-set-lt (at + suc (length l)) t at x h₁, add-one, take-suc-set t at x h) (append_assoc (take at t) (x ∷ []) (l ++ drop (at + suc (length l)) t))

-- ---- what an undamaged store has

pub record Undamaged (s : Store) : Type 0 where
  pub sizes : Sizes s.labels s.entries s.words
  pub counts : Counts s.words
  pub sound : sound_table (get_or s.words 0 0) (table_of s) ≡ true

pub undamaged-is : (s : Store) → undamaged_of s ≡ true → Undamaged s
unfolding undamaged_of
undamaged-is s e =
    let a = and_both _ _ e in
    let b = and_both _ _ a.1 in
    let c = and_both _ _ b.1 in
    let d = and_both _ _ c.1 in
    let f = and_both _ _ d.1 in
    let g = and_both _ _ f.1 in
    let h = and_both _ _ g.1 in
    record {
      sizes = record { labels = eqb-true _ _ a.0; entries = eqb-true _ _ b.0; words = eqb-true _ _ c.0 };
      counts = record { labels = leb-true _ _ d.0; rules = leb-true _ _ f.0; mappings = leb-true _ _ g.0; onlycap = leb-true _ _ h.0 };
      sound = h.1;
    }

pub is-undamaged : (s : Store) → Undamaged s → undamaged_of s ≡ true
unfolding undamaged_of
is-undamaged s u =
    rw (
      eq-eqb _ _ u.sizes.labels,
      eq-eqb _ _ u.sizes.entries,
      eq-eqb _ _ u.sizes.words,
      le-leb _ _ u.counts.labels,
      le-leb _ _ u.counts.rules,
      le-leb _ _ u.counts.mappings,
      le-leb _ _ u.counts.onlycap,
      u.sound,
    )

-- what is sound among n labels is sound among more
module _ (n m : ℕ) (h : n ≤ m) where
  below_more : (k : ℕ) → ltb k n ≡ true → ltb k m ≡ true
  below_more k q = lt-ltb k m (omega (arith, ltb-true k n q))

  rule-more : (r : Rule) → sound_rule n r ≡ true → sound_rule m r ≡ true
  unfolding sound_rule
  rule-more r q =
      let c = and_both _ _ q in
      let d = and_both _ _ c.0 in
      rw (below_more r.subject d.0, below_more r.object d.1, c.1)

  mapping-more : (g : Mapping) → sound_mapping n g ≡ true → sound_mapping m g ≡ true
  unfolding sound_mapping
  mapping-more g q = let c = and_both _ _ q in rw (below_more g.label c.0, c.1)

  pub sound_more : (t : Table) → sound_table n t ≡ true → sound_table m t ≡ true
  unfolding sound_table
  sound_more t e =
      let a = and_both _ _ e in
      let b = and_both _ _ a.0 in
      rw (
        all_weaker (sound_rule n) (sound_rule m) rule-more t.rules b.0,
        all_weaker (sound_mapping n) (sound_mapping m) mapping-more t.mappings b.1,
        all_weaker (λ (k : ℕ). ltb k n) (λ (k : ℕ). ltb k m) below_more t.onlycap a.1,
      )

-- a label that is written leaves the slice its length
pub length_label : (t : List ℕ) (k : ℕ) (l : List ℕ) → length t ≡ 16384 → k < 64 → length l ≤ 255 → length (with_label t k l) ≡ 16384
unfolding with_label
length_label t k l full h small = length-written t (k * 256) (length l ∷ l) (omega arith) ∙ full

-- Reading what was written. Assumes nothing.
use mathlib.Core.Path.{◌≡◌, refl, sym, ap, ◌∙◌, subst}
use mathlib.Core.Bool.{Bool, true, false, cond, not}
use mathlib.Core.List.{List, []}
use Prim.Native.Nat.{ℕ, ◌-◌, ◌<◌, ◌≤◌}
use native.Mathlib.Omega.{arith}
use lib.Dec.{eqb, leb, ltb}
use borrow.Author.Tests.{leb-true, ltb-true, ltb-false}
use lib.ListN.{length, get_or, take, drop, get_or-eq_default}
use lib.Seq.{take_at}
use Rattle.refusals.specs.Refusals.{damaged, not_in_an_option}
use Rattle.search.specs.Bytes.{same_bytes}
use Rattle.std.proofs.Common.{Some, Option, None, Result, Ok}
use Rattle.search.proofs.Laws.{and_both, all-at, first-is, same-equal}
use Rattle.alphabet.specs.Alphabet.{well_formed}
use Rattle.alphabet.proofs.Laws.{label_form}
use Rattle.numbers.specs.Categories.{categories, no_categories, known_set, InWords, is_mapping_level}
use Rattle.numbers.specs.declared.CategorySet.{CategorySet}
use Rattle.numbers.proofs.Sets.{passing_words, passing_known}
use Rattle.set_bytes.specs.SetBytes.{bit_at, own_bytes, set_of_own, Bytes}
use Rattle.set_bytes.proofs.Laws.{own-length, own-byte}
use Rattle.output.specs.Output.{text, refused, text_answer}
use Rattle.refusals.specs.declared.Refusal.{Refusal}
use Rattle.lookups.specs.declared.Cipso.{Cipso}
use Rattle.output.proofs.Laws.{length-answered}
use Rattle.store.specs.declared.Mapping.{Mapping}
use Rattle.store.specs.Table.{Table, label_in, label_numbered, names, sound_mapping}
use Rattle.store.specs.Layout.{Store, table_of, undamaged_of}
use Rattle.lookups.specs.Lookups.{mapped, label_lookup, level_lookup, sought}
use Rattle.cipso_option.specs.Option.{trimmed, option_of, option_by, label_option, option_given, option_answer, option_out, label, own_peer, mapped_peer, peer_at, peer_of, peer_given}
use Rattle.grown.specs.Grown.{Grown}
use Rattle.grown.specs.Sane.{at_mapping_level, Sane}
use Rattle.grown.proofs.Sane.{sound-parts}
use Rattle.grown.proofs.Growing.{grown-sane}
use Rattle.effects.specs.OverrideAndLookUp.{HasBoth}
use Rattle.effects.proofs.LabelsMapping.{looked_up_lem}
use Rattle.effects.proofs.Lowest.{lowest}
use Rattle.option_laws.specs.ReadsBack.{ReadsBack}
use Rattle.option_laws.proofs.Bitmap.{trimmed-same, trimmed-none, taken}

-- ---- a label as its own bits

module _ (l : List ℕ) (formed : well_formed l ≡ true) where
  label-bytes : Bytes l
  label-bytes i = by-test (ltb i (length l)) refl
    where
      by-test : (t : Bool) → ltb i (length l) ≡ t → get_or l i 0 < 256
      by-test true e = omega (arith, (((label_form l).0 formed).bytes i (ltb-true _ _ e)).1)
      by-test false e = rw (get_or-eq_default l 0 (ltb-false _ _ e)) (omega arith)

  own-rebuilt : length l ≤ 23 → trimmed (own_bytes (set_of_own l)) ≡ l
  own-rebuilt h =
      trimmed-same (own_bytes (set_of_own l)) l (λ i. by-test i (ltb i 23) refl)
      ∙ trimmed-none l (λ i hi z. omega (arith, z, (((label_form l).0 formed).bytes i hi).0))
    where
      by-test : (i : ℕ) (t : Bool) → ltb i 23 ≡ t → get_or (own_bytes (set_of_own l)) i 0 ≡ get_or l i 0
      by-test i true e = own-byte l label-bytes i (ltb-true _ _ e)
      by-test i false e =
          let past = ltb-false i 23 e in
          get_or-eq_default (own_bytes (set_of_own l)) 0 (omega (arith, past, own-length (set_of_own l))) ∙ sym (get_or-eq_default l 0 (omega (arith, past)))

own-words : (l : List ℕ) → InWords (set_of_own l)
unfolding set_of_own
own-words l = passing_words (λ (n : ℕ). bit_at l (n - 1))

own-known : (l : List ℕ) → known_set (set_of_own l) ≡ true
unfolding set_of_own
own-known l = passing_known (λ (n : ℕ). bit_at l (n - 1))

same_text : {a b : List ℕ} → text a ≡ text b → a ≡ b
same_text e = cc

no_text : {n : Refusal} {b : List ℕ} {A : Type 0} → refused n ≡ text b → A
no_text e = let z : ◌≡◌ {A = ℕ} 0 1 = cc in absurd (omega arith)

-- ---- of a table

module _ (t : Table) (h : Sane t) (l b : List ℕ) (e : label_option t l ≡ text b) where
  by_look_up : {x : Result (Option Cipso) Refusal} → label_lookup t l ≡ x → option_by l x ≡ text b
  unfolding label_option
  by_look_up q = ap (option_by l) (sym q) ∙ e

  table-unmapped : label_lookup t l ≡ Ok None → peer_of t b ≡ label l
  unfolding peer_at
  table-unmapped q =
      let formed = ((looked_up_lem t l).unmapped.0 q).0 in
      let w = by-test (leb (length l) 23) refl (by_look_up q) in
      ap (peer_of t) w.1 ∙ taken (set_of_own l) (own-words l) (own-known l) t 250 ∙ ap own_peer (own-rebuilt l formed w.0) ∙ rw formed
    where
      by-test : (x : Bool) → leb (length l) 23 ≡ x → cond x (text (option_of 250 (set_of_own l))) (refused not_in_an_option) ≡ text b → (length l ≤ 23) × (b ≡ option_of 250 (set_of_own l))
      by-test true p q = (leb-true _ _ p, sym (same_text q))
      by-test false p q = no_text q

  module _ (level : ℕ) (s : CategorySet) (count : ℕ) (q : label_lookup t l ≡ mapped level s count) where
    -- what is known of the label's mapping
    none : Mapping
    none = record { label = 0; level = 0; set = no_categories }

    its : (well_formed l ≡ true) × (is_mapping_level level ≡ true) × InWords s × (known_set s ≡ true) × (count ≡ length (categories s))
    unfolding none sound_mapping
    its =
        let m = ((looked_up_lem t l).mapped level s count).0 q in
        let k = m.1 in
        let below = (first-is (names m.2.0) none t.mappings k m.2.2).0 in
        let m' = get_or t.mappings k none in
        let sound = and_both (ltb m'.label (length t.labels)) (known_set m'.set) (all-at (sound_mapping (length t.labels)) none t.mappings (sound-parts t (length t.labels) h.sound).1 k below) in
        (m.0, ap is_mapping_level (sym m.3) ∙ all-at at_mapping_level none t.mappings h.levels k below, subst InWords m.4 (h.in_words k below), ap known_set (sym m.4) ∙ sound.1, m.5)

    can-be-sought : sought level s ≡ true
    unfolding sought
    can-be-sought = rw ((and_both (leb level 255) (not (eqb level 250)) its.1).0, its.3)

    -- so it is the label that the look-up by level and set finds
    table-mapped : peer_of t b ≡ mapped_peer t (level_lookup t level s)
    unfolding peer_at
    table-mapped = ap (peer_of t) (sym (same_text (by_look_up q))) ∙ taken s its.2 its.3 t level ∙ rw other
      where
        other : eqb level 250 ≡ false
        other = by-test (eqb level 250) (and_both (leb level 255) (not (eqb level 250)) its.1).1
          where
            by-test : (x : Bool) → not x ≡ true → x ≡ false
            by-test true z = sym z
            by-test false z = refl

    lowest-is : (n : ℕ) → n < length t.labels → HasBoth t level s n → ((k : ℕ) → k < n → HasBoth t level s k → ⊥) → peer_of t b ≡ label (label_numbered t n)
    lowest-is n i has before = table-mapped ∙ ap (mapped_peer t) (((lowest t level s h.labels_once can-be-sought).lowest n).1 (i, has, before))

    module _ (k : ℕ) (at : label_in t l ≡ Some k) where
      stored : (k < length t.labels) × (label_numbered t k ≡ l)
      stored = let f = first-is (same_bytes l) [] t.labels k at in (f.0, sym (same-equal l (label_numbered t k) f.1))

      table-given : ((n : ℕ) → n < k → HasBoth t level s n → ⊥) → peer_of t b ≡ label l
      table-given before =
          lowest-is k stored.0 (ap (label_lookup t) stored.1 ∙ q ∙ ap (mapped level s) its.4) before ∙ ap label stored.1

      table-lower : (n : ℕ) → n < k → HasBoth t level s n → ((j : ℕ) → j < n → HasBoth t level s j → ⊥) → peer_of t b ≡ label (label_numbered t n)
      table-lower n below has before = let few = stored.0 in lowest-is n (omega arith) has before

-- ---- of a state

peer-is : (st : Store) (option : List ℕ) → undamaged_of st ≡ true → peer_given st option ≡ peer_of (table_of st) option
unfolding peer_given
peer-is st option u = rw u

given_is : (st : Store) (l : List ℕ) → undamaged_of st ≡ true → option_given st l ≡ label_option (table_of st) l
unfolding option_given
given_is st l u = rw u

-- a state in which something is written is undamaged
written_tested : (st : Store) (l out : List ℕ) (n : ℕ) → option_answer st l out ≡ Ok n → undamaged_of st ≡ true
unfolding option_answer option_given
written_tested st l out n e = by-test (undamaged_of st) e
  where
    by-test : (t : Bool) → text_answer (cond t (label_option (table_of st) l) (refused damaged)) out ≡ Ok n → t ≡ true
    by-test true q = refl
    by-test false q = let z : ◌≡◌ {A = ℕ} 0 1 = cc in absurd (omega arith)

pub reads_back : (st : Store) (l out : List ℕ) (n : ℕ) → Grown (table_of st) → option_answer st l out ≡ Ok n → ReadsBack st l (take n (option_out st l out))
unfolding option_answer option_out
reads_back st l out n g e =
    let u = written_tested st l out n e in
    let w = length-answered.written (option_given st l) out n e in
    let b = w.bytes in
    let is : take n (option_out st l out) ≡ b = ap (take n) w.front ∙ take_at b (drop n out) n w.long in
    let said = sym (given_is st l u) ∙ w.is in
    let h = grown-sane g in
    let reads : peer_given st (take n (option_out st l out)) ≡ peer_of (table_of st) b = ap (peer_given st) is ∙ peer-is st b u in
    record {
      unmapped = λ q. reads ∙ table-unmapped (table_of st) h l b said q;
      mapped = λ level s count k q at before. reads ∙ table-given (table_of st) h l b said level s count q k at before;
      lower = λ level s count k j q at below has before. reads ∙ table-lower (table_of st) h l b said level s count q k at j below has before;
    }

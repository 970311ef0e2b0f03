-- Laws of a new object's label. Assumes nothing.
use Prim.Native.Nat.{ℕ}
use mathlib.Core.Path.{◌≡◌, refl, sym, ap, ◌∙◌}
use mathlib.Core.Bool.{Bool, true, false, cond, not, ◌&&◌, ◌||◌}
use mathlib.Core.List.{List, [], ◌∷◌}
use lib.Dec.{eqb}
use Rattle.search.specs.Search.{all}
use Rattle.search.specs.Bytes.{same_bytes}
use Rattle.search.proofs.Laws.{no, and_both}
use Rattle.modes.specs.Modes.{has, bit_of, modes_of, write_letter, transmute_letter}
use Rattle.modes.proofs.Bits.{all_of_one}
use Rattle.store.specs.Table.{Table, floor, hat, star}
use Rattle.store.specs.Pairs.{PairModes, has_modes, no_rule, modes_between, modes_or_none}
use Rattle.access.specs.SevenRules.{holds, modes_pass, Clause, first_of}
use Rattle.access.specs.Within.{mark_rules, granting_modes, ruled, ruling_of}
use Rattle.access.specs.declared.Denial.{Denial}
use Rattle.access.specs.declared.Denial.TheVariants.{StarSubject, AnyOther}
use Rattle.access.specs.declared.Verdict.{Verdict}
use Rattle.access.specs.declared.Verdict.TheVariants.{Grants, Denies, Undecided}
use Rattle.access.specs.declared.Ruling.{Ruling}
use Rattle.access.proofs.Laws.{after, in_two-parts, ruled-same}
use Rattle.new_object.specs.NewObject.{by_rule_with_t, object_label_by, object_label_for}
use Rattle.new_object.specs.WhichLabel.{by_labels_and_modes}
use Rattle.new_object.specs.declared.ObjectLabel.{ObjectLabel}
use Rattle.new_object.specs.declared.ObjectLabel.TheVariants.{CreatorLabel, Denied, FolderLabel}

-- ---- rules 1 to 4 go by no rule of the table

-- a verdict names rule 6
abbrev pub by_six : Verdict → Bool
by_six (Grants n) = eqb n 6
by_six (Denies by) = false
by_six Undecided = false

-- clauses none of which names it give a verdict that does not
pub none-by_six : (cs : List Clause) → all (λ (c : Clause). not (by_six c.says)) cs ≡ true → by_six (first_of cs) ≡ false
unfolding all
none-by_six [] e = refl
none-by_six (c ∷ cs) e =
    let h = and_both (not (by_six c.says)) (all (λ (d : Clause). not (by_six d.says)) cs) e in
    by-test c.applies (by_six c.says) refl h.0 (none-by_six cs h.1)
  where
    by-test : (b six : Bool) → by_six c.says ≡ six → not six ≡ true → by_six (first_of cs) ≡ false → by_six (cond b c.says (first_of cs)) ≡ false
    by-test true true p q ih = absurd (no q)
    by-test true false p q ih = p
    by-test false six p q ih = ih

-- where another rule granted, it is the creator's label
pub by-another : (n : ℕ) (pair : PairModes) (folder_transmutes is_folder : Bool) → eqb n 6 ≡ false → object_label_by (Grants n) pair folder_transmutes is_folder ≡ CreatorLabel
by-another n pair true is_folder e = rw e
by-another n pair false is_folder e = refl

-- ---- the label by the modes of the rule that granted

with_t : (n : ℕ) (pair : PairModes) → by_rule_with_t n (has_modes (granting_modes (Grants n) pair)) ≡ by_rule_with_t n pair
with_t n pair = by_case (eqb n 6) pair
  where
    by_case :
        (six : Bool) (p : PairModes) →
        (six && has (cond six (modes_or_none p) 0) transmute_letter) ≡ (six && modes_pass p (λ (m : ℕ). has m transmute_letter))
    by_case true (has_modes m) = refl
    by_case true no_rule = refl
    by_case false p = refl

pub granting_is :
    (v : Verdict) (pair : PairModes) (folder_transmutes is_folder : Bool) →
    object_label_by v (has_modes (granting_modes v pair)) folder_transmutes is_folder ≡ object_label_by v pair folder_transmutes is_folder
granting_is (Grants n) pair folder_transmutes is_folder = rw (with_t n pair)
granting_is (Denies by) pair folder_transmutes is_folder = refl
granting_is Undecided pair folder_transmutes is_folder = refl

-- ---- the seven rules in their two parts

module _ (t : Table) (creator folder : List ℕ) (folder_transmutes is_folder : Bool) where
  abbrev pair : PairModes
  pair = modes_between t creator folder

  abbrev marks : Verdict
  marks = first_of (mark_rules creator folder write_letter)

  pub in_parts : (v : Verdict) → marks ≡ v → object_label_for creator folder pair folder_transmutes is_folder ≡ object_label_by (after v (ruling_of t creator folder write_letter).verdict) pair folder_transmutes is_folder
  unfolding object_label_for
  in_parts v e = ap (λ (w : Verdict). object_label_by w pair folder_transmutes is_folder) (in_two-parts t creator folder write_letter v e)

  pub by_a_mark : (n : ℕ) → marks ≡ Grants n → object_label_for creator folder pair folder_transmutes is_folder ≡ CreatorLabel
  unfolding all
  by_a_mark n e =
      in_parts (Grants n) e
      ∙ by-another n pair folder_transmutes is_folder (sym (ap by_six e) ∙ none-by_six (mark_rules creator folder write_letter) refl)

  pub denied-by_a_mark : (by : Denial) → marks ≡ Denies by → object_label_for creator folder pair folder_transmutes is_folder ≡ Denied
  denied-by_a_mark by e = in_parts (Denies by) e

  pub by-one-label : marks ≡ Undecided → same_bytes creator folder ≡ true → object_label_for creator folder pair folder_transmutes is_folder ≡ CreatorLabel
  by-one-label e same =
      in_parts Undecided e
      ∙ ap (λ (r : Ruling). object_label_by r.verdict pair folder_transmutes is_folder) (sym (ruled-same (same_bytes creator folder) pair write_letter same))
      ∙ by-another 5 pair folder_transmutes is_folder refl

  pub by_the_others :
      marks ≡ Undecided →
      (r : Ruling) →
      r ≡ ruling_of t creator folder write_letter →
      object_label_by r.verdict (has_modes r.modes) folder_transmutes is_folder ≡ object_label_for creator folder pair folder_transmutes is_folder
  unfolding ruled
  by_the_others e r q =
      ap (λ (z : Ruling). object_label_by z.verdict (has_modes z.modes) folder_transmutes is_folder) q
      ∙ granting_is (ruling_of t creator folder write_letter).verdict pair folder_transmutes is_folder
      ∙ sym (in_parts Undecided e)

-- ---- by the two labels and the modes of their pair

module _ (folder_transmutes is_folder : Bool) where
  -- rules 6 and 7, of a rule of the pair
  by_the_rule :
      (m : ℕ) →
      object_label_by (cond (holds write_letter m) (Grants 6) (Denies AnyOther)) (has_modes m) folder_transmutes is_folder
      ≡ cond (not (has m write_letter)) Denied (cond (folder_transmutes && has m transmute_letter) (FolderLabel is_folder) CreatorLabel)
  by_the_rule m = rw (all_of_one 4 m) (by-test (has m write_letter))
    where
      by-test :
          (w : Bool) →
          object_label_by (cond w (Grants 6) (Denies AnyOther)) (has_modes m) folder_transmutes is_folder
          ≡ cond (not w) Denied (cond (folder_transmutes && has m transmute_letter) (FolderLabel is_folder) CreatorLabel)
      by-test true = refl
      by-test false = refl

  abbrev from_the_fourth : Bool → Bool → PairModes → Verdict
  from_the_fourth in-star same modes = cond in-star (Grants 4) (cond same (Grants 5) (cond (modes_pass modes (holds write_letter)) (Grants 6) (Denies AnyOther)))

  abbrev without_star : Bool → Bool → PairModes → ObjectLabel
  without_star in-star same modes =
      cond (in-star || same) CreatorLabel
      (cond (not (modes_pass modes (λ (m : ℕ). has m write_letter))) Denied
      (cond (folder_transmutes && modes_pass modes (λ (m : ℕ). has m transmute_letter)) (FolderLabel is_folder) CreatorLabel))

  by_the_fourth :
      (in-star same : Bool) (modes : PairModes) →
      object_label_by (from_the_fourth in-star same modes) modes folder_transmutes is_folder ≡ without_star in-star same modes
  by_the_fourth true same modes = by-another 4 modes folder_transmutes is_folder refl
  by_the_fourth false true modes = by-another 5 modes folder_transmutes is_folder refl
  by_the_fourth false false (has_modes m) = by_the_rule m
  by_the_fourth false false no_rule = refl

  -- the seven, of which 2 and 3 do not apply to a request of w
  by_the_seven :
      (is-star is-hat in-floor in-star same : Bool) (modes : PairModes) →
      object_label_by
      (cond is-star (Denies StarSubject) (cond (is-hat && false) (Grants 2) (cond (in-floor && false) (Grants 3) (from_the_fourth in-star same modes))))
      modes folder_transmutes is_folder
      ≡ cond is-star Denied (without_star in-star same modes)
  by_the_seven true is-hat in-floor in-star same modes = refl
  by_the_seven false true true in-star same modes = by_the_fourth in-star same modes
  by_the_seven false true false in-star same modes = by_the_fourth in-star same modes
  by_the_seven false false true in-star same modes = by_the_fourth in-star same modes
  by_the_seven false false false in-star same modes = by_the_fourth in-star same modes

pub by-labels_and_modes :
    (creator folder : List ℕ) (pair : PairModes) (folder_transmutes is_folder : Bool) →
    object_label_for creator folder pair folder_transmutes is_folder ≡ by_labels_and_modes creator folder pair folder_transmutes is_folder
unfolding object_label_for modes_of bit_of
by-labels_and_modes creator folder pair folder_transmutes is_folder =
    by_the_seven folder_transmutes is_folder
    (same_bytes creator star)
    (same_bytes creator hat)
    (same_bytes folder floor)
    (same_bytes folder star)
    (same_bytes creator folder)
    pair

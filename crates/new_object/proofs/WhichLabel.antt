-- Which label a new object gets, by the answers to a question for w and the rule of the pair. Assumes nothing.
use Prim.Native.Nat.{ℕ}
use mathlib.Core.Path.{◌≡◌, refl, sym, ap, ◌∙◌}
use mathlib.Core.Bool.{Bool, true, false, cond, ◌&&◌}
use mathlib.Core.List.{List}
use mathlib.Core.Logic.{◌↔◌, ◌≢◌, ◌⊎◌, inl, inr, ⊎_elim}
use native.Mathlib.Omega.{arith}
use lib.Dec.{eqb}
use borrow.Author.Tests.{eqb-true, eqb-false}
use Rattle.search.specs.Search.{all}
use Rattle.search.specs.Bytes.{ascii}
use Rattle.std.proofs.Common.{Option, Some, None, Result, Ok, Err}
use Rattle.search.proofs.Laws.{no, and_both}
use Rattle.refusals.specs.Refusals.{damaged, bad_label_at}
use Rattle.refusals.specs.declared.Refusal.{Refusal}
use Rattle.alphabet.specs.Alphabet.{well_formed, bad_byte_of_two}
use Rattle.modes.specs.Modes.{has, bit_of, allowed_byte, modes_of, read_modes, write_letter, transmute_letter}
use Rattle.store.specs.Table.{Table, label_in, pair_in}
use Rattle.store.specs.Pairs.{PairModes, rule_between, modes_found, modes_between}
use Rattle.store.specs.Layout.{Store, table_of, undamaged_of}
use Rattle.access.specs.SevenRules.{modes_pass, first_of, seven_rules}
use Rattle.access.specs.Access.{answered, answer, question_of}
use Rattle.access.specs.declared.Denial.{Denial}
use Rattle.access.specs.declared.Denial.TheVariants.{AnyOther}
use Rattle.access.specs.declared.Verdict.{Verdict}
use Rattle.access.specs.declared.Verdict.TheVariants.{Grants, Denies, Undecided}
use Rattle.access.specs.declared.Answer.{Answer}
use Rattle.access.specs.declared.Answer.TheVariants as answer
use Rattle.access.proofs.Laws.{effective_not, answer-is}
use Rattle.new_object.specs.NewObject.{object_label_by, object_label_for, object_label, object_label_of}
use Rattle.new_object.specs.WhichLabel.{write_asked, RuleHas, WhichLabel, GoesByModes, SameNewObjects}
use Rattle.new_object.specs.declared.ObjectLabel.{ObjectLabel}
use Rattle.new_object.specs.declared.ObjectLabel.TheVariants.{CreatorLabel, Denied, FolderLabel}

-- ---- the rule of a pair has a letter exactly where the pair's modes have it

module _ (t : Table) (s o : List ℕ) (letter : ℕ) where
  abbrev pub has_between : Bool
  has_between = modes_pass (modes_between t s o) (λ (m : ℕ). has m letter)

  pub has-rule : RuleHas t s o letter → has_between ≡ true
  unfolding modes_between
  has-rule h = rw (h.subject, h.object, h.rule) h.letter_there

  pub rule-has : has_between ≡ true → RuleHas t s o letter
  unfolding modes_between
  rule-has e = by-labels (label_in t s) (label_in t o) refl refl e
    where
      by-rule :
          (i j : ℕ) (f : Option ℕ) →
          label_in t s ≡ Some i → label_in t o ≡ Some j → pair_in t i j ≡ f →
          modes_pass (modes_found t.rules f) (λ (m : ℕ). has m letter) ≡ true →
          RuleHas t s o letter
      by-rule i j (Some k) p q r z =
          record { subject_number = i; object_number = j; rule_number = k; subject = p; object = q; rule = r; letter_there = z }
      by-rule i j None p q r z = absurd (no z)

      by-labels :
          (f g : Option ℕ) →
          label_in t s ≡ f → label_in t o ≡ g →
          modes_pass (modes_found t.rules (rule_between t f g)) (λ (m : ℕ). has m letter) ≡ true →
          RuleHas t s o letter
      by-labels (Some i) (Some j) p q z = by-rule i j (pair_in t i j) p q refl z
      by-labels (Some i) None p q z = absurd (no z)
      by-labels None g p q z = absurd (no z)

-- ---- what the call answers, beside what the question for w does

-- where three tests together hold, each does; where they do not, one of them fails
three : (a b c : Bool) → (a && (b && c)) ≡ true → (a ≡ true) × (b ≡ true) × (c ≡ true)
three a b c e =
    let h = and_both a (b && c) e in
    let g = and_both b c h.1 in
    (h.0, g.0, g.1)

one_of_three : (a b c : Bool) → (a && (b && c)) ≡ false → (a ≡ false) ⊎ (b ≡ false) ⊎ (c ≡ false)
one_of_three false b c e = inl refl
one_of_three true false c e = inr (inl refl)
one_of_three true true false e = inr (inr refl)
one_of_three true true true e = absurd (no (sym e))

-- refused with one refusal; denied; granted, with the folder's label or with the creator's
pub data Beside (folder_transmutes is_folder with_t : Bool) : Result ObjectLabel Refusal → Answer → Type 0 where
  refuses : (r : Refusal) → Beside folder_transmutes is_folder with_t (Err r) (answer.Refused r)
  denies : (by : Denial) → Beside folder_transmutes is_folder with_t (Ok Denied) (answer.Denied by)
  grants_folders : (rule : ℕ) → (folder_transmutes ≡ true) × (rule ≡ 6) × (with_t ≡ true) → Beside folder_transmutes is_folder with_t (Ok (FolderLabel is_folder)) (answer.Granted rule)
  grants_creators : (rule : ℕ) → (folder_transmutes ≡ false) ⊎ (rule ≢ 6) ⊎ (with_t ≡ false) → Beside folder_transmutes is_folder with_t (Ok CreatorLabel) (answer.Granted rule)

module _ (st : Store) (creator folder : List ℕ) (folder_transmutes is_folder : Bool) where
  abbrev T : Table
  T = table_of st

  abbrev with_t : Bool
  with_t = has_between T creator folder transmute_letter

  by_verdict : (v : Verdict) → Beside folder_transmutes is_folder with_t (Ok (object_label_by v (modes_between T creator folder) folder_transmutes is_folder)) (answered false v)
  by_verdict (Grants n) = by-test (folder_transmutes && (eqb n 6 && with_t)) refl
    where
      by-test : (b : Bool) → (folder_transmutes && (eqb n 6 && with_t)) ≡ b → Beside folder_transmutes is_folder with_t (Ok (cond b (FolderLabel is_folder) CreatorLabel)) (answer.Granted n)
      by-test true e = let h = three folder_transmutes (eqb n 6) with_t e in grants_folders n (h.0, eqb-true n 6 h.1, h.2)
      by-test false e =
          grants_creators n
          (⊎_elim (λ p. inl p) (λ q. ⊎_elim (λ p. inr (inl (eqb-false n 6 p))) (λ p. inr (inr p)) q) (one_of_three folder_transmutes (eqb n 6) with_t e))
  by_verdict (Denies by) = denies by
  by_verdict Undecided = denies AnyOther

  formed : well_formed creator ≡ true → well_formed folder ≡ true → answer T creator folder (ascii "w") false ≡ answered false (first_of (seven_rules T creator folder write_letter))
  unfolding read_modes all allowed_byte bit_of modes_of
  formed p q =
      answer-is T creator folder (ascii "w") false write_letter p q (λ z. omega (arith, z)) refl
      ∙ ap (λ (b : Bool). answered b (first_of (seven_rules T creator folder write_letter))) (effective_not T (label_in T creator))

  not_formed : (well_formed creator && well_formed folder) ≡ false → answer T creator folder (ascii "w") false ≡ answer.Refused (bad_label_at (bad_byte_of_two creator folder))
  unfolding answer
  not_formed p = rw p

  abbrev given : Result ObjectLabel Refusal
  given = object_label_of st creator folder folder_transmutes is_folder

  abbrev asked : Answer
  asked = write_asked st creator folder

  pub beside : Beside folder_transmutes is_folder with_t given asked
  unfolding object_label_of object_label question_of object_label_for
  beside = by_state (undamaged_of st) (well_formed creator && well_formed folder) refl refl
    where
      by_state : (whole both : Bool) → undamaged_of st ≡ whole → (well_formed creator && well_formed folder) ≡ both → Beside folder_transmutes is_folder with_t given asked
      by_state false both u p = rw u (refuses damaged)
      by_state true true u p =
          let h = and_both (well_formed creator) (well_formed folder) p in
          rw (u, p, formed h.0 h.1) (by_verdict (first_of (seven_rules T creator folder write_letter)))
      by_state true false u p = rw (u, p, not_formed p) (refuses (bad_label_at (bad_byte_of_two creator folder)))

-- ---- so each is what 02 says: by the four ways

-- which of the four an answer is
abbrev kind : Result ObjectLabel Refusal → ℕ
kind (Err n) = 0
kind (Ok Denied) = 1
kind (Ok (FolderLabel b)) = 2
kind (Ok CreatorLabel) = 3

abbrev kind_asked : Answer → ℕ
kind_asked (answer.Refused r) = 0
kind_asked (answer.Denied by) = 1
kind_asked (answer.Granted n) = 2
kind_asked (answer.Override by) = 3

other : (a b : Result ObjectLabel Refusal) → eqb (kind a) (kind b) ≡ false → a ≡ b → ⊥
other a b p e = eqb-false (kind a) (kind b) p (ap kind e)

other-asked : (a b : Answer) → eqb (kind_asked a) (kind_asked b) ≡ false → a ≡ b → ⊥
other-asked a b p e = eqb-false (kind_asked a) (kind_asked b) p (ap kind_asked e)

-- where neither of two holds, each does exactly where the other does
neither : {P Q : Type 0} → (P → ⊥) → (Q → ⊥) → P ↔ Q
neither p q = (λ e. absurd (p e), λ e. absurd (q e))

module _ (folder_transmutes is_folder with_t : Bool) where
  is-denied : {n : Result ObjectLabel Refusal} {a : Answer} → Beside folder_transmutes is_folder with_t n a → (n ≡ Ok Denied) ↔ ((by : Denial) × (a ≡ answer.Denied by))
  is-denied (refuses r) = neither (other _ _ refl) (λ e. other-asked _ _ refl e.1)
  is-denied (denies by) = (λ e. (by, refl), λ e. refl)
  is-denied (grants_folders rule p) = neither (other _ _ refl) (λ e. other-asked _ _ refl e.1)
  is-denied (grants_creators rule p) = neither (other _ _ refl) (λ e. other-asked _ _ refl e.1)

  is_refused : {n : Result ObjectLabel Refusal} {a : Answer} → Beside folder_transmutes is_folder with_t n a → (why : Refusal) → (n ≡ Err why) ↔ (a ≡ answer.Refused why)
  is_refused (refuses r) why = (λ e. cc, λ e. cc)
  is_refused (denies by) why = neither (other _ _ refl) (other-asked _ _ refl)
  is_refused (grants_folders rule p) why = neither (other _ _ refl) (other-asked _ _ refl)
  is_refused (grants_creators rule p) why = neither (other _ _ refl) (other-asked _ _ refl)

  module _ (RuleWithT : Type 0) (there : with_t ≡ true → RuleWithT) (stands : RuleWithT → with_t ≡ true) where
    is-folders :
        {n : Result ObjectLabel Refusal} {a : Answer} →
        Beside folder_transmutes is_folder with_t n a →
        (b : Bool) →
        (n ≡ Ok (FolderLabel b)) ↔ ((folder_transmutes ≡ true) × (a ≡ answer.Granted 6) × RuleWithT × (b ≡ is_folder))
    is-folders (refuses r) b = neither (other _ _ refl) (λ e. other-asked _ _ refl e.1)
    is-folders (denies by) b = neither (other _ _ refl) (λ e. other-asked _ _ refl e.1)
    is-folders (grants_folders rule p) b = (λ e. (p.0, ap answer.Granted p.1, there p.2, cc), λ e. let q = e.3 in cc)
    is-folders (grants_creators rule p) b =
        neither (other _ _ refl)
        (λ e.
        ⊎_elim (λ q. no (sym q ∙ e.0))
        (⊎_elim (λ q. let z = e.1 in q cc) (λ q. no (sym q ∙ stands e.2))) p)

    is-creators :
        {n : Result ObjectLabel Refusal} {a : Answer} →
        Beside folder_transmutes is_folder with_t n a →
        (n ≡ Ok CreatorLabel) ↔ ((rule : ℕ) × (a ≡ answer.Granted rule) × ((folder_transmutes ≡ false) ⊎ (rule ≢ 6) ⊎ (RuleWithT → ⊥)))
    is-creators (refuses r) = neither (other _ _ refl) (λ e. other-asked _ _ refl e.1)
    is-creators (denies by) = neither (other _ _ refl) (λ e. other-asked _ _ refl e.1)
    is-creators (grants_folders rule p) =
        neither (other _ _ refl)
        (λ e.
        ⊎_elim (λ q. no (sym q ∙ p.0))
        (⊎_elim (λ q. let z = e.1 in let w = p.1 in q cc) (λ q. q (there p.2))) e.2)
    is-creators (grants_creators rule p) =
        (λ e. (rule, refl, ⊎_elim (λ q. inl q) (⊎_elim (λ q. inr (inl q)) (λ q. inr (inr (λ h. no (sym q ∙ stands h))))) p), λ e. refl)

pub which_label : (st : Store) (creator folder : List ℕ) (folder_transmutes is_folder : Bool) → WhichLabel st creator folder folder_transmutes is_folder
unfolding modes_of bit_of
which_label st creator folder folder_transmutes is_folder =
    let b = beside st creator folder folder_transmutes is_folder in
    let t = table_of st in
    let w = has_between t creator folder transmute_letter in
    let there = rule-has t creator folder transmute_letter in
    let stands = has-rule t creator folder transmute_letter in
    let folders = is-folders folder_transmutes is_folder w _ there stands b in
    record {
      denied = is-denied folder_transmutes is_folder w b;
      refused = is_refused folder_transmutes is_folder w b;
      folder_label = folders;
      creator_label = is-creators folder_transmutes is_folder w _ there stands b;
      file_never_transmutes = λ p e. no (sym p ∙ sym ((folders true).0 e).3);
    }

-- ---- the modes of the pair alone count

pub goes_by-modes : (t : Table) (creator folder : List ℕ) (pair : PairModes) → modes_between t creator folder ≡ pair → GoesByModes t creator folder pair
unfolding object_label
goes_by-modes t creator folder pair e p q folder_transmutes is_folder = rw (p, q, e)

pub pair_alone : (t u : Table) (creator folder : List ℕ) → modes_between t creator folder ≡ modes_between u creator folder → SameNewObjects t u creator folder
unfolding object_label
pair_alone t u creator folder e folder_transmutes is_folder = rw e

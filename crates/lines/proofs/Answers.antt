-- The answer to a rule line and to a change-rule write, by the tests in their order: what the two kinds share first, then what follows the labels.
-- Assumes nothing.
use mathlib.Core.Path.{◌≡◌, refl, sym, ap, subst, ◌∙◌}
use mathlib.Core.Bool.{Bool, true, false, cond, ◌&&◌}
use mathlib.Core.List.{List}
use Prim.Native.Nat.{ℕ, ◌+◌, ◌<◌, ◌≤◌}
use native.Mathlib.Omega.{arith}
use lib.Dec.{ltb}
use lib.ListN.{length}
use borrow.Author.Tests.{lt-ltb, le-ltb}
use Rattle.std.proofs.lemmas.Bool.{ltb-false}
use Rattle.refusals.specs.Refusals.{too_long, wrong_fields, bad_access, same_labels, bad_label_at}
use Rattle.refusals.specs.declared.Refusal.{Refusal}
use Rattle.alphabet.specs.Alphabet.{well_formed, line_limit, bad_byte, bad_byte_in}
use Rattle.alphabet.specs.Within.{field_at, part, label_field_at, with_form}
use Rattle.alphabet.specs.declared.Field.{Field}
use Rattle.alphabet.specs.declared.Field.TheVariants.{Part, End}
use Rattle.alphabet.specs.declared.LabelField.TheVariants as label_field
use Rattle.alphabet.proofs.Laws.{field-some, label-field-some, label-field-none}
use Rattle.alphabet.proofs.Places.{place-all, place_here, place-later}
use Rattle.modes.specs.Modes.{read_modes, line_letters, change_letters, stored_modes, has_bring_up}
use Rattle.std.proofs.Common.{Option, Some, None, Result, Ok, Err}
use Rattle.lines.proofs.Laws.{inside}
use Rattle.lines.specs.declared.Labels.{Labels}
use Rattle.lines.specs.Within.{at, span, pair, SpanInside, formed_at, same_at, Kind, first_at, second_at, line_at, labels_of, labels_kind, two_labels_at, TwoLabels, rule_at_access, rule_at_fourth, rule_at_third, rule_kind, change_at_access, change_at_fifth, change_at_fourth, change_at_third, change_kind}

-- ---- the two labels that a line begins with

pub too_long_lem : (line : List ℕ) → line_limit < length line → Err too_long ≡ two_labels_at line
unfolding two_labels_at
too_long_lem line h = rw (lt-ltb line_limit (length line) h)

module _ (line : List ℕ) (short : length line ≤ line_limit) where
  short-line : first_at labels_kind line (field_at line 0) ≡ two_labels_at line
  unfolding two_labels_at
  short-line = rw (le-ltb line_limit (length line) short)

  pub no_field : label_field_at line 0 ≡ label_field.End → Ok None ≡ two_labels_at line
  no_field e = ap (first_at labels_kind line) (sym (label-field-none line 0 e)) ∙ short-line

  module _ {a b : ℕ} {subject : Bool} (first : label_field_at line 0 ≡ label_field.Part a b subject) where
    one_field : second_at labels_kind line a b (field_at line b) ≡ two_labels_at line
    one_field = ap (first_at labels_kind line) (sym (label-field-some line 0 a b subject first).0) ∙ short-line

    pub only_one : label_field_at line b ≡ label_field.End → Err wrong_fields ≡ two_labels_at line
    only_one e = ap (second_at labels_kind line a b) (sym (label-field-none line b e)) ∙ one_field

    pub two_fields :
        {c d : ℕ} {object : Bool} →
        label_field_at line b ≡ label_field.Part c d object →
        Ok (Some (record { pair = pair a b c d; subject_formed = subject; object_formed = object })) ≡ two_labels_at line
    two_fields {c} {d} {object} second =
        let s = label-field-some line 0 a b subject first in
        let o = label-field-some line b c d object second in
        rw (sym s.1, sym o.1) (ap (second_at labels_kind line a b) (sym o.0) ∙ one_field)

-- what is then known of them
pub two_of : (line : List ℕ) (l : Labels) → two_labels_at line ≡ Ok (Some l) → TwoLabels line l
unfolding two_labels_at
two_of line l = by_test (ltb line_limit (length line)) refl
  where
    by_second : (a b : ℕ) → length line ≤ line_limit → field_at line 0 ≡ Part a b → (f : Field) → field_at line b ≡ f → second_at labels_kind line a b f ≡ Ok (Some l) → TwoLabels line l
    by_second a b short first End second e = let z : ◌≡◌ {A = ℕ} 0 1 = cc in absurd (omega arith)
    by_second a b short first (Part c d) second e =
        let is : labels_of line (pair a b c d) ≡ l = cc in
        subst (TwoLabels line) is
        (record {
          short = short;
          first = first;
          second = second;
          subject = inside (field-some line 0 a b first);
          object = inside (field-some line b c d second);
          formed = refl;
        })

    by_first : length line ≤ line_limit → (f : Field) → field_at line 0 ≡ f → first_at labels_kind line f ≡ Ok (Some l) → TwoLabels line l
    by_first short End first e = let z : ◌≡◌ {A = ℕ} 0 1 = cc in absurd (omega arith)
    by_first short (Part a b) first e = by_second a b short first (field_at line b) refl e

    by_test : (t : Bool) → ltb line_limit (length line) ≡ t → cond t (Err too_long) (first_at labels_kind line (field_at line 0)) ≡ Ok (Some l) → TwoLabels line l
    by_test true h e = let z : ◌≡◌ {A = ℕ} 0 1 = cc in absurd (omega arith)
    by_test false h e = by_first (ltb-false line_limit (length line) h) (field_at line 0) refl e

-- where the first bad byte is, by which of the two labels is the first that is not well formed
module _ {line : List ℕ} {l : Labels} (w : TwoLabels line l) where
  first-label : label_field_at line 0 ≡ label_field.Part l.pair.subject.start l.pair.subject.end (well_formed (at line l.pair.subject))
  first-label = ap (with_form line) w.first

  second-label : label_field_at line l.pair.subject.end ≡ label_field.Part l.pair.object.start l.pair.object.end (well_formed (at line l.pair.object))
  second-label = ap (with_form line) w.second

  subject-is : well_formed (at line l.pair.subject) ≡ l.subject_formed
  subject-is = ap (λ (x : Labels). x.subject_formed) w.formed

  object-is : well_formed (at line l.pair.object) ≡ l.object_formed
  object-is = ap (λ (x : Labels). x.object_formed) w.formed

  pub bad_subject : l.subject_formed ≡ false → (bad_byte_in line ≡ l.pair.subject.start + bad_byte (at line l.pair.subject)) × (formed_at line l.pair ≡ false)
  bad_subject x = (place-all line ∙ place_here line 0 _ _ first-label (subject-is ∙ x), ap (λ (t : Bool). t && well_formed (at line l.pair.object)) (subject-is ∙ x))

  module _ (s : l.subject_formed ≡ true) where
    pub bad_object : l.object_formed ≡ false → (bad_byte_in line ≡ l.pair.object.start + bad_byte (at line l.pair.object)) × (formed_at line l.pair ≡ false)
    bad_object x =
        (place-all line ∙ place-later line 0 _ _ first-label (subject-is ∙ s) ∙ place_here line _ _ _ second-label (object-is ∙ x), rw (subject-is ∙ s, object-is ∙ x))

    pub both_formed : l.object_formed ≡ true → formed_at line l.pair ≡ true
    both_formed x = rw (subject-is ∙ s, object-is ∙ x)

-- ---- what both kinds of line share: a line's answer by its labels

abbrev by_labels : {A : Type 0} → Kind A → List ℕ → Result (Option Labels) Refusal → A
by_labels k line (Err r) = k.refuse r
by_labels k line (Ok None) = k.none
by_labels k line (Ok (Some l)) = k.more line l.pair l.pair.object.end

pub labels_give : {A : Type 0} (k : Kind A) (line : List ℕ) {x : Result (Option Labels) Refusal} → x ≡ two_labels_at line → line_at k line ≡ by_labels k line x
unfolding two_labels_at
labels_give k line {x} e = by_test (ltb line_limit (length line)) ∙ ap (by_labels k line) (sym e)
  where
    by_second : (a b : ℕ) (f : Field) → second_at k line a b f ≡ by_labels k line (second_at labels_kind line a b f)
    by_second a b End = refl
    by_second a b (Part c d) = refl

    by_first : (f : Field) → first_at k line f ≡ by_labels k line (first_at labels_kind line f)
    by_first End = refl
    by_first (Part a b) = by_second a b (field_at line b)

    by_test : (t : Bool) → cond t (k.refuse too_long) (first_at k line (field_at line 0)) ≡ by_labels k line (cond t (Err too_long) (first_at labels_kind line (field_at line 0)))
    by_test true = refl
    by_test false = by_first (field_at line 0)

-- a field that was read stands inside the line
pub in_line : (line : List ℕ) (from : ℕ) {a b : ℕ} → field_at line from ≡ Part a b → SpanInside line (span a b)
in_line line from {a} {b} e = inside (field-some line from a b e)

-- ---- a rule line

module _ (line : List ℕ) (l : Labels) (e : two_labels_at line ≡ Ok (Some l)) where
  pub rule-two : field_at line l.pair.object.end ≡ End → line_at rule_kind line ≡ Err wrong_fields
  rule-two x = labels_give rule_kind line (sym e) ∙ ap (rule_at_third line l.pair) x

  module _ {x y : ℕ} (third : field_at line l.pair.object.end ≡ Part x y) where
    rule-fourth : line_at rule_kind line ≡ rule_at_fourth line l.pair (span x y) (field_at line y)
    rule-fourth = labels_give rule_kind line (sym e) ∙ ap (rule_at_third line l.pair) third

    pub rule-four : {g h : ℕ} → field_at line y ≡ Part g h → line_at rule_kind line ≡ Err wrong_fields
    rule-four z = rule-fourth ∙ ap (rule_at_fourth line l.pair (span x y)) z

    module _ (ends : field_at line y ≡ End) where
      abbrev access : Option ℕ
      access = read_modes line_letters true (part line x y)

      pub rule-labels : {t : Bool} → formed_at line l.pair ≡ t → line_at rule_kind line ≡ cond t (rule_at_access line l.pair access) (Err (bad_label_at (bad_byte_in line)))
      rule-labels formed =
          rule-fourth
          ∙ ap (rule_at_fourth line l.pair (span x y)) ends
          ∙ ap (λ (t : Bool). cond t (rule_at_access line l.pair access) (Err (bad_label_at (bad_byte_in line)))) formed

      module _ (formed : formed_at line l.pair ≡ true) where
        pub rule-bad : access ≡ None → line_at rule_kind line ≡ Err bad_access
        rule-bad z = rule-labels formed ∙ ap (rule_at_access line l.pair) z

        pub rule-judged : {m : ℕ} {t : Bool} → access ≡ Some m → same_at line l.pair ≡ t → line_at rule_kind line ≡ cond t (Err same_labels) (Ok (Some (record { labels = l.pair; modes = stored_modes m; bring_up = has_bring_up m })))
        rule-judged {m} z same = rule-labels formed ∙ ap (rule_at_access line l.pair) z ∙ ap (λ (u : Bool). cond u (Err same_labels) (Ok (Some (record { labels = l.pair; modes = stored_modes m; bring_up = has_bring_up m })))) same

-- ---- a change-rule write

module _ (line : List ℕ) (l : Labels) (e : two_labels_at line ≡ Ok (Some l)) where
  pub change-two : field_at line l.pair.object.end ≡ End → line_at change_kind line ≡ Err wrong_fields
  change-two x = labels_give change_kind line (sym e) ∙ ap (change_at_third line l.pair) x

  module _ {x y : ℕ} (third : field_at line l.pair.object.end ≡ Part x y) where
    change-fourth : line_at change_kind line ≡ change_at_fourth line l.pair (span x y) (field_at line y)
    change-fourth = labels_give change_kind line (sym e) ∙ ap (change_at_third line l.pair) third

    pub change-three : field_at line y ≡ End → line_at change_kind line ≡ Err wrong_fields
    change-three z = change-fourth ∙ ap (change_at_fourth line l.pair (span x y)) z

    module _ {g h : ℕ} (fourth : field_at line y ≡ Part g h) where
      change-fifth : line_at change_kind line ≡ change_at_fifth line l.pair (span x y) (span g h) (field_at line h)
      change-fifth = change-fourth ∙ ap (change_at_fourth line l.pair (span x y)) fourth

      pub change-five : {i j : ℕ} → field_at line h ≡ Part i j → line_at change_kind line ≡ Err wrong_fields
      change-five z = change-fifth ∙ ap (change_at_fifth line l.pair (span x y) (span g h)) z

      module _ (ends : field_at line h ≡ End) where
        abbrev allow : Option ℕ
        allow = read_modes change_letters true (part line x y)

        abbrev deny : Option ℕ
        deny = read_modes change_letters true (part line g h)

        pub change-labels : {t : Bool} → formed_at line l.pair ≡ t → line_at change_kind line ≡ cond t (change_at_access line l.pair allow deny) (Err (bad_label_at (bad_byte_in line)))
        change-labels formed =
            change-fifth
            ∙ ap (change_at_fifth line l.pair (span x y) (span g h)) ends
            ∙ ap (λ (t : Bool). cond t (change_at_access line l.pair allow deny) (Err (bad_label_at (bad_byte_in line)))) formed

        module _ (formed : formed_at line l.pair ≡ true) where
          pub change-bad-allow : allow ≡ None → line_at change_kind line ≡ Err bad_access
          change-bad-allow z = change-labels formed ∙ ap (λ (u : Option ℕ). change_at_access line l.pair u deny) z

          module _ {m : ℕ} (allows : allow ≡ Some m) where
            change-allowed : line_at change_kind line ≡ change_at_access line l.pair (Some m) deny
            change-allowed = change-labels formed ∙ ap (λ (u : Option ℕ). change_at_access line l.pair u deny) allows

            pub change-bad-deny : deny ≡ None → line_at change_kind line ≡ Err bad_access
            change-bad-deny z = change-allowed ∙ ap (change_at_access line l.pair (Some m)) z

            pub change-judged : {n : ℕ} {t : Bool} → deny ≡ Some n → same_at line l.pair ≡ t → line_at change_kind line ≡ cond t (Err same_labels) (Ok (record { labels = l.pair; allow = m; deny = n }))
            change-judged {n} z same = change-allowed ∙ ap (change_at_access line l.pair (Some m)) z ∙ ap (λ (u : Bool). cond u (Err same_labels) (Ok (record { labels = l.pair; allow = m; deny = n }))) same

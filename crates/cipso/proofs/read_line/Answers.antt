-- Each answer says what the fields say, by the tests that led to it.
use Rattle.std.proofs.Common.{List, ℕ, ◌≡◌, ◌≤◌, length, ap, sym, ◌∙◌, arith}
use Rattle.alphabet.specs.Within.{field_at}
use Rattle.alphabet.specs.declared.Field.TheVariants.{Part}
use Rattle.cipso.specs.Cipso.{refused}
use Rattle.cipso.proofs.Laws.{One, Two, in_one, in_two, said-long, said-none, said-one, said_unformed, said-unread, said-no-level, said-set, label-fits}
use Rattle.cipso.proofs.read_line.Goals as goal

-- the fields that were read
one : {text : List ℕ} {a b : ℕ} → length text ≤ 1000 → field_at text 0 ≡ Part a b → One text a b
one h e = record { short = h; field = e }

two : {text : List ℕ} {a b c d : ℕ} → length text ≤ 1000 → field_at text 0 ≡ Part a b → field_at text b ≡ Part c d → Two text a b c d
two h e f = record { label = one h e; field = f }

pub returns-then-text-gt-MAPPING_LONGEST-clause-said : goal.returns-then-text-gt-MAPPING_LONGEST-clause-said
returns-then-text-gt-MAPPING_LONGEST-clause-said c = sym (said-long _ c.if-text-gt-MAPPING_LONGEST.true)

pub returns-in_default-clause-said : goal.returns-in_default-clause-said
returns-in_default-clause-said c = sym (said-none _ c.if-text-gt-MAPPING_LONGEST.false (sym c.next_field.ensures ∙ c.in_default.is))

pub returns-in_default-next_field-clause-said : goal.returns-in_default-next_field-clause-said
returns-in_default-next_field-clause-said c =
    sym (said-one (one c.if-text-gt-MAPPING_LONGEST.false (sym c.next_field.ensures ∙ c.in-Part.is)) (sym c.next_field-2.ensures ∙ c.in_default-next_field.is))

pub slice_bounds-well_formed-count : goal.slice_bounds-well_formed-count
slice_bounds-well_formed-count c = let f = in_one (one c.if-text-gt-MAPPING_LONGEST.false (sym c.next_field.ensures ∙ c.in-Part.is)) in omega (arith, f.starts)

pub slice_bounds-well_formed-start : goal.slice_bounds-well_formed-start
slice_bounds-well_formed-start c = let f = in_one (one c.if-text-gt-MAPPING_LONGEST.false (sym c.next_field.ensures ∙ c.in-Part.is)) in omega (arith, f.starts)

pub slice_bounds-well_formed-end : goal.slice_bounds-well_formed-end
slice_bounds-well_formed-end c = let f = in_one (one c.if-text-gt-MAPPING_LONGEST.false (sym c.next_field.ensures ∙ c.in-Part.is)) in f.ends

pub returns-then-not-well_formed-clause-said : goal.returns-then-not-well_formed-clause-said
returns-then-not-well_formed-clause-said c =
    let w = two c.if-text-gt-MAPPING_LONGEST.false (sym c.next_field.ensures ∙ c.in-Part.is) (sym c.next_field-2.ensures ∙ c.in-Part-next_field.is) in
    ap refused c.bad_label_in.ensures ∙ sym (said_unformed w (sym c.well_formed-2.ensures ∙ c.if-not-well_formed.true))

pub slice_bounds-read_number-count : goal.slice_bounds-read_number-count
slice_bounds-read_number-count c =
    let f = in_two (two c.if-text-gt-MAPPING_LONGEST.false (sym c.next_field.ensures ∙ c.in-Part.is) (sym c.next_field-2.ensures ∙ c.in-Part-next_field.is)) in
    omega (arith, f.starts)

pub slice_bounds-read_number-start : goal.slice_bounds-read_number-start
slice_bounds-read_number-start c =
    let f = in_two (two c.if-text-gt-MAPPING_LONGEST.false (sym c.next_field.ensures ∙ c.in-Part.is) (sym c.next_field-2.ensures ∙ c.in-Part-next_field.is)) in
    omega (arith, f.starts)

pub slice_bounds-read_number-end : goal.slice_bounds-read_number-end
slice_bounds-read_number-end c =
    let f = in_two (two c.if-text-gt-MAPPING_LONGEST.false (sym c.next_field.ensures ∙ c.in-Part.is) (sym c.next_field-2.ensures ∙ c.in-Part-next_field.is)) in
    f.ends

pub returns-in_default-read_number-clause-said : goal.returns-in_default-read_number-clause-said
returns-in_default-read_number-clause-said c =
    let w = two c.if-text-gt-MAPPING_LONGEST.false (sym c.next_field.ensures ∙ c.in-Part.is) (sym c.next_field-2.ensures ∙ c.in-Part-next_field.is) in
    sym (said-unread w (sym c.well_formed-2.ensures ∙ c.if-not-well_formed.false) (sym c.read_number.ensures ∙ c.in_default-read_number.is))

pub returns-then-not-is_mapping_level-clause-said : goal.returns-then-not-is_mapping_level-clause-said
returns-then-not-is_mapping_level-clause-said c =
    let w = two c.if-text-gt-MAPPING_LONGEST.false (sym c.next_field.ensures ∙ c.in-Part.is) (sym c.next_field-2.ensures ∙ c.in-Part-next_field.is) in
    sym (said-no-level w (sym c.well_formed-2.ensures ∙ c.if-not-well_formed.false) (sym c.read_number.ensures ∙ c.in-Some.is) (sym c.is_mapping_level.ensures ∙ c.if-not-is_mapping_level.true))

pub returns-in_default-read_categories-clause-said : goal.returns-in_default-read_categories-clause-said
returns-in_default-read_categories-clause-said c =
    let w = two c.if-text-gt-MAPPING_LONGEST.false (sym c.next_field.ensures ∙ c.in-Part.is) (sym c.next_field-2.ensures ∙ c.in-Part-next_field.is) in
    sym
    (said-set w (sym c.well_formed-2.ensures ∙ c.if-not-well_formed.false) (sym c.read_number.ensures ∙ c.in-Some.is) (sym c.is_mapping_level.ensures ∙ c.if-not-is_mapping_level.false)
    (sym c.read_categories.ensures ∙ c.in_default-read_categories.is))

pub returns-clause-said : goal.returns-clause-said
returns-clause-said c =
    let w = two c.if-text-gt-MAPPING_LONGEST.false (sym c.next_field.ensures ∙ c.in-Part.is) (sym c.next_field-2.ensures ∙ c.in-Part-next_field.is) in
    sym
    (said-set w (sym c.well_formed-2.ensures ∙ c.if-not-well_formed.false) (sym c.read_number.ensures ∙ c.in-Some.is) (sym c.is_mapping_level.ensures ∙ c.if-not-is_mapping_level.false)
    (sym c.read_categories.ensures ∙ c.in-Some-read_categories.is))

pub returns-clause-line_inside : goal.returns-clause-line_inside
returns-clause-line_inside c =
    let w = two c.if-text-gt-MAPPING_LONGEST.false (sym c.next_field.ensures ∙ c.in-Part.is) (sym c.next_field-2.ensures ∙ c.in-Part-next_field.is) in
    let f = in_one w.label in
    (f.starts, f.ends, label-fits w (sym c.well_formed-2.ensures ∙ c.if-not-well_formed.false))

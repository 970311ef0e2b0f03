-- By the tests in their order.
use Rattle.std.proofs.Common.{sym, ap, ◌∙◌, length-drop, arith}
use Rattle.set_bytes.specs.SetBytes.{only_categories}
use Rattle.cipso_option.specs.Within.{said_of}
use Rattle.cipso_option.proofs.Laws.{option_sized, rest-whole}
use Rattle.cipso_option.proofs.said_by.Goals as goal

pub returns-then-not-is_option : goal.returns-then-not-is_option
unfolding said_of
returns-then-not-is_option c = rw (sym c.is_option.ensures ∙ c.if-not-is_option.true)

pub is_ours-requires : goal.is_ours-requires
is_ours-requires c = (option_sized c.args.option.now (sym c.is_option.ensures ∙ c.if-not-is_option.false)).0

pub returns-then-not-is_ours : goal.returns-then-not-is_ours
unfolding said_of
returns-then-not-is_ours c =
    rw (sym c.is_option.ensures ∙ c.if-not-is_option.false, sym c.is_ours.ensures ∙ c.if-not-is_ours.true)

pub slice_bounds-bitmap-count : goal.slice_bounds-bitmap-count
slice_bounds-bitmap-count c = (option_sized c.args.option.now (sym c.is_option.ensures ∙ c.if-not-is_option.false)).0

pub slice_bounds-bitmap-start : goal.slice_bounds-bitmap-start
slice_bounds-bitmap-start c = omega (arith, option_sized c.args.option.now (sym c.is_option.ensures ∙ c.if-not-is_option.false))

pub only_categories-requires : goal.only_categories-requires
only_categories-requires c =
    let o = c.args.option.now in
    rw (rest-whole o) (omega (arith, length-drop 10 o, option_sized o (sym c.is_option.ensures ∙ c.if-not-is_option.false)))

pub returns-then-not-only_categories : goal.returns-then-not-only_categories
unfolding said_of
returns-then-not-only_categories c =
    let o = c.args.option.now in
    rw (sym c.is_option.ensures ∙ c.if-not-is_option.false, sym c.is_ours.ensures ∙ c.if-not-is_ours.false, ap only_categories (sym (rest-whole o)) ∙ sym c.only_categories.ensures ∙ c.if-not-only_categories.true)

pub bounds-option-9 : goal.bounds-option-9
bounds-option-9 c = omega (arith, option_sized c.args.option.now (sym c.is_option.ensures ∙ c.if-not-is_option.false))

pub returns : goal.returns
unfolding said_of
returns c =
    let o = c.args.option.now in
    rw (sym c.is_option.ensures ∙ c.if-not-is_option.false, sym c.is_ours.ensures ∙ c.if-not-is_ours.false, ap only_categories (sym (rest-whole o)) ∙ sym c.only_categories.ensures ∙ c.if-not-only_categories.false, c.set_of_bitmap.ensures, rest-whole o)

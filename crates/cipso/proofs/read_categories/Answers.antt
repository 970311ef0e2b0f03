-- One category more.
use Rattle.std.proofs.Common.{drop, sym, ap, ◌∙◌, arith}
use Rattle.alphabet.specs.Alphabet.{fields}
use Rattle.alphabet.proofs.Laws.{field-some, field-none}
use Rattle.numbers.specs.declared.CategorySet.{CategorySet}
use Rattle.cipso.proofs.Laws.{categories_from, categories_start, categories-none, categories-unread, categories-low, categories-high, categories-more}
use Rattle.cipso.proofs.read_categories.Goals as goal

pub loop-start-init : goal.loop-start-init
loop-start-init c = categories_start _

pub returns-in_default : goal.returns-in_default
returns-in_default c = sym (c.loop-start.invariant ∙ categories-none c.loop-start.set (field-none _ _ (sym c.next_field.ensures ∙ c.in_default.is)))

pub slice_bounds-read_number-count : goal.slice_bounds-read_number-count
slice_bounds-read_number-count c = let f = field-some _ _ _ _ (sym c.next_field.ensures ∙ c.in-Part.is) in omega (arith, f.starts)

pub slice_bounds-read_number-start : goal.slice_bounds-read_number-start
slice_bounds-read_number-start c = let f = field-some _ _ _ _ (sym c.next_field.ensures ∙ c.in-Part.is) in omega (arith, f.starts, f.ends)

pub slice_bounds-read_number-end : goal.slice_bounds-read_number-end
slice_bounds-read_number-end c = let f = field-some _ _ _ _ (sym c.next_field.ensures ∙ c.in-Part.is) in f.ends

pub returns-in_err-n : goal.returns-in_err-n
returns-in_err-n c =
    let f = field-some _ _ _ _ (sym c.next_field.ensures ∙ c.in-Part.is) in
    c.from_residual.ensures ∙ sym (c.loop-start.invariant ∙ categories-unread c.loop-start.set _ _ f.first_of (sym c.read_number.ensures ∙ c.in_err-n.was))

pub returns-then-n-lt1 : goal.returns-then-n-lt1
returns-then-n-lt1 c =
    let f = field-some _ _ _ _ (sym c.next_field.ensures ∙ c.in-Part.is) in
    sym (c.loop-start.invariant ∙ categories-low c.loop-start.set _ _ f.first_of _ (sym c.read_number.ensures ∙ c.in_ok-n.was) c.if-n-lt1.true)

pub returns-then-n-gt-CATEGORY_LIMIT : goal.returns-then-n-gt-CATEGORY_LIMIT
returns-then-n-gt-CATEGORY_LIMIT c =
    let f = field-some _ _ _ _ (sym c.next_field.ensures ∙ c.in-Part.is) in
    sym (c.loop-start.invariant ∙ categories-high c.loop-start.set _ _ f.first_of _ (sym c.read_number.ensures ∙ c.in_ok-n.was) (omega arith))

pub loop-start-smaller : goal.loop-start-smaller
loop-start-smaller c = let f = field-some _ _ _ _ (sym c.next_field.ensures ∙ c.in-Part.is) in omega (arith, f.after, f.starts, f.ends)

pub loop-start-preserved : goal.loop-start-preserved
loop-start-preserved c =
    let f = field-some _ _ _ _ (sym c.next_field.ensures ∙ c.in-Part.is) in
    c.loop-start.invariant
    ∙ categories-more c.loop-start.set _ _ f.first_of _ (sym c.read_number.ensures ∙ c.in_ok-n.was) (omega arith, omega arith)
    ∙ ap (λ (s : CategorySet). categories_from s (fields (drop c.in-Part.end c.args.text.now))) (sym c.with_category-set.ensures)

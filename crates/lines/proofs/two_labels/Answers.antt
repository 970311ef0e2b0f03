-- Each answer is that of the definition, by the tests that led to it.
use Rattle.std.proofs.Common.{sym, ◌∙◌}
use Rattle.lines.proofs.Answers.{too_long_lem, no_field, only_one, two_fields}
use Rattle.lines.proofs.two_labels.Goals as goal

pub returns-then-line-gt-LINE_LIMIT : goal.returns-then-line-gt-LINE_LIMIT
returns-then-line-gt-LINE_LIMIT c = too_long_lem c.args.line.now c.if-line-gt-LINE_LIMIT.true

pub returns-in_default : goal.returns-in_default
returns-in_default c = no_field c.args.line.now c.if-line-gt-LINE_LIMIT.false (sym c.next_label_field.ensures ∙ c.in_default.is)

pub returns-in_default-next_label_field : goal.returns-in_default-next_label_field
returns-in_default-next_label_field c = only_one c.args.line.now c.if-line-gt-LINE_LIMIT.false (sym c.in-Part.ensures) (sym c.next_label_field-2.ensures ∙ c.in_default-next_label_field.is)

pub returns : goal.returns
returns c = two_fields c.args.line.now c.if-line-gt-LINE_LIMIT.false (sym c.in-Part.ensures) (sym c.in-Part-next_label_field.ensures)

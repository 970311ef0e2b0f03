-- `program::question_line`: each answer is the definition's, by the fields that were read. Assumes nothing.
use Rattle.std.proofs.Common.{sym, ◌∙◌, arith}
use Rattle.alphabet.proofs.Laws.{field-some}
use Rattle.store.specs.LentWithin.{lent}
use Rattle.access.specs.Access.{question_of}
use Rattle.program.proofs.Questions.{asks_none, asks-one, asks_two, asks-three, asks-four, asks-five}
use Rattle.program.proofs.question_line.Goals as goal

pub returns-in_default : goal.returns-in_default
returns-in_default c = asks_none (question_of (lent c.args.state)) c.args.line.now (sym c.next_field.ensures ∙ c.in_default.is)

pub returns-in_default-next_field : goal.returns-in_default-next_field
returns-in_default-next_field c = asks-one (question_of (lent c.args.state)) c.args.line.now (sym c.in-Part.ensures) (sym c.next_field-2.ensures ∙ c.in_default-next_field.is)

pub returns-in_default-next_field-2 : goal.returns-in_default-next_field-2
returns-in_default-next_field-2 c = asks_two (question_of (lent c.args.state)) c.args.line.now (sym c.in-Part.ensures) (sym c.in-Part-next_field.ensures) (sym c.next_field-3.ensures ∙ c.in_default-next_field-2.is)

pub slice_bounds-question-count : goal.slice_bounds-question-count
slice_bounds-question-count c = omega (arith, (field-some _ _ _ _ (sym c.in-Part.ensures)).starts)

pub slice_bounds-question-start : goal.slice_bounds-question-start
slice_bounds-question-start c = omega (arith, (field-some _ _ _ _ (sym c.in-Part.ensures)).starts)

pub slice_bounds-question-end : goal.slice_bounds-question-end
slice_bounds-question-end c = (field-some _ _ _ _ (sym c.in-Part.ensures)).ends

pub slice_bounds-question-count-in_default-next_field-3 : goal.slice_bounds-question-count-in_default-next_field-3
slice_bounds-question-count-in_default-next_field-3 c = omega (arith, (field-some _ _ _ _ (sym c.in-Part-next_field.ensures)).starts)

pub slice_bounds-question-start-in_default-next_field-3 : goal.slice_bounds-question-start-in_default-next_field-3
slice_bounds-question-start-in_default-next_field-3 c = omega (arith, (field-some _ _ _ _ (sym c.in-Part-next_field.ensures)).starts)

pub slice_bounds-question-end-in_default-next_field-3 : goal.slice_bounds-question-end-in_default-next_field-3
slice_bounds-question-end-in_default-next_field-3 c = (field-some _ _ _ _ (sym c.in-Part-next_field.ensures)).ends

pub slice_bounds-question-count-in_default-next_field-3-2 : goal.slice_bounds-question-count-in_default-next_field-3-2
slice_bounds-question-count-in_default-next_field-3-2 c = omega (arith, (field-some _ _ _ _ (sym c.in-Part-next_field-2.ensures)).starts)

pub slice_bounds-question-start-in_default-next_field-3-2 : goal.slice_bounds-question-start-in_default-next_field-3-2
slice_bounds-question-start-in_default-next_field-3-2 c = omega (arith, (field-some _ _ _ _ (sym c.in-Part-next_field-2.ensures)).starts)

pub slice_bounds-question-end-in_default-next_field-3-2 : goal.slice_bounds-question-end-in_default-next_field-3-2
slice_bounds-question-end-in_default-next_field-3-2 c = (field-some _ _ _ _ (sym c.in-Part-next_field-2.ensures)).ends

pub slice_bounds-question-count-then-same_bytes : goal.slice_bounds-question-count-then-same_bytes
slice_bounds-question-count-then-same_bytes c = omega (arith, (field-some _ _ _ _ (sym c.in-Part.ensures)).starts)

pub slice_bounds-question-start-then-same_bytes : goal.slice_bounds-question-start-then-same_bytes
slice_bounds-question-start-then-same_bytes c = omega (arith, (field-some _ _ _ _ (sym c.in-Part.ensures)).starts)

pub slice_bounds-question-end-then-same_bytes : goal.slice_bounds-question-end-then-same_bytes
slice_bounds-question-end-then-same_bytes c = (field-some _ _ _ _ (sym c.in-Part.ensures)).ends

pub slice_bounds-question-count-then-same_bytes-2 : goal.slice_bounds-question-count-then-same_bytes-2
slice_bounds-question-count-then-same_bytes-2 c = omega (arith, (field-some _ _ _ _ (sym c.in-Part-next_field.ensures)).starts)

pub slice_bounds-question-start-then-same_bytes-2 : goal.slice_bounds-question-start-then-same_bytes-2
slice_bounds-question-start-then-same_bytes-2 c = omega (arith, (field-some _ _ _ _ (sym c.in-Part-next_field.ensures)).starts)

pub slice_bounds-question-end-then-same_bytes-2 : goal.slice_bounds-question-end-then-same_bytes-2
slice_bounds-question-end-then-same_bytes-2 c = (field-some _ _ _ _ (sym c.in-Part-next_field.ensures)).ends

pub slice_bounds-question-count-then-same_bytes-3 : goal.slice_bounds-question-count-then-same_bytes-3
slice_bounds-question-count-then-same_bytes-3 c = omega (arith, (field-some _ _ _ _ (sym c.in-Part-next_field-2.ensures)).starts)

pub slice_bounds-question-start-then-same_bytes-3 : goal.slice_bounds-question-start-then-same_bytes-3
slice_bounds-question-start-then-same_bytes-3 c = omega (arith, (field-some _ _ _ _ (sym c.in-Part-next_field-2.ensures)).starts)

pub slice_bounds-question-end-then-same_bytes-3 : goal.slice_bounds-question-end-then-same_bytes-3
slice_bounds-question-end-then-same_bytes-3 c = (field-some _ _ _ _ (sym c.in-Part-next_field-2.ensures)).ends

pub returns-in_default-next_field-3 : goal.returns-in_default-next_field-3
returns-in_default-next_field-3 c = c.question.ensures ∙ asks-three (question_of (lent c.args.state)) c.args.line.now (sym c.in-Part.ensures) (sym c.in-Part-next_field.ensures) (sym c.in-Part-next_field-2.ensures) (sym c.next_field-4.ensures ∙ c.in_default-next_field-3.is)

pub returns-in_default-next_field-4 : goal.returns-in_default-next_field-4
returns-in_default-next_field-4 c = asks-five (question_of (lent c.args.state)) c.args.line.now (sym c.in-Part.ensures) (sym c.in-Part-next_field.ensures) (sym c.in-Part-next_field-2.ensures) (sym c.in-Part-next_field-3.ensures) (sym c.next_field-5.ensures ∙ c.in_default-next_field-4.is)

pub slice_bounds-same_bytes-count : goal.slice_bounds-same_bytes-count
slice_bounds-same_bytes-count c = omega (arith, (field-some _ _ _ _ (sym c.in-Part-next_field-3.ensures)).starts)

pub slice_bounds-same_bytes-start : goal.slice_bounds-same_bytes-start
slice_bounds-same_bytes-start c = omega (arith, (field-some _ _ _ _ (sym c.in-Part-next_field-3.ensures)).starts)

pub slice_bounds-same_bytes-end : goal.slice_bounds-same_bytes-end
slice_bounds-same_bytes-end c = (field-some _ _ _ _ (sym c.in-Part-next_field-3.ensures)).ends

pub returns-then-same_bytes : goal.returns-then-same_bytes
returns-then-same_bytes c = c.question-then-same_bytes.ensures ∙ asks-four (question_of (lent c.args.state)) c.args.line.now (sym c.in-Part.ensures) (sym c.in-Part-next_field.ensures) (sym c.in-Part-next_field-2.ensures) (sym c.in-Part-next_field-3.ensures) (sym c.in-End.ensures) (sym c.same_bytes.ensures ∙ c.if-same_bytes.true)

pub returns : goal.returns
returns c = asks-four (question_of (lent c.args.state)) c.args.line.now (sym c.in-Part.ensures) (sym c.in-Part-next_field.ensures) (sym c.in-Part-next_field-2.ensures) (sym c.in-Part-next_field-3.ensures) (sym c.in-End.ensures) (sym c.same_bytes.ensures ∙ c.if-same_bytes.false)

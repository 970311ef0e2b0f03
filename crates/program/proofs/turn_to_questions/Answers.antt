-- `program::turn_to_questions`: the report is written, and then the answers. Assumes nothing.
use Rattle.std.proofs.Common.{◌∙◌, arith}
use Rattle.store.specs.Lent.{lent_mut}
use Rattle.load.proofs.Laws.{ready-is}
use Rattle.program.specs.Steps.{state}
use Rattle.program.proofs.Laws.{over-went, undamaged, at_most, left-size}
use Rattle.program.proofs.turn_to_questions.Goals as goal

pub answer_lines-step-requires : goal.answer_lines-step-requires
answer_lines-step-requires c =
    let a = c.args in
    let begun = state (lent_mut a.state.now) a.line.now a.s in
    let turn = c.end_text.ensures.text_ends in
    let small = c.end_text.ensures.a_line_at_most in
    let told = c.in_ok-ended.was in
    (c.end_text.auto.line ∙ (ready-is _ (undamaged begun turn (omega (arith, c.requires)) small told)).line, omega (arith, at_most begun turn (omega (arith, c.requires)) small told, left-size begun turn (omega (arith, c.requires)) small told, c.requires))

pub returns-clause-turns_over : goal.returns-clause-turns_over
returns-clause-turns_over c =
    let a = c.args in
    over-went (state (lent_mut a.state.now) a.line.now a.s) c.end_text.ensures.text_ends (omega (arith, c.requires)) c.end_text.ensures.a_line_at_most c.in_ok-ended.was a.input.now c.requires (rw c.shared.ensures at c.answer_lines-step.ensures.state) (rw c.shared.ensures at c.answer_lines-step.ensures.says)

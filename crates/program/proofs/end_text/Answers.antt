-- `program::end_text`: it writes the report that the end call answers. Assumes nothing.
use Rattle.store.specs.Lent.{lent_mut}
use Rattle.program.specs.Steps.{state}
use Rattle.program.proofs.Laws.{text-damaged, text_went}
use Rattle.program.proofs.end_text.Goals as goal

pub returns-in_default-clause-text_ends : goal.returns-in_default-clause-text_ends
returns-in_default-clause-text_ends c =
    let a = c.args in
    text-damaged (state (lent_mut a.state.now) a.line.now a.s) c.unmarked-last.ensures c.end.ensures.value c.end.ensures.loaded a.out.now c.in_default.is c.requires

pub returns-clause-text_ends : goal.returns-clause-text_ends
returns-clause-text_ends c =
    let a = c.args in
    text_went (state (lent_mut a.state.now) a.line.now a.s) c.unmarked-last.ensures c.end.ensures.value c.end.ensures.loaded c.in-Ok.is c.requires c.write_report-at.ensures

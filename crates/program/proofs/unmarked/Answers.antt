-- `program::unmarked`: the line `?` is forgotten. Assumes nothing.
use Rattle.std.proofs.Common.{sym, ◌∙◌}
use Rattle.program.proofs.Laws.{unmarked_yes, unmarked_no}
use Rattle.program.proofs.unmarked.Goals as goal

pub returns-then-is_mark : goal.returns-then-is_mark
returns-then-is_mark c = c.keep.ensures ∙ unmarked_yes _ _ (sym c.is_mark.ensures ∙ c.if-is_mark.true)

pub returns : goal.returns
returns c = unmarked_no _ _ (sym c.is_mark.ensures ∙ c.if-is_mark.false)

-- By what `can_be_sought` answered, and by the best.
use Rattle.std.proofs.Common.{sym, ap, ◌∙◌, Ok}
use Rattle.run.proofs.Laws.{settled_refused, settled_said}
use Rattle.run.proofs.settled.Goals as goal

pub returns-then-not-can_be_sought : goal.returns-then-not-can_be_sought
returns-then-not-can_be_sought c = sym (settled_refused _ _ _ (sym c.can_be_sought.ensures ∙ c.if-not-can_be_sought.true))

pub returns-in-Some : goal.returns-in-Some
returns-in-Some c = sym (settled_said _ _ _ (sym c.can_be_sought.ensures ∙ c.if-not-can_be_sought.false) ∙ ap Ok c.in-Some.is)

pub returns-in-None : goal.returns-in-None
returns-in-None c = sym (settled_said _ _ _ (sym c.can_be_sought.ensures ∙ c.if-not-can_be_sought.false) ∙ ap Ok c.in-None.is)

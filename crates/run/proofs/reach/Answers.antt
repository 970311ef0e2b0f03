-- By what `can_be_sought` answered.
use Rattle.std.proofs.Common.{sym, ◌∙◌}
use Rattle.run.proofs.Laws.{searched-none, searched-all}
use Rattle.run.proofs.reach.Goals as goal

pub returns-then-can_be_sought : goal.returns-then-can_be_sought
returns-then-can_be_sought c = sym (searched-all _ _ _ (sym c.can_be_sought.ensures ∙ c.if-can_be_sought.true))

pub returns-else-can_be_sought : goal.returns-else-can_be_sought
returns-else-can_be_sought c = sym (searched-none _ _ _ (sym c.can_be_sought.ensures ∙ c.if-can_be_sought.false))

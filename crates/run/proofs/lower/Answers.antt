-- The definition's tests in their order.
use Rattle.std.proofs.Common.{sym, ◌∙◌}
use borrow.Author.Tests.{eq-eqb, ne_eqb, lt-ltb, le-ltb}
use Rattle.run.specs.Run.{lower_of}
use Rattle.run.proofs.lower.Goals as goal

pub returns-then-entry-level : goal.returns-then-entry-level
unfolding lower_of
returns-then-entry-level c = rw (ne_eqb _ _ c.if-entry-level.true)

pub returns-then-not-same_set : goal.returns-then-not-same_set
unfolding lower_of
returns-then-not-same_set c = rw (eq-eqb _ _ c.if-entry-level.false, sym c.same_set.ensures ∙ c.if-not-same_set.true)

pub returns-then-entry-n : goal.returns-then-entry-n
unfolding lower_of
returns-then-entry-n c = rw (eq-eqb _ _ c.if-entry-level.false, sym c.same_set.ensures ∙ c.if-not-same_set.false, c.in-Some.is, lt-ltb _ _ c.if-entry-n.true)

pub returns-else-entry-n : goal.returns-else-entry-n
unfolding lower_of
returns-else-entry-n c = rw (eq-eqb _ _ c.if-entry-level.false, sym c.same_set.ensures ∙ c.if-not-same_set.false, c.in-Some.is, le-ltb _ _ c.if-entry-n.false)

pub returns-in-None : goal.returns-in-None
unfolding lower_of
returns-in-None c = rw (eq-eqb _ _ c.if-entry-level.false, sym c.same_set.ensures ∙ c.if-not-same_set.false, c.in-None.is)

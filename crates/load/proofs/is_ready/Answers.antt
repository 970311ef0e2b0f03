-- The definition's tests are made in their order.
use Rattle.std.proofs.Common.{sym, ◌∙◌}
use borrow.Author.Tests.{eq-eqb, ne_eqb}
use Rattle.load.specs.Loader.{ready}
use Rattle.load.proofs.is_ready.Goals as goal

pub returns-then-not-undamaged : goal.returns-then-not-undamaged
unfolding ready
returns-then-not-undamaged c = rw (sym c.undamaged.ensures ∙ c.if-not-undamaged.true)

pub returns-then-line-ne-LINE_LIMIT : goal.returns-then-line-ne-LINE_LIMIT
unfolding ready
returns-then-line-ne-LINE_LIMIT c = rw (sym c.undamaged.ensures ∙ c.if-not-undamaged.false, ne_eqb _ _ c.if-line-ne-LINE_LIMIT.true)

pub returns : goal.returns
unfolding ready
returns c = rw (sym c.undamaged.ensures ∙ c.if-not-undamaged.false, eq-eqb _ _ c.if-line-ne-LINE_LIMIT.false)

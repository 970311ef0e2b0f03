-- The definition's tests in their order.
use Rattle.std.proofs.Common.{arith}
use borrow.Author.Tests.{le-leb}
use Rattle.lookups.specs.Lookups.{sought}
use Rattle.lookups.proofs.can_be_sought.Goals as goal

pub returns : goal.returns
unfolding sought
returns c = rw (le-leb c.args.level 255 (omega arith)) c.known_set.ensures

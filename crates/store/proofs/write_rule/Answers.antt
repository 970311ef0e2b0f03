-- Three numbers are stored, each in its own run.
use Rattle.std.proofs.Common.{refl}
use Rattle.store.specs.Within.{with_rule}
use Rattle.store.proofs.write_rule.Goals as goal

pub returns : goal.returns
unfolding with_rule
returns c = refl

-- Each word takes the lowest bit of the one before.
use Rattle.std.proofs.Common.{refl}
use Rattle.set_bytes.specs.Within.{halved}
use Rattle.set_bytes.proofs.halve.Goals as goal

pub returns : goal.returns
unfolding halved
returns c = refl

-- The claim is a theorem on the definition.
use Rattle.load.proofs.Laws.{what_ready-is}
use Rattle.load.proofs.what_ready_is.Goals as goal

pub returns : goal.returns
returns c = what_ready-is

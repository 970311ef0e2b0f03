-- An accepted change sets its pair there.
--
use Rattle.grown.proofs.Pairs.{change-sets}
use Rattle.grown.proofs.accepted_change_sets_its_pair.Goals as goal

pub returns : goal.returns
returns c = λ t t' text s o a d g. change-sets t t' text s o a d g

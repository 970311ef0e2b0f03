-- An accepted line sets its pair there.
use Rattle.grown.proofs.Pairs.{line_sets}
use Rattle.grown.proofs.accepted_line_sets_its_pair.Goals as goal

pub returns : goal.returns
returns c = λ t t' line s o m g. line_sets t t' line s o m g

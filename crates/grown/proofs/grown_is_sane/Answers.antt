-- By the kind of the last write.
use Rattle.grown.proofs.Growing.{grown-sane}
use Rattle.grown.proofs.grown_is_sane.Goals as goal

pub returns : goal.returns
returns c = λ t g. grown-sane g

-- With room the triple is accepted.
use Rattle.grown.proofs.Pairs.{triple_sets}
use Rattle.grown.proofs.demand_2_triple_sets_its_pair.Goals as goal

pub returns : goal.returns
returns c = λ t line s o m g. triple_sets t line s o m g

-- A grown table is sane, and its listing is read rule by rule.
use Rattle.grown.proofs.Growing.{grown-sane}
use Rattle.grown.proofs.Relisted.{loads_back}
use Rattle.grown.proofs.demand_2_listing_loads_back.Goals as goal

pub returns : goal.returns
returns c = λ t g. loads_back t (grown-sane g)

-- Which is the theorem.
use Rattle.grown.proofs.ByNumber.{by_number}
use Rattle.grown.proofs.demand_2_listed_by_number_loads_back.Goals as goal

pub returns : goal.returns
returns c = by_number

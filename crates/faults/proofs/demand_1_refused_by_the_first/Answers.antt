-- The theorem.
use Rattle.faults.proofs.Faults.{first_in_order}
use Rattle.faults.proofs.demand_1_refused_by_the_first.Goals as goal

pub returns : goal.returns
returns c = first_in_order

-- A refusal changes nothing, call by call.
use Rattle.claims.proofs.Refusals.{nothing_changes}
use Rattle.claims.proofs.demand_1_refusals_change_nothing.Goals as goal

pub returns : goal.returns
returns c = nothing_changes

-- The answer is what the first rule that applies says, and each rule says its own number.
use Rattle.grown.proofs.Order.{by_first}
use Rattle.grown.proofs.demand_2_first_rule_decides.Goals as goal

pub returns : goal.returns
returns c = by_first

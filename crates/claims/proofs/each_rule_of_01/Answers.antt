-- Which is the theorem.
use Rattle.claims.proofs.EachRule.{each-rule}
use Rattle.claims.proofs.each_rule_of_01.Goals as goal

pub returns : goal.returns
returns c = each-rule

-- The tests of a line, in their order.
use Rattle.grown.proofs.Pairs.{triple_rule, rule_triple}
use Rattle.grown.proofs.triple_is_a_rule_line.Goals as goal

pub returns : goal.returns
returns c = λ line s o m. (rule_triple line s o m, triple_rule)

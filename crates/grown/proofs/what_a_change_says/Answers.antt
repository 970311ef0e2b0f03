-- The tests of a change write, in their order.
use Rattle.grown.proofs.Pairs.{change-text, text-change}
use Rattle.grown.proofs.what_a_change_says.Goals as goal

pub returns : goal.returns
returns c = λ text s o allow deny. (change-text text s o allow deny, text-change)

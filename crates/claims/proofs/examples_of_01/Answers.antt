-- Which is the theorem.
use Rattle.claims.proofs.Examples.{examples_of_01}
use Rattle.claims.proofs.examples_of_01.Goals as goal

pub returns : goal.returns
returns c = examples_of_01

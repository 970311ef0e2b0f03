-- Which is the theorem.
use Rattle.claims.proofs.Examples.{examples_of_02}
use Rattle.claims.proofs.examples_of_02.Goals as goal

pub returns : goal.returns
returns c = examples_of_02

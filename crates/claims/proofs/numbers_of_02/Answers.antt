-- Which is the theorem.
use Rattle.claims.proofs.Numbers.{numbers_of_02}
use Rattle.claims.proofs.numbers_of_02.Goals as goal

pub returns : goal.returns
returns c = numbers_of_02

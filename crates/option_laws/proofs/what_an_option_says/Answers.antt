-- The theorem.
use Rattle.option_laws.proofs.Says.{option_says}
use Rattle.option_laws.proofs.what_an_option_says.Goals as goal

pub returns : goal.returns
returns c = option_says

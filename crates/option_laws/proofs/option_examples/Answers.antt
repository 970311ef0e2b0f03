-- The theorem.
use Rattle.option_laws.proofs.Example.{option_examples}
use Rattle.option_laws.proofs.option_examples.Goals as goal

pub returns : goal.returns
returns c = option_examples

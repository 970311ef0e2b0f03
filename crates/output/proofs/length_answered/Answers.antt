-- The claim: see Laws.
use Rattle.output.proofs.Laws.{length-answered}
use Rattle.output.proofs.length_answered.Goals as goal

pub returns : goal.returns
returns c = length-answered

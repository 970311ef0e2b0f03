-- The theorem.
use Rattle.option_laws.proofs.ReadsBack.{reads_back}
use Rattle.option_laws.proofs.option_reads_back.Goals as goal

pub returns : goal.returns
returns c = reads_back

-- The theorem.
use Rattle.faults.proofs.Lengths.{refused_for_length}
use Rattle.faults.proofs.refused_for_its_length.Goals as goal

pub returns : goal.returns
returns c = refused_for_length

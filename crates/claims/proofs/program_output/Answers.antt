-- What the program writes is proved in proofs/Program, out of the contracts of its calls.
use Rattle.claims.proofs.Program.{program-output}
use Rattle.claims.proofs.program_output.Goals as goal

pub returns : goal.returns
returns c = program-output

-- The theorem.
use Rattle.effects.proofs.OldFiles.{as_before}
use Rattle.effects.proofs.old_files_load_as_before.Goals as goal

pub returns : goal.returns
returns c = as_before

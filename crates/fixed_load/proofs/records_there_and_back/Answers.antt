-- The claim.
use Rattle.fixed_load.proofs.Back.{old_records}
use Rattle.fixed_load.proofs.records_there_and_back.Goals as goal

pub returns : goal.returns
returns c = old_records

-- The theorem: an accepted mapping is what its label's look-up finds.
use Rattle.effects.proofs.Mapped.{mapping-maps}
use Rattle.effects.proofs.accepted_mapping_is_found.Goals as goal

pub returns : goal.returns
returns c = mapping-maps

-- The theorem: a mapping write by its fields.
use Rattle.effects.proofs.MappingText.{mapping-says}
use Rattle.effects.proofs.what_a_mapping_write_says.Goals as goal

pub returns : goal.returns
returns c = mapping-says

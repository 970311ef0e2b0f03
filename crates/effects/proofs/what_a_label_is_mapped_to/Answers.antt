-- The theorem: the look-up by label finds the label's mapping.
use Rattle.effects.proofs.LabelsMapping.{looked_up_lem}
use Rattle.effects.proofs.what_a_label_is_mapped_to.Goals as goal

pub returns : goal.returns
returns c = looked_up_lem

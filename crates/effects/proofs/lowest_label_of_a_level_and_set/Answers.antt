-- The theorem.
use Rattle.effects.proofs.Lowest.{lowest}
use Rattle.effects.proofs.lowest_label_of_a_level_and_set.Goals as goal

pub returns : goal.returns
returns c = lowest

-- The theorem: an accepted override list says who overrides.
use Rattle.effects.proofs.Listed.{list_sets}
use Rattle.effects.proofs.accepted_list_is_who_overrides.Goals as goal

pub returns : goal.returns
returns c = list_sets

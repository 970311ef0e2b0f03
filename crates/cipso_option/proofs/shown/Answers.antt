-- The label in front of 255 bytes of 0.
use Rattle.search.specs.Search.{entries}
use Rattle.cipso_option.proofs.shown.Goals as goal

pub returns : goal.returns
unfolding entries
returns c = rw c.copy_at.ensures

-- The refusal's number, and 255 bytes of 0.
use Rattle.search.specs.Search.{entries}
use Rattle.cipso_option.proofs.refused.Goals as goal

pub returns : goal.returns
unfolding entries
returns c = rw c.number.ensures

-- The definition's test, clause by clause, is what 01 and 02 say.
use Rattle.damage.proofs.PlaceByPlace.{what_undamaged-is}
use Rattle.damage.proofs.what_undamaged_is.Goals as goal

pub returns : goal.returns
returns c = what_undamaged-is

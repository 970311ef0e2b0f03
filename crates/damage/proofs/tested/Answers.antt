-- An undamaged state has the sizes and the counts.
use Rattle.store.proofs.Laws.{undamaged-is}
use Rattle.damage.proofs.tested.Goals as goal

pub invariant_of-result : goal.invariant_of-result
invariant_of-result c = let u = undamaged-is _ c.in_ok-check.ensures.ok in record { sizes = u.sizes; counts = u.counts }

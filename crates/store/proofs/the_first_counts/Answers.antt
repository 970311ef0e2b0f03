-- One law of searches serves all three.
use Rattle.store.proofs.FirstCounts.{first-counts}
use Rattle.store.proofs.the_first_counts.Goals as goal

pub returns : goal.returns
returns c = first-counts

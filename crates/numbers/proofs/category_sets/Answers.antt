-- A set is told by its categories, and made of them.
use Rattle.numbers.proofs.Sets.{category_sets}
use Rattle.numbers.proofs.category_sets.Goals as goal

pub returns : goal.returns
returns c = category_sets

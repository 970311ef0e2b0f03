-- The claim: see Laws.
use Rattle.set_bytes.proofs.Laws.{bits_and_categories}
use Rattle.set_bytes.proofs.bits_and_categories.Goals as goal

pub returns : goal.returns
returns c = bits_and_categories

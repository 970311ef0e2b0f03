-- Its four bytes as one number.
use Rattle.search.specs.Within.{word_at}
use Rattle.search.proofs.word_at.Goals as goal

pub returns : goal.returns
unfolding word_at
returns c = c.from_le_bytes.ensures

-- Each of the four words is that of its string.
use Rattle.search.specs.Within.{words_differ}
use Rattle.search.proofs.words_differ.Goals as goal

pub returns : goal.returns
unfolding words_differ
returns c = rw (c.word_at.ensures, c.word_at-2.ensures, c.word_at-3.ensures, c.word_at-4.ensures)

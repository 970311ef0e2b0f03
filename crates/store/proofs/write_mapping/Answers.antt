-- Two numbers and three words are stored, each in its own run.
use Rattle.std.proofs.Common.{refl}
use Rattle.store.specs.Within.{with_numbers, with_words}
use Rattle.store.proofs.write_mapping.Goals as goal

pub returns-clause-entries_after : goal.returns-clause-entries_after
unfolding with_numbers
returns-clause-entries_after c = refl

pub returns-clause-words_after : goal.returns-clause-words_after
unfolding with_words
returns-clause-words_after c = refl

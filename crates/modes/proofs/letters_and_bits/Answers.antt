-- The letters and their bits are those of 01 and 02.
use Rattle.modes.proofs.Laws.{letters_and_bits}
use Rattle.modes.proofs.letters_and_bits.Goals as goal

pub returns : goal.returns
returns c = letters_and_bits

-- The definition's place is the one that 02 says.
use Rattle.alphabet.proofs.Places.{first_bad_byte}
use Rattle.alphabet.proofs.first_bad_byte.Goals as goal

pub returns : goal.returns
returns c = first_bad_byte

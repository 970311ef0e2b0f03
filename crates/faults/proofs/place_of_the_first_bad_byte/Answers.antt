-- The theorem.
use Rattle.faults.proofs.Places.{place_of_the_first_bad_byte}
use Rattle.faults.proofs.place_of_the_first_bad_byte.Goals as goal

pub returns : goal.returns
returns c = place_of_the_first_bad_byte

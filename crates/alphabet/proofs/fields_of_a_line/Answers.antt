-- The definition's fields are those of 01.
use Rattle.alphabet.proofs.Cut.{fields_of_a_line}
use Rattle.alphabet.proofs.fields_of_a_line.Goals as goal

pub returns : goal.returns
returns c = fields_of_a_line

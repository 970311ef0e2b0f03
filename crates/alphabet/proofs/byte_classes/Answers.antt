-- The definition's classes are those of 01.
use Rattle.alphabet.proofs.Laws.{byte_class}
use Rattle.alphabet.proofs.byte_classes.Goals as goal

pub returns : goal.returns
returns c = λ b h. byte_class b

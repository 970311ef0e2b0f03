-- The classes of the bytes and the bits of the letters, each by its law.
use Rattle.alphabet.proofs.Laws.{byte_class, label_form}
use Rattle.modes.proofs.Laws.{letters_and_bits}
use Rattle.claims.proofs.bytes_and_letters.Goals as goal

pub returns-clause-byte_classes : goal.returns-clause-byte_classes
returns-clause-byte_classes c = λ b h. byte_class b

pub returns-clause-label_form : goal.returns-clause-label_form
returns-clause-label_form c = label_form

pub returns-clause-letters_and_bits : goal.returns-clause-letters_and_bits
returns-clause-letters_and_bits c = letters_and_bits

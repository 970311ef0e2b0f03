-- The code's table, computed entry by entry, is the list of the classes of 0 to 255.
use Rattle.std.proofs.Common.{refl}
use Rattle.search.specs.Search.{entries}
use Rattle.alphabet.specs.Alphabet.{is_blank, label_byte, class_of}
use Rattle.alphabet.specs.Within.{class_table}
use Rattle.alphabet.proofs.Laws.{table-says}
use Rattle.alphabet.proofs.classes.Goals as goal

pub returns-clause-value : goal.returns-clause-value
unfolding class_table class_of entries is_blank label_byte
returns-clause-value c = refl

pub returns-clause-byte_classes : goal.returns-clause-byte_classes
unfolding class_table class_of entries is_blank label_byte
returns-clause-byte_classes c = (table-says _ refl).1

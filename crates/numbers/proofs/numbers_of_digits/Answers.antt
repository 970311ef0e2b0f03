-- A number is one, two or three digits.
use Rattle.numbers.proofs.Laws.{numbers_of_digits}
use Rattle.numbers.proofs.numbers_of_digits.Goals as goal

pub returns : goal.returns
returns c = numbers_of_digits

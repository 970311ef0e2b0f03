-- What is left of the field is read with the value so far, of which i digits are below 10 ^ i.
use Rattle.std.proofs.Common.{drop, ◌≡◌, ◌^◌, ◌<◌}
use Rattle.numbers.specs.Numbers.{number_of}
use Rattle.numbers.proofs.Laws.{number_from}
use Rattle.numbers.proofs.read_number.Given as goal

abbrev pub invariant-loop-b : goal.invariant-loop-b
invariant-loop-b l = (l.value < 10 ^ l.b-index) × (number_of l.field ≡ number_from l.value (drop l.b-index l.field))

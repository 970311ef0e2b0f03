-- What was passed and the run that is left make up the field, and the joined classes tell of the bytes that were passed.
use Rattle.std.proofs.Common.{◌+◌, ◌≡◌, false, drop}
use lib.Dec.{eqb}
use Rattle.search.specs.Search.{all}
use Rattle.alphabet.specs.Alphabet.{label_byte}
use Rattle.alphabet.specs.Within.{run, part}
use Rattle.alphabet.proofs.next_label_field.Given as goal

abbrev pub invariant-loop-b : goal.invariant-loop-b
invariant-loop-b l =
    (l.end ≡ l.start + l.b-index)
    × (l.start + run false (drop l.start l.line) ≡ l.end + run false (drop l.end l.line))
    × (eqb l.joined 0 ≡ all label_byte (part l.line l.start l.end))

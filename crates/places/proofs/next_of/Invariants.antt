-- No place passed has the word.
use Rattle.places.specs.Within.{NoWord}
use Rattle.places.proofs.next_of.Given as goal

abbrev pub invariant-loop-k : goal.invariant-loop-k
invariant-loop-k g l = NoWord l.labels l.offset l.word l.from l.k

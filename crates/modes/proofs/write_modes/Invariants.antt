-- With i letters passed and n bytes written, what is left to write is the letters from i on.
use Rattle.modes.proofs.Laws.{Wrote}
use Rattle.modes.proofs.write_modes.Given as goal

abbrev pub invariant-loop-entry : goal.invariant-loop-entry
invariant-loop-entry l = Wrote l.fn.out l.at l.modes l.out l.n l.entry-index

-- Of the rules passed, those with the subject are counted and their modes cleared.
use Rattle.revoke.proofs.Laws.{Clearing}
use Rattle.revoke.proofs.clear.Given as goal

abbrev pub invariant-loop-i : goal.invariant-loop-i
invariant-loop-i l = Clearing l.fn.entries l.subject l.entries l.n l.i

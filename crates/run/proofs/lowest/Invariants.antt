-- The best so far with the records that are left makes the best of the run.
use Rattle.run.proofs.Laws.{Left}
use Rattle.run.proofs.lowest.Given as goal

abbrev pub invariant-loop-record : goal.invariant-loop-record
invariant-loop-record l = Left l.run l.level l.set l.best l.record-index

-- The best so far with the records that are left makes the best of all.
use Rattle.std.proofs.Common.{◌≤◌}
use Rattle.run.specs.Run.{records_of}
use Rattle.run.proofs.Laws.{Left}
use Rattle.run.proofs.lowest_of.Given as goal

abbrev pub invariant-loop-i : goal.invariant-loop-i
invariant-loop-i l = (l.count ≤ l.all) × Left (records_of l.labels l.levels l.sets) l.level l.set l.best l.i

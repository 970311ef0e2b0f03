-- Of the bytes read so far the first `count` are no spaces, and the others are.
use Rattle.fixed_load.proofs.Laws.{Scanned}
use Rattle.fixed_load.proofs.label_length.Given as goal

abbrev pub invariant-loop-i : goal.invariant-loop-i
invariant-loop-i l = Scanned l.place l.count l.i

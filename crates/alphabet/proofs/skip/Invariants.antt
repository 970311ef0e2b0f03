-- What was passed and the run that is left make up the whole run.
use Rattle.std.proofs.Common.{◌≡◌, ◌≤◌, ◌+◌, drop, length, max}
use Rattle.alphabet.specs.Within.{run}
use Rattle.alphabet.proofs.skip.Given as goal

abbrev pub invariant-loop-i : goal.invariant-loop-i
invariant-loop-i l = (l.i ≤ max l.from (length l.line)) × (l.from + run l.blanks (drop l.from l.line) ≡ l.i + run l.blanks (drop l.i l.line))

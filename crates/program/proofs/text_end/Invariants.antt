-- At each turn the rest of the input has as many bytes of rule text as the definition counts.
use Rattle.std.proofs.Common.{◌+◌, ◌-◌, ◌≡◌, length, drop}
use Rattle.program.specs.Within.{text_end}
use Rattle.program.proofs.text_end.Given as goal

abbrev pub invariant-loop-i : goal.invariant-loop-i
invariant-loop-i l = text_end l.empty l.marked l.input ≡ l.i + text_end l.none l.lone (drop l.i l.input)

abbrev pub decreases-loop-i : goal.decreases-loop-i
decreases-loop-i l = length l.input - l.i

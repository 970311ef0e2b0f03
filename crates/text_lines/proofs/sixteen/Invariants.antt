-- After i turns `any` tells of the first i of the sixteen bytes.
use Rattle.std.proofs.Common.{◌≡◌, ◌≤◌, ltb, drop}
use Rattle.text_lines.specs.Within.{before_newline}
use Rattle.text_lines.proofs.sixteen.Given as goal

abbrev pub invariant-loop-i : goal.invariant-loop-i
invariant-loop-i l = (l.i ≤ 16) × (l.any ≡ ltb (before_newline (drop l.at l.text)) l.i)

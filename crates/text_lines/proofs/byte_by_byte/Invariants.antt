-- The first newline from `i` on is the one from `from` on.
use Rattle.std.proofs.Common.{◌≡◌, ◌+◌, ◌≤◌, length, drop, max}
use Rattle.text_lines.specs.Within.{before_newline}
use Rattle.text_lines.proofs.byte_by_byte.Given as goal

abbrev pub invariant-loop-i : goal.invariant-loop-i
invariant-loop-i l = (l.i ≤ max l.from (length l.text)) × (l.i + before_newline (drop l.i l.text) ≡ l.from + before_newline (drop l.from l.text))

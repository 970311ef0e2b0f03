-- The first newline from `at` on is the one from `from` on.
use Rattle.std.proofs.Common.{◌≡◌, ◌+◌, ◌≤◌, length, drop}
use Rattle.text_lines.specs.Within.{before_newline}
use Rattle.text_lines.proofs.line_end.Given as goal

abbrev pub invariant-loop : goal.invariant-loop
invariant-loop l = (l.at ≤ length l.text) × (l.at + before_newline (drop l.at l.text) ≡ l.from + before_newline (drop l.from l.text))

-- A last byte that is a newline is taken off.
use Rattle.std.proofs.Common.{◌-◌, length, arith}
use Rattle.fixed_load.proofs.Laws.{closed_none, closed_other, closed_newline}
use Rattle.fixed_load.proofs.without_newline.Goals as goal

pub returns-then-count-eq0 : goal.returns-then-count-eq0
returns-then-count-eq0 c = closed_none c.args.line.now c.if-count-eq0.true

pub returns-then-line-count-ne-NEWLINE : goal.returns-then-line-count-ne-NEWLINE
returns-then-line-count-ne-NEWLINE c = closed_other c.args.line.now c.if-line-count-ne-NEWLINE.true

pub returns : goal.returns
returns c = closed_newline c.args.line.now (length c.args.line.now - 1 - 0) c.if-line-count-ne-NEWLINE.false (omega arith)

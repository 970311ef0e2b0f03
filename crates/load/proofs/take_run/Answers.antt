-- The run joins the kept line, as much of it as there is room for.
use Rattle.std.proofs.Common.{◌-◌, arith}
use Rattle.load.proofs.Laws.{run-kept, run_long, run-over}
use Rattle.load.proofs.take_run.Goals as goal

pub returns-then-kept-gt-LINE_LIMIT : goal.returns-then-kept-gt-LINE_LIMIT
returns-then-kept-gt-LINE_LIMIT c =
    let a = c.args in
    λ st. run_long st a.line.now a.l a.run.now c.requires.1 c.if-kept-gt-LINE_LIMIT.true c.if-n-eq0.false c.keep.ensures

pub returns-then-n-room : goal.returns-then-n-room
returns-then-n-room c =
    let a = c.args in
    λ st. run-kept st a.line.now a.l a.run.now c.requires.0 c.requires.1 (omega (arith, c.if-n-room.true, c.if-kept-gt-LINE_LIMIT.false)) c.copy_at.ensures c.keep-then-n-room.ensures

pub returns : goal.returns
returns c =
    let a = c.args in
    λ st. run-over st a.line.now a.l a.run.now (600 - a.l.kept) c.requires.0 c.requires.1 (omega (arith, c.if-kept-gt-LINE_LIMIT.false)) (omega (arith, c.if-n-room.false)) c.copy_at-2.ensures c.keep-2.ensures

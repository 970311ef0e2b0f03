-- A line that is kept whole is judged by its bytes.
use Rattle.std.proofs.Common.{sym, arith}
use lib.Seq.{length-take-le}
use Rattle.store.specs.Lent.{lent_mut}
use Rattle.load.specs.Loader.{load}
use Rattle.load.proofs.Laws.{ready-is}
use Rattle.load.proofs.end_line.Goals as goal

pub slice_bounds-write_line-end : goal.slice_bounds-write_line-end
slice_bounds-write_line-end c =
    let a = c.args in
    let r = ready-is (load (lent_mut a.state.now) a.line.now a.l) c.requires in
    sym (length-take-le a.l.kept a.line.now (omega (arith, r.line, c.if-kept-gt-LINE_LIMIT.false)))

pub write_line-outcome-requires : goal.write_line-outcome-requires
write_line-outcome-requires c =
    let a = c.args in
    (ready-is (load (lent_mut a.state.now) a.line.now a.l) c.requires).undamaged

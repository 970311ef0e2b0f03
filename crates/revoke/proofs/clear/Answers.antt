-- One rule more.
use Rattle.std.proofs.Common.{◌<◌, arith}
use Rattle.revoke.proofs.Laws.{clearing_none, clearing-yes, clearing-no, clearing_as}
use Rattle.revoke.proofs.clear.Goals as goal
use Rattle.revoke.proofs.clear.Goals.{then-entries-i, else-entries-i}

pub loop-i-init : goal.loop-i-init
loop-i-init c = clearing_none _ _

pub loop-i-preserved : goal.loop-i-preserved
loop-i-preserved c =
    let l = c.loop-i in
    let a = c.args in
    let h : l.i < 512 = omega arith in
    let yes = clearing-yes a.entries.now a.subject l.entries l.n l.i l.invariant h in
    let no = clearing-no a.entries.now a.subject l.entries l.n l.i l.invariant h in
    elim c.if-entries-i.branch [
      | then-entries-i w ↦ clearing_as w.entries-is w.n-is (yes w.if-entries-i.true)
      | else-entries-i w ↦ clearing_as w.entries-is w.n-is (no w.if-entries-i.false)
    ]

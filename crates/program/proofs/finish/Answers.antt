-- `program::finish`: rule text ends, or the last question line is answered. Assumes nothing.
use Rattle.std.proofs.Common.{sym, ◌∙◌, arith}
use Rattle.store.specs.Lent.{lent_mut}
use Rattle.load.proofs.Laws.{ready-is, ready-same}
use Rattle.program.specs.Steps.{state}
use Rattle.program.proofs.Laws.{no_room, damaged, finish-none}
use Rattle.program.proofs.finish.Goals as goal

pub returns-then-out-lt-LINE_ROOM-clause-finishes : goal.returns-then-out-lt-LINE_ROOM-clause-finishes
returns-then-out-lt-LINE_ROOM-clause-finishes c = no_room c.args.out.now c.if-out-lt-LINE_ROOM.true

pub returns-then-not-is_ready-clause-finishes : goal.returns-then-not-is_ready-clause-finishes
returns-then-not-is_ready-clause-finishes c =
    let a = c.args in
    damaged {s = state (lent_mut a.state.now) a.line.now a.s} a.out.now (omega (arith, c.if-out-lt-LINE_ROOM.false)) (ready-same _ _ c.shared-lent.ensures c.is_ready.ensures c.if-not-is_ready.true)

pub returns-then-kept-eq0-clause-finishes : goal.returns-then-kept-eq0-clause-finishes
returns-then-kept-eq0-clause-finishes c =
    let a = c.args in
    finish-none (state (lent_mut a.state.now) a.line.now a.s) c.if-s.false a.out.now (omega (arith, c.if-out-lt-LINE_ROOM.false)) (ready-same _ _ c.shared-lent.ensures c.is_ready.ensures c.if-not-is_ready.false) c.if-kept-eq0.true

pub answer_line-at-requires : goal.answer_line-at-requires
answer_line-at-requires c = ((ready-is _ (sym c.is_ready.ensures ∙ c.if-not-is_ready.false)).line, omega (arith, c.if-out-lt-LINE_ROOM.false))

-- `program::feed`: rule text goes to the loader, and question lines are answered. Assumes nothing.
use Rattle.std.proofs.Common.{sym, ◌∙◌, arith}
use Rattle.store.specs.Lent.{lent_mut}
use Rattle.load.proofs.Laws.{ready-is, ready-same}
use Rattle.program.specs.Steps.{state}
use Rattle.program.proofs.Laws.{no_room, damaged}
use Rattle.program.proofs.feed.Goals as goal

pub returns-then-out-input-clause-feeds : goal.returns-then-out-input-clause-feeds
returns-then-out-input-clause-feeds c = no_room c.args.out.now (omega (arith, c.if-out-input.true))

pub returns-then-not-is_ready-clause-feeds : goal.returns-then-not-is_ready-clause-feeds
returns-then-not-is_ready-clause-feeds c =
    let a = c.args in
    damaged {s = state (lent_mut a.state.now) a.line.now a.s} a.out.now (omega (arith, c.if-out-input.false)) (ready-same _ _ c.shared-lent.ensures c.is_ready.ensures c.if-not-is_ready.true)

pub answer_lines-step-requires : goal.answer_lines-step-requires
answer_lines-step-requires c = ((ready-is _ (sym c.is_ready.ensures ∙ c.if-not-is_ready.false)).line, omega (arith, c.if-out-input.false))

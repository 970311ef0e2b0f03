-- One letter more, where the modes have it.
use Rattle.std.proofs.Common.{arith}
use Rattle.modes.proofs.Laws.{wrote_none, wrote-letter, wrote-other, wrote-all, wrote-dash}
use Rattle.modes.proofs.write_modes.Goals as goal
use Rattle.modes.proofs.write_modes.Goals.{then-modes-entry-ne0, else-modes-entry-ne0}

pub returns-then-modes-eq0-clause-value : goal.returns-then-modes-eq0-clause-value
returns-then-modes-eq0-clause-value c = (wrote-dash c.args.out.now c.args.at c.args.modes c.if-modes-eq0.true (omega arith)).0

pub returns-then-modes-eq0-clause-out_after : goal.returns-then-modes-eq0-clause-out_after
returns-then-modes-eq0-clause-out_after c = (wrote-dash c.args.out.now c.args.at c.args.modes c.if-modes-eq0.true (omega arith)).1

pub loop-entry-init : goal.loop-entry-init
loop-entry-init c = wrote_none c.args.out.now c.args.at c.args.modes c.if-modes-eq0.false

pub loop-entry-preserved : goal.loop-entry-preserved
loop-entry-preserved c =
    let a = c.args in
    let l = c.loop-entry in
    let j = c.if-modes-entry-ne0 in
    elim j.branch [
      | then-modes-entry-ne0 w ↦
          wrote-letter a.out.now a.at a.modes (omega arith) l.out l.n l.entry-index l.invariant (omega arith) j.out j.n w.if-modes-entry-ne0.true w.out-is w.n-is
      | else-modes-entry-ne0 w ↦
          wrote-other a.out.now a.at a.modes (omega arith) l.out l.n l.entry-index l.invariant (omega arith) j.out j.n w.if-modes-entry-ne0.false w.out-is w.n-is
    ]

pub returns-clause-value : goal.returns-clause-value
returns-clause-value c = (wrote-all c.args.out.now c.args.at c.args.modes c.loop-entry.out c.loop-entry.n c.loop-entry.entry-index (omega arith) c.loop-entry.invariant).0

pub returns-clause-out_after : goal.returns-clause-out_after
returns-clause-out_after c = (wrote-all c.args.out.now c.args.at c.args.modes c.loop-entry.out c.loop-entry.n c.loop-entry.entry-index (omega arith) c.loop-entry.invariant).1

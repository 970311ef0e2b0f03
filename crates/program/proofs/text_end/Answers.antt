-- `program::text_end`: where a byte ends the rule text the rest has none, and otherwise one more. Assumes nothing.
use Rattle.std.proofs.Common.{arith}
use Rattle.program.proofs.Laws.{end-here, end_later, end_none}
use Rattle.program.proofs.text_end.Goals as goal

pub returns-then-lone-b : goal.returns-then-lone-b
returns-then-lone-b c = omega (arith, c.loop-i.invariant, end-here c.args.input.now c.loop-i.i c.loop-i.none c.loop-i.lone c.loop-i-test.true c.if-lone-b.true)

pub loop-i-preserved : goal.loop-i-preserved
loop-i-preserved c = omega (arith, c.loop-i.invariant, end_later c.args.input.now c.loop-i.i c.loop-i.none c.loop-i.lone c.loop-i-test.true c.if-lone-b.false)

pub returns : goal.returns
returns c = omega (arith, c.loop-i.invariant, end_none c.args.input.now c.loop-i.i c.loop-i.none c.loop-i.lone c.loop-i-test.false)

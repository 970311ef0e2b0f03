-- The byte at `i` is a newline or is passed.
use Rattle.std.proofs.Common.{arith}
use Rattle.text_lines.proofs.Laws.{newline-at, newline-behind, newline-none}
use Rattle.text_lines.proofs.byte_by_byte.Goals as goal

pub returns-then-text-i-eq-NEWLINE : goal.returns-then-text-i-eq-NEWLINE
returns-then-text-i-eq-NEWLINE c = omega (arith, c.loop-i.invariant.1, newline-at c.args.text.now c.loop-i.i c.loop-i-test.true c.if-text-i-eq-NEWLINE.true)

pub loop-i-preserved : goal.loop-i-preserved
loop-i-preserved c = (omega arith, omega (arith, c.loop-i.invariant.1, newline-behind c.args.text.now c.loop-i.i c.loop-i-test.true c.if-text-i-eq-NEWLINE.false))

pub returns : goal.returns
returns c = omega (arith, c.loop-i.invariant.1, c.max.ensures, newline-none c.args.text.now c.loop-i.i c.loop-i-test.false)

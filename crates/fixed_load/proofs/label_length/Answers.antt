-- What was scanned decides each return.
use Rattle.fixed_load.proofs.Laws.{later-byte, only-spaces, too_many, label-found}
use Rattle.std.proofs.Common.{arith}
use Rattle.fixed_load.proofs.label_length.Goals as goal

pub returns-then-count-i : goal.returns-then-count-i
returns-then-count-i c = later-byte c.args.place.now c.requires c.loop-i.count c.loop-i.i c.loop-i.invariant c.loop-i-test.true c.if-place-i-ne-SPACE.true c.if-count-i.true

pub returns-then-count-eq0 : goal.returns-then-count-eq0
returns-then-count-eq0 c = only-spaces c.args.place.now c.requires c.loop-i.count c.loop-i.i c.loop-i.invariant c.loop-i-test.false c.if-count-eq0.true

pub returns-then-count-gt-RECORD_LABEL : goal.returns-then-count-gt-RECORD_LABEL
returns-then-count-gt-RECORD_LABEL c =
    too_many c.args.place.now c.requires c.loop-i.count c.loop-i.i c.loop-i.invariant c.loop-i-test.false (omega (arith, c.loop-i.invariant.few)) c.if-count-gt-RECORD_LABEL.true

pub returns : goal.returns
returns c = label-found c.args.place.now c.requires c.loop-i.count c.loop-i.i c.loop-i.invariant c.loop-i-test.false c.if-count-eq0.false c.if-count-gt-RECORD_LABEL.false

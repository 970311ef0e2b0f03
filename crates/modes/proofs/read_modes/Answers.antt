-- One byte more, a letter or a dash; any other ends it.
use Rattle.std.proofs.Common.{sym, ◌∙◌, arith}
use lib.ListN.{drop_of_length-le}
use Rattle.modes.proofs.Laws.{read_all, read_none, read-letter, read-dash, read_no_dash, read-other}
use Rattle.modes.proofs.read_modes.Goals as goal
use Rattle.modes.proofs.read_modes.Goals.{then-bit-allowed-eq0+else-not-dashes+else-b-ne-DASH, else-bit-allowed-eq0}

pub loop-b-init : goal.loop-b-init
loop-b-init c = read_all _ _ _

pub returns-then-not-dashes : goal.returns-then-not-dashes
returns-then-not-dashes c =
    let a = c.args in
    let l = c.loop-b in
    sym (l.invariant ∙ read_no_dash a.allowed a.dashes l.modes a.field.now l.b-index (omega arith) c.bit_of-bit.result c.bit_of-bit.ensures c.if-bit-allowed-eq0.true c.if-not-dashes.true)

pub returns-then-b-ne-DASH : goal.returns-then-b-ne-DASH
returns-then-b-ne-DASH c =
    let a = c.args in
    let l = c.loop-b in
    sym (l.invariant ∙ read-other a.allowed a.dashes l.modes a.field.now l.b-index (omega arith) c.bit_of-bit.result c.bit_of-bit.ensures c.if-bit-allowed-eq0.true c.if-b-ne-DASH.true)

pub loop-b-preserved : goal.loop-b-preserved
loop-b-preserved c =
    let a = c.args in
    let l = c.loop-b in
    l.invariant
    ∙ elim c.if-bit-allowed-eq0.branch [
      | then-bit-allowed-eq0+else-not-dashes+else-b-ne-DASH w ↦
          read-dash a.allowed a.dashes l.modes a.field.now l.b-index (omega arith) c.bit_of-bit.result c.bit_of-bit.ensures w.if-not-dashes.false w.if-b-ne-DASH.false
      | else-bit-allowed-eq0 w ↦
          read-letter a.allowed a.dashes l.modes a.field.now l.b-index (omega arith) c.bit_of-bit.result c.bit_of-bit.ensures w.if-bit-allowed-eq0.false
    ]

pub returns : goal.returns
returns c =
    let a = c.args in
    let l = c.loop-b in
    sym (l.invariant ∙ rw (drop_of_length-le a.field.now {i = l.b-index} (omega arith)) (read_none a.allowed a.dashes l.modes))

-- A byte stops the run or lengthens it, by its class; past the line there is no run.
use Rattle.std.proofs.Common.{sym, ◌∙◌, get_or, arith}
use lib.Dec.{eqb}
use Rattle.alphabet.proofs.Laws.{blank_told, bools_differ, bools_agree, run-stop, run_more, run_past}
use Rattle.alphabet.proofs.skip.Goals as goal

pub returns-then-class-blanks : goal.returns-then-class-blanks
returns-then-class-blanks c =
    let told = blank_told (get_or c.args.line.now c.loop-i.i 0) c.class.result c.class.ensures in
    let stop = run-stop c.args.blanks c.args.line.now c.loop-i.i (omega arith) (sym told ∙ bools_differ (eqb c.class.result 1) c.args.blanks c.if-class-blanks.true) in
    omega arith

pub loop-i-preserved : goal.loop-i-preserved
loop-i-preserved c =
    let told = blank_told (get_or c.args.line.now c.loop-i.i 0) c.class.result c.class.ensures in
    let more = run_more c.args.blanks c.args.line.now c.loop-i.i (omega arith) (sym told ∙ bools_agree (eqb c.class.result 1) c.args.blanks c.if-class-blanks.false) in
    (omega arith, omega arith)

pub returns : goal.returns
returns c =
    let past = run_past c.args.blanks c.args.line.now c.loop-i.i (omega arith) in
    omega (arith, c.max.ensures)

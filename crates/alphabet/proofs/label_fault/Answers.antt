-- Each return is one of the five ways in which a label ends: empty, a dash, too long, another byte, well formed.
use Rattle.std.proofs.Common.{◌≡◌, sym, length, arith, below_more}
use Rattle.alphabet.specs.Alphabet.{label_longest}
use Rattle.alphabet.proofs.Laws.{label_told, other_told, fault-empty, fault-dash, fault-at, fault-long, fault-none}
use Rattle.alphabet.proofs.label_fault.Goals as goal

pub loop-i-preserved : goal.loop-i-preserved
loop-i-preserved c =
    let i = c.loop-i.invariant in
    (omega arith, omega arith, below_more _ _ i.2 (label_told _ _ c.class.ensures c.if-class-ne-IN_A_LABEL.false))

pub returns-then-label-eq0 : goal.returns-then-label-eq0
returns-then-label-eq0 c = sym (fault-empty _ c.if-label-eq0.true)

pub returns-then-label-eq-DASH : goal.returns-then-label-eq-DASH
returns-then-label-eq-DASH c = sym (fault-dash _ c.if-label-eq0.false c.if-label-eq-DASH.true)

pub returns-then-i-eq-LABEL_LONGEST : goal.returns-then-i-eq-LABEL_LONGEST
returns-then-i-eq-LABEL_LONGEST c =
    let z : c.loop-i.i ≡ label_longest = c.if-i-eq-LABEL_LONGEST.true in
    sym (fault-long _ c.if-label-eq0.false c.if-label-eq-DASH.false (omega arith) (rw z at c.loop-i.invariant.2))

pub returns-then-class-ne-IN_A_LABEL : goal.returns-then-class-ne-IN_A_LABEL
returns-then-class-ne-IN_A_LABEL c =
    sym
    (fault-at _ c.if-label-eq0.false c.if-label-eq-DASH.false c.loop-i.i (omega arith) (omega arith) c.loop-i.invariant.2
    (other_told _ _ c.class.ensures c.if-class-ne-IN_A_LABEL.true))

pub returns : goal.returns
returns c =
    let z : c.loop-i.i ≡ length c.args.label.now = omega arith in
    sym (fault-none _ c.if-label-eq0.false c.if-label-eq-DASH.false (omega arith) (rw z at c.loop-i.invariant.2))

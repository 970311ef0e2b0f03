-- One byte more.
use Rattle.std.proofs.Common.{◌≡◌, sym, ◌∙◌, arith}
use Rattle.alphabet.proofs.Formed.{bytes-none, told_more}
use Rattle.alphabet.proofs.lowest_of.Goals as goal

pub loop-i-init : goal.loop-i-init
loop-i-init g c = sym (bytes-none _ _ _ (omega arith) (omega arith))

pub loop-i-preserved : goal.loop-i-preserved
loop-i-preserved g c = told_more _ _ _ _ _ _ _ c.loop-i.invariant c.label_high.ensures c.smaller-low.ensures (omega arith) (omega arith) (omega arith)

pub returns : goal.returns
returns g c =
    let e : c.loop-i.i ≡ g.row.N = omega arith in
    c.loop-i.invariant ∙ rw e

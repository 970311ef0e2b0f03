-- One byte more.
use Rattle.std.proofs.Common.{Bool, ◌&&◌, get_or, sym, ap, ◌∙◌, arith}
use mathlib.Core.Bool.{and-true}
use lib.Dec.{eqb}
use lib.ListN.{drop_of_length-le}
use Rattle.search.specs.Bytes.{same_bytes}
use Rattle.search.proofs.Laws.{same_turn, and_assoc}
use Rattle.search.proofs.all_same.Goals as goal

pub loop-i-preserved : goal.loop-i-preserved
loop-i-preserved c =
    let a = c.args.a.now in
    let b = c.args.b.now in
    let i = c.loop-i.i in
    (omega arith, c.loop-i.invariant.1 ∙ ap (λ (t : Bool). c.loop-i.same && t) (same_turn a b i (omega arith) (omega arith)) ∙ and_assoc c.loop-i.same (eqb (get_or a i 0) (get_or b i 0)) _)

pub returns : goal.returns
unfolding same_bytes
returns c =
    let i = c.loop-i.i in
    sym (c.loop-i.invariant.1 ∙ rw (drop_of_length-le c.args.a.now {i = i} (omega arith), drop_of_length-le c.args.b.now {i = i} (omega arith)) (and-true c.loop-i.same))

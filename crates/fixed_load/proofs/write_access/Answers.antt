-- The next place's byte is written; after five all are.
use Rattle.std.proofs.Common.{◌∙◌, arith}
use Rattle.fixed_load.proofs.Laws.{half_bit, placed-more, placed-all}
use Rattle.fixed_load.proofs.write_access.Goals as goal

pub loop-i-preserved : goal.loop-i-preserved
loop-i-preserved c =
    let l = c.loop-i in (
      rw l.invariant.0 (half_bit l.i (omega arith)),
      c.write_modes.ensures.out_after
          ∙ rw l.invariant.0 (placed-more c.args.out.now c.args.at c.args.modes l.out l.i (omega arith) c.requires.0 c.requires.1 l.invariant.1),
    )

pub returns : goal.returns
returns c =
    let l = c.loop-i in
    placed-all c.args.out.now c.args.at c.args.modes l.out l.i (omega arith) (omega arith) l.invariant.1

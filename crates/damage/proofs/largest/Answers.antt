-- One rule more.
use Rattle.std.proofs.Common.{below_more, arith}
use Rattle.modes.proofs.Laws.{known_of_or}
use Rattle.damage.proofs.largest.Goals as goal

pub loop-i-init : goal.loop-i-init
loop-i-init c = λ k h. absurd (omega arith)

pub loop-i-preserved : goal.loop-i-preserved
loop-i-preserved c =
    below_more _ _
    (λ k h. let w = c.loop-i.invariant k h in record { subject = omega arith; object = omega arith; modes_of = λ e. w.modes_of (known_of_or _ _ e).0 })
    (record { subject = omega arith; object = omega arith; modes_of = λ e. (known_of_or c.loop-i.modes _ e).1 })

pub returns : goal.returns
returns c = λ k h. c.loop-i.invariant k (omega arith)

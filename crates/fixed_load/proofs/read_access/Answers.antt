-- A byte that is not its letter or a dash ends the reading; another joins its letter to the modes so far.
use Rattle.std.proofs.Common.{true, refl, sym, ap, ◌∙◌, arith}
use Rattle.modes.specs.Modes.{read_modes}
use Rattle.fixed_load.proofs.Laws.{half_bit, one_byte, own-all, own-end, own-stop, own-more}
use Rattle.fixed_load.proofs.read_access.Goals as goal

pub loop-i-init : goal.loop-i-init
loop-i-init c = (refl, own-all c.args.access.now)

pub returns-in_err-modes : goal.returns-in_err-modes
returns-in_err-modes c =
    let l = c.loop-i in
    let a = c.args.access.now in
    let e = ap (read_modes l.bit true) (one_byte a l.i (omega (arith, c.requires))) in
    c.from_residual.ensures
    ∙ sym (l.invariant.1 ∙ own-stop a c.requires l.modes l.i (omega arith) l.bit l.invariant.0 (sym e ∙ sym c.in_err-modes.ensures))

pub loop-i-preserved : goal.loop-i-preserved
loop-i-preserved c =
    let l = c.loop-i in
    let a = c.args.access.now in
    let e = ap (read_modes l.bit true) (one_byte a l.i (omega (arith, c.requires))) in (
      rw l.invariant.0 (half_bit l.i (omega arith)),
      l.invariant.1 ∙ own-more a c.requires l.modes l.i (omega arith) l.bit l.invariant.0 c.in_ok-modes.field-0 (sym e ∙ sym c.in_ok-modes.ensures),
    )

pub returns : goal.returns
returns c =
    let l = c.loop-i in
    sym (l.invariant.1 ∙ own-end c.args.access.now c.requires l.modes l.i (omega arith))

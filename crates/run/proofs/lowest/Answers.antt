-- One record more.
use Rattle.std.proofs.Common.{length, get_or-take, length-take, ap, ◌∙◌, arith}
use Rattle.run.specs.Run.{lower_of}
use Rattle.run.proofs.Laws.{left_start, left_next, left_settled, searched-within}
use Rattle.run.specs.declared.Record.{Record}
use Rattle.run.proofs.lowest.Goals as goal

pub loop-record-init : goal.loop-record-init
loop-record-init c = left_start _ _ _

pub slice_bounds-record-items-end : goal.slice_bounds-record-items-end
slice_bounds-record-items-end c = simp length-take (omega (arith, c.reach-count.ensures, searched-within c.args.level c.args.set (length c.args.run.now)))

pub loop-record-preserved : goal.loop-record-preserved
loop-record-preserved c =
    let a = c.args in
    let l = c.loop-record in
    let z : Record = record { label = 0; level = 0; set = record { first = 0; second = 0; third = 0 } } in
    let e = ap (lower_of a.level a.set l.best) (get_or-take c.reach-count.result a.run.now l.record-index z (omega (arith, length-take {A = Record}))) in
    left_next a.run.now a.level a.set z l.best c.lower-best.result l.record-index (omega (arith, length-take {A = Record})) (c.lower-best.ensures ∙ e) l.invariant

pub returns : goal.returns
returns c =
    let a = c.args in
    let l = c.loop-record in
    c.settled.ensures
    ∙ left_settled a.run.now a.level a.set l.best l.record-index (omega (arith, c.reach-count.ensures, searched-within a.level a.set (length a.run.now), length-take {A = Record})) l.invariant

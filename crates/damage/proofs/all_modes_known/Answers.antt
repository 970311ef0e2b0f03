-- One of the numbers more.
use Rattle.std.proofs.Common.{◌≡◌, ◌<◌, length, take, get_or, refl, sym, ◌∙◌, add-one, arith}
use lib.Seq.{take-suc, take-length}
use Rattle.search.specs.Search.{all}
use Rattle.search.proofs.Laws.{all_snoc}
use Rattle.modes.specs.Modes.{known_modes}
use Rattle.damage.proofs.all_modes_known.Goals as goal

pub loop-modes-init : goal.loop-modes-init
unfolding all
loop-modes-init c = refl

pub loop-modes-preserved : goal.loop-modes-preserved
unfolding known_modes
loop-modes-preserved c =
    let i = c.loop-modes.modes-index in
    let run = take c.args.count c.args.run.now in
    let h : i < length run = omega arith in
    rw (c.loop-modes.invariant, add-one, take-suc run i 0 h) (sym (all_snoc known_modes (take i run) (get_or run i 0)))

pub returns : goal.returns
returns c =
    let run = take c.args.count c.args.run.now in
    let e : c.loop-modes.modes-index ≡ length run = omega arith in
    c.loop-modes.invariant ∙ rw (e, take-length)

-- One number more.
use Rattle.std.proofs.Common.{ℕ, ◌≡◌, ◌<◌, ltb, length, take, get_or, refl, sym, ◌∙◌, add-one, arith}
use lib.Seq.{take-suc, take-length}
use Rattle.search.specs.Search.{all}
use Rattle.search.proofs.Laws.{all_snoc}
use Rattle.search.proofs.all_below.Goals as goal

pub loop-x-init : goal.loop-x-init
unfolding all
loop-x-init c = refl

pub loop-x-preserved : goal.loop-x-preserved
loop-x-preserved c =
    let i = c.loop-x.x-index in
    let run = take c.args.count c.args.run.now in
    let h : i < length run = omega arith in
    rw (c.loop-x.invariant, add-one, take-suc run i 0 h) (sym (all_snoc (λ (x : ℕ). ltb x c.args.limit) (take i run) (get_or run i 0)))

pub returns : goal.returns
returns c =
    let run = take c.args.count c.args.run.now in
    let e : c.loop-x.x-index ≡ length run = omega arith in
    c.loop-x.invariant ∙ rw (e, take-length)

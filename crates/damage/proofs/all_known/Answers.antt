-- One of the words more.
use Rattle.std.proofs.Common.{◌≡◌, ◌<◌, length, take, get_or, refl, sym, ◌∙◌, add-one, arith}
use lib.Seq.{take-suc, take-length}
use Rattle.search.specs.Search.{all}
use Rattle.search.proofs.Laws.{all_snoc}
use Rattle.numbers.specs.Categories.{known_third}
use Rattle.damage.proofs.all_known.Goals as goal

pub loop-word-init : goal.loop-word-init
unfolding all
loop-word-init c = refl

pub loop-word-preserved : goal.loop-word-preserved
loop-word-preserved c =
    let i = c.loop-word.word-index in
    let run = take c.args.count c.args.run.now in
    let h : i < length run = omega arith in
    rw (c.loop-word.invariant, add-one, take-suc run i 0 h) (sym (all_snoc known_third (take i run) (get_or run i 0)))

pub returns : goal.returns
returns c =
    let run = take c.args.count c.args.run.now in
    let e : c.loop-word.word-index ≡ length run = omega arith in
    c.loop-word.invariant ∙ rw (e, take-length)

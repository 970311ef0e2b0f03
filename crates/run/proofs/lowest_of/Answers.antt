-- One record more.
use Rattle.std.proofs.Common.{◌≡◌, length, sym, ◌∙◌, arith}
use Rattle.run.specs.Run.{records_of}
use Rattle.run.proofs.Laws.{left_start, left_settled, searched-within, records_length, records_next, shortest_same}
use Rattle.run.proofs.lowest_of.Goals as goal

pub loop-i-init : goal.loop-i-init
loop-i-init c = (omega (arith, c.reach-count.ensures, searched-within c.args.level c.args.set c.shortest-all.result), left_start _ _ _)

pub loop-i-preserved : goal.loop-i-preserved
loop-i-preserved c =
    let a = c.args in
    let all : c.shortest-all.result ≡ length (records_of a.labels.now a.levels.now a.sets.now) = shortest_same _ _ _ _ _ c.shortest-all.ensures (records_length _ _ _) in
    (omega arith, records_next _ _ _ _ _ _ _ _ (omega arith) c.lower-best.ensures c.loop-i.invariant.1)

pub returns : goal.returns
returns c =
    let a = c.args in
    let all : c.shortest-all.result ≡ length (records_of a.labels.now a.levels.now a.sets.now) = shortest_same _ _ _ _ _ c.shortest-all.ensures (records_length _ _ _) in
    c.settled.ensures ∙ left_settled _ _ _ _ c.loop-i.i (rw (sym all, sym c.reach-count.ensures) c.loop-i-test.false) c.loop-i.invariant.1

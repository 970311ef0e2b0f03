-- The entry that the loop stops at names the label, and none before it does.
use Rattle.std.proofs.Common.{sym, arith}
use borrow.Author.Tests.{eq-eqb}
use Rattle.search.proofs.Laws.{found-at, found_none}
use Rattle.store.specs.Layout.{mapping_at}
use Rattle.store.specs.Table.{names}
use Rattle.places.proofs.find_mapping.Goals as goal

pub returns-then-entries-i : goal.returns-then-entries-i
unfolding names mapping_at
returns-then-entries-i c words =
    let a = c.args in
    sym (found-at (names a.number) (mapping_at a.entries.now words) a.count c.loop-i.i (omega arith) c.loop-i.invariant (eq-eqb _ _ c.if-entries-i.true))

pub returns : goal.returns
unfolding names mapping_at
returns c words =
    let a = c.args in
    sym (found_none (names a.number) (mapping_at a.entries.now words) a.count (λ k h. c.loop-i.invariant k (omega arith)))

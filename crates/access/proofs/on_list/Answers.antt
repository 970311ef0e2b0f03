-- Where a number is the label's the list holds it; past them all it does not.
use Rattle.std.proofs.Common.{get_or, sym, arith}
use lib.Dec.{eqb}
use borrow.Author.Tests.{eq-eqb}
use Rattle.search.proofs.Laws.{found-at, found_none}
use Rattle.store.specs.Layout.{onlycap_at}
use Rattle.access.proofs.Laws.{listed_at, listed-none}
use Rattle.access.proofs.on_list.Goals as goal

pub returns-then-s-entries : goal.returns-then-s-entries
unfolding onlycap_at
returns-then-s-entries c =
    let a = c.args in
    let l = c.loop-i in
    rw c.in-Some.is (sym (listed_at _ _ _ (found-at (eqb c.in-Some.s) (onlycap_at a.entries.now) (get_or a.words.now 3 0) l.i (omega arith) l.invariant (eq-eqb _ _ c.if-s-entries.true))))

pub returns : goal.returns
unfolding onlycap_at
returns c =
    let a = c.args in
    let l = c.loop-i in
    rw c.in-Some.is (sym (listed-none _ _ (found_none (eqb c.in-Some.s) (onlycap_at a.entries.now) (get_or a.words.now 3 0) (λ k h. l.invariant k (omega arith)))))

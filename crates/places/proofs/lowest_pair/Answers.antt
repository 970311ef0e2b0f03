-- One place more: the lowest of those that were read.
use Rattle.std.proofs.Common.{refl, ◌+◌, ◌∙◌, ℕ, arith}
use Rattle.search.specs.Search.{first, entries as listed}
use Rattle.store.specs.Table.{is_pair}
use Rattle.store.specs.Layout.{rule_at}
use Rattle.places.specs.Within.{none_in_block}
use Rattle.places.proofs.Laws.{lowest-more}
use Rattle.places.proofs.lowest_pair.Goals as goal

pub loop-i-init : goal.loop-i-init
unfolding first listed
loop-i-init c = refl

pub loop-i-preserved : goal.loop-i-preserved
unfolding is_pair rule_at
loop-i-preserved c =
    let a = c.args in
    c.smaller-low.ensures ∙ lowest-more (is_pair a.subject a.object) (λ (j : ℕ). rule_at a.entries.now (a.from + j)) none_in_block c.loop-i.i c.loop-i.low c.place_if.result (omega arith) c.loop-i.invariant c.place_if.ensures

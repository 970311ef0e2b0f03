-- No place of a block that was passed holds the pair, and of the next block the lowest is its rule's, unless it stands past the count.
use Rattle.std.proofs.Common.{ℕ, ◌+◌, ◌*◌, sym, arith}
use Rattle.search.proofs.Laws.{found-at, found_none}
use Rattle.store.specs.Table.{is_pair}
use Rattle.store.specs.Layout.{rule_at}
use Rattle.places.specs.Within.{block, none_in_block}
use Rattle.places.proofs.Laws.{at-lowest, none-before-lowest}
use Rattle.places.proofs.find_pair.Goals as goal

pub returns-then-k-count : goal.returns-then-k-count
returns-then-k-count c =
    let a = c.args in
    let from = c.loop-passed.passed * block in
    let low = c.lowest_pair-low.result in
    sym
    (found-at (is_pair a.subject a.object) (rule_at a.entries.now) a.count (from + low) (omega arith)
    (none-before-lowest (is_pair a.subject a.object) (rule_at a.entries.now) none_in_block from block low (from + low) c.loop-passed.invariant c.lowest_pair-low.ensures (omega arith) (omega arith))
    (at-lowest (is_pair a.subject a.object) (λ (i : ℕ). rule_at a.entries.now (from + i)) none_in_block block low c.lowest_pair-low.ensures (λ e. omega arith)))

pub returns-then-low-lt-BLOCK : goal.returns-then-low-lt-BLOCK
returns-then-low-lt-BLOCK c =
    let a = c.args in
    let from = c.loop-passed.passed * block in
    let low = c.lowest_pair-low.result in
    sym
    (found_none (is_pair a.subject a.object) (rule_at a.entries.now) a.count
    (none-before-lowest (is_pair a.subject a.object) (rule_at a.entries.now) none_in_block from block low a.count c.loop-passed.invariant c.lowest_pair-low.ensures (omega arith) (omega arith)))

pub loop-passed-preserved : goal.loop-passed-preserved
loop-passed-preserved c =
    let a = c.args in
    let from = c.loop-passed.passed * block in
    let low = c.lowest_pair-low.result in
    none-before-lowest (is_pair a.subject a.object) (rule_at a.entries.now) none_in_block from block low _ c.loop-passed.invariant c.lowest_pair-low.ensures (omega arith) (omega arith)

pub returns : goal.returns
returns c = sym (found_none _ _ _ (λ k h. c.loop-passed.invariant k (omega arith)))

-- After i turns `low` is the lowest of the first i places of the block.
use Rattle.std.proofs.Common.{◌+◌, ◌≡◌}
use Rattle.search.specs.Search.{first, place_of, entries as listed}
use Rattle.store.specs.Table.{is_pair}
use Rattle.store.specs.Layout.{rule_at}
use Rattle.places.specs.Within.{none_in_block}
use Rattle.places.proofs.lowest_pair.Given as goal

abbrev pub invariant-loop-i : goal.invariant-loop-i
invariant-loop-i l = l.low ≡ place_of (first (is_pair l.subject l.object) (listed (λ j. rule_at l.entries (l.from + j)) l.i)) none_in_block

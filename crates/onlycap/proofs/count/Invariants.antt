-- The fields passed are counted as they would enter the list and the table.
use Rattle.std.proofs.Common.{◌-◌, ◌≤◌, ◌≡◌, length}
use Rattle.search.specs.Search.{entries}
use Rattle.alphabet.specs.Alphabet.{fields}
use Rattle.store.specs.Layout.{label_at}
use Rattle.onlycap.proofs.Laws.{Passed, counted_up_to}
use Rattle.onlycap.proofs.count.Given as goal

abbrev pub invariant-loop-start : goal.invariant-loop-start
invariant-loop-start l =
    Passed l.text l.at l.i × (l.i ≤ length (fields l.text)) × (l.counted ≡ counted_up_to (entries (label_at l.labels) l.stored) (fields l.text) l.i)

abbrev pub decreases-loop-start : goal.decreases-loop-start
decreases-loop-start l = length l.text - l.at

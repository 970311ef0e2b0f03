-- The fields passed are taken, each by the label's first number.
use Rattle.std.proofs.Common.{◌-◌, ◌≤◌, ◌≡◌, length}
use Rattle.alphabet.specs.Alphabet.{fields}
use Rattle.store.specs.Lent.{lent_mut, SameSlices}
use Rattle.onlycap.proofs.Laws.{Passed, taken, up_to}
use Rattle.onlycap.proofs.apply.Given as goal

abbrev pub invariant-loop-start : goal.invariant-loop-start
invariant-loop-start l =
    Passed l.text l.at l.i × (l.i ≤ length (fields l.text)) × (l.state.words.now ≡ l.fn.state.words.now)
    × (taken l.state.labels.now l.state.entries.now l.stored l.listed ≡ up_to (lent_mut l.fn.state) (fields l.text) l.i)
    × SameSlices l.fn.state l.state

abbrev pub decreases-loop-start : goal.decreases-loop-start
decreases-loop-start l = length l.text - l.at

-- No place of a block that was passed holds the pair.
use Rattle.std.proofs.Common.{ℕ, ◌*◌, ◌<◌, ◌≡◌, false}
use Rattle.store.specs.Table.{is_pair}
use Rattle.store.specs.Layout.{rule_at}
use Rattle.places.specs.Within.{block}
use Rattle.places.proofs.find_pair.Given as goal

abbrev pub invariant-loop-passed : goal.invariant-loop-passed
invariant-loop-passed l = (k : ℕ) → k < l.passed * block → is_pair l.subject l.object (rule_at l.entries k) ≡ false

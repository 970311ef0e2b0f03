-- No label number passed has both.
use Rattle.std.proofs.Common.{ℕ, ◌≡◌, ◌<◌, false}
use Rattle.store.specs.Layout.{table_of}
use Rattle.store.specs.LentWithin.{tested}
use Rattle.lookups.specs.Lookups.{has_both}
use Rattle.lookups.proofs.by_level.Given as goal

abbrev pub invariant-loop-n : goal.invariant-loop-n
invariant-loop-n l = (j : ℕ) → j < l.n → has_both (table_of (tested l.tables)) l.level l.set j ≡ false

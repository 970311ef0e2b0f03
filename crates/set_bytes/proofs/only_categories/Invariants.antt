-- Of the bytes passed those behind byte 23 are 0.
use Rattle.std.proofs.Common.{ℕ, ◌≡◌, ◌<◌, ◌≤◌, get_or}
use Rattle.set_bytes.proofs.only_categories.Given as goal

abbrev pub invariant-loop-i : goal.invariant-loop-i
invariant-loop-i l = (k : ℕ) → 24 ≤ k → k < l.i → get_or l.bitmap k 0 ≡ 0

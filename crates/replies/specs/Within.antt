-- Bytes put into an output from an index on: what the functions that write a line ensure of it. Nobody has to believe these. Assumes nothing.
use Rattle.std.specs.Prelude.{ℕ, ◌+◌, ◌≤◌, ◌≡◌, List, length}
use Rattle.search.specs.Bytes.{written}

-- `said` stands from `at` on, `end` is the index behind it, and it is no longer than `most`
pub record Put (most : ℕ) (out : List ℕ) (at : ℕ) (said : List ℕ) (after : List ℕ) (end : ℕ) : Type 0 where
  pub bytes : after ≡ written out at said
  pub ends : end ≡ at + length said
  pub short : length said ≤ most

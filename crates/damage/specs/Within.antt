-- What the damage test knows of rules that it has looked at. No public contract names it. Assumes nothing.
use Rattle.std.specs.Prelude.{ℕ, ◌+◌, ◌≤◌, ◌≡◌, true, List, get_or}
use Rattle.modes.specs.Modes.{known_modes}
use Rattle.store.specs.Layout.{objects_from, modes_from}

-- no number of a label in rule k is above `label`, and its modes may be stored where `modes` may
pub record Bounded (e : List ℕ) (k label modes : ℕ) : Type 0 where
  pub subject : get_or e k 0 ≤ label
  pub object : get_or e (objects_from + k) 0 ≤ label
  pub modes_of : known_modes modes ≡ true → known_modes (get_or e (modes_from + k) 0) ≡ true

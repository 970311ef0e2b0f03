-- What becomes of a rule or a change by the place that the code found for its pair. Nobody has to believe this. Assumes nothing.
use Rattle.std.specs.Prelude.{ℕ, List, Result, Ok, Err}
use Rattle.store.specs.Table.{Table}
use Rattle.store.specs.Judged.{Judged, is_refused, is_accepted}
use Rattle.rules.specs.declared.Spot.{Spot}
use Rattle.rules.specs.Within.{with_pair_at, modes_of_rule}
use Rattle.refusals.specs.declared.Refusal.{Refusal}
use Rattle.writes.specs.Writes.{changed}
use Rattle.writes.specs.declared.Setting.{Setting}
use Rattle.writes.specs.declared.Setting.TheVariants.{Rule, Change}

-- the modes that a pair then has, by those that it had
abbrev pub new_modes : ℕ → Setting → ℕ
new_modes old (Rule m) = m
new_modes old (Change a d) = changed old a d

-- what becomes of it, by the place
abbrev pub setting_at : Table → List ℕ → List ℕ → Setting → Result Spot Refusal → Judged
setting_at t s o x (Err n) = is_refused n
setting_at t s o x (Ok spot) = is_accepted (with_pair_at t s o spot (new_modes (modes_of_rule spot.rule t.rules) x))

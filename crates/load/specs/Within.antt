-- What the contracts within the library say of a call's answer; nobody has to believe these. Assumes nothing.
use Rattle.reports.specs.declared.Loader.{Loader}
use Rattle.std.specs.Prelude.{Result, Ok, Err}
use Rattle.refusals.specs.declared.Refusal.{Refusal}
use Rattle.reports.specs.declared.Report.{Report}

-- the loader that the caller goes on with: on a refusal the one that it had
abbrev pub fed_loader : Loader → Result Loader Refusal → Loader
fed_loader old (Ok l) = l
fed_loader old (Err n) = old

abbrev pub ended_loader : Loader → Result (Report × Loader) Refusal → Loader
ended_loader old (Ok (r, l)) = l
ended_loader old (Err n) = old

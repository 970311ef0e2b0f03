-- The theorem: override decides after a denial alone.
use Rattle.effects.proofs.Overrides.{overriding}
use Rattle.effects.proofs.override_after_a_denial.Goals as goal

pub returns : goal.returns
returns c = overriding

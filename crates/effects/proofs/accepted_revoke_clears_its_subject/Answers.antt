-- The theorem: an accepted revoke clears its subject's rules.
use Rattle.effects.proofs.Revoked.{revoke-clears}
use Rattle.effects.proofs.accepted_revoke_clears_its_subject.Goals as goal

pub returns : goal.returns
returns c = revoke-clears

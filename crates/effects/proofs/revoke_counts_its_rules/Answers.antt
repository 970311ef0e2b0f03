-- The theorem: a revoke is answered with the number of its subject's rules.
use Rattle.effects.proofs.Revoked.{answer-counts, answer-counts-once}
use Rattle.effects.proofs.revoke_counts_its_rules.Goals as goal

pub returns : goal.returns
returns c = record { counts_by_number = answer-counts; counts_by_bytes = answer-counts-once }

-- Refusals 6 and 7 are the two tests of room.
use mathlib.Core.Path.{ap, ◌∙◌}
use Rattle.lines.specs.Lines.{Said}
use Rattle.writes.specs.Writes.{judged}
use Rattle.grown.specs.Pairs.{was_accepted}
use Rattle.grown.proofs.Pairs.{triple_rule, triple_apart, rule-accepted}
use Rattle.grown.proofs.triple_accepted_with_room.Goals as goal

pub returns : goal.returns
returns c = λ t line s o m w. ap (λ (x : Said). was_accepted (judged t x)) (triple_rule w) ∙ rule-accepted t s o m (triple_apart w)

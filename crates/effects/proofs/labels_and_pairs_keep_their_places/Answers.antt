-- The theorem: labels and pairs keep their places.
use Rattle.effects.proofs.Places.{rule_keeps, change_keeps}
use Rattle.effects.proofs.labels_and_pairs_keep_their_places.Goals as goal

pub returns : goal.returns
returns c = record { by_a_line = rule_keeps; by_a_change = change_keeps }

-- The claim, clause by clause.
use Rattle.new_object.proofs.Laws.{by-labels_and_modes}
use Rattle.new_object.proofs.WhichLabel.{which_label, pair_alone}
use Rattle.new_object.proofs.which_label_a_new_object_gets.Goals as goal

pub returns-clause-which_label : goal.returns-clause-which_label
returns-clause-which_label c = which_label

pub returns-clause-same_new_objects : goal.returns-clause-same_new_objects
returns-clause-same_new_objects c = pair_alone

pub returns-clause-by_labels_and_modes : goal.returns-clause-by_labels_and_modes
returns-clause-by_labels_and_modes c = by-labels_and_modes

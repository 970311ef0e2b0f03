-- Soundness is a part of being sane, and of being undamaged.
use Rattle.grown.proofs.Growing.{grown-sane}
use Rattle.grown.proofs.Pairs.{undamaged-sound}
use Rattle.grown.proofs.grown_and_undamaged_are_sound.Goals as goal

pub returns-clause-grown_is_sound : goal.returns-clause-grown_is_sound
returns-clause-grown_is_sound c = λ t g. (grown-sane g).sound

pub returns-clause-undamaged_is_sound : goal.returns-clause-undamaged_is_sound
returns-clause-undamaged_is_sound c = undamaged-sound

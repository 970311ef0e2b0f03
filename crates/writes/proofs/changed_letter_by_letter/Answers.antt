-- A change leaves what stood or is allowed, without what is denied.
use Rattle.writes.proofs.Laws.{changed-letters}
use Rattle.writes.proofs.changed_letter_by_letter.Goals as goal

pub returns : goal.returns
returns c = changed-letters

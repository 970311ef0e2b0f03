-- Byte strings of other lengths differ, and one byte is compared.
use Rattle.std.proofs.Common.{sym}
use Rattle.search.proofs.Laws.{same_lengths}
use Rattle.access.proofs.Laws.{mark-one}
use Rattle.access.proofs.is_mark.Goals as goal

pub returns-then-label-ne1 : goal.returns-then-label-ne1
returns-then-label-ne1 c = sym (same_lengths _ _ c.if-label-ne1.true)

pub returns : goal.returns
returns c = sym (mark-one _ _ c.if-label-ne1.false)

-- The length, every byte, and the first once more.
use Rattle.std.proofs.Common.{sym}
use Rattle.alphabet.proofs.Formed.{formed-size, formed-bytes}
use Rattle.alphabet.proofs.well_formed.Goals as goal

pub returns-then-n : goal.returns-then-n
returns-then-n c = sym (formed-size _ c.if-n.true)

pub returns : goal.returns
returns c = rw c.lowest.ensures (sym (formed-bytes _ c.if-n.false))

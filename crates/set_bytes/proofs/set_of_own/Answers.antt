-- The words are those of the bytes.
use Rattle.set_bytes.proofs.Laws.{own_set}
use Rattle.set_bytes.proofs.set_of_own.Goals as goal

pub returns : goal.returns
returns c =
    rw (c.word_from.ensures, c.word_from-2.ensures, c.word_from-3.ensures) (own_set c.args.bytes.now (λ i. (c.type_inv.bytes i).fits))

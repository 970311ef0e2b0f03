-- The words are those of the bytes, one bit further up.
use Rattle.set_bytes.proofs.Laws.{bitmap_set}
use Rattle.set_bytes.proofs.set_of_bitmap.Goals as goal

pub returns : goal.returns
returns c =
    rw (c.word_from-first.ensures, c.word_from-second.ensures, c.word_from-third.ensures) (bitmap_set c.args.bitmap.now (λ i. (c.type_inv.bitmap i).fits))

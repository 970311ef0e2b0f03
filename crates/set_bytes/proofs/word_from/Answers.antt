-- Each byte is as the definition has it.
use Rattle.set_bytes.specs.Within.{word_from}
use Rattle.set_bytes.proofs.word_from.Goals as goal

pub returns : goal.returns
unfolding word_from
returns c =
    rw (c.byte_at.ensures, c.byte_at-2.ensures, c.byte_at-3.ensures, c.byte_at-4.ensures, c.byte_at-5.ensures, c.byte_at-6.ensures, c.byte_at-7.ensures, c.byte_at-8.ensures)

-- Past the blanks, and then up to the next one.
use Rattle.std.proofs.Common.{sym}
use Rattle.alphabet.proofs.Laws.{reader_ends, reader_finds}
use Rattle.alphabet.proofs.next_field_in.Goals as goal

pub returns-then-line-start : goal.returns-then-line-start
returns-then-line-start c = sym (reader_ends _ _ _ c.skip-start.ensures c.if-line-start.true)

pub returns : goal.returns
returns c = sym (reader_finds _ _ _ _ c.skip-start.ensures c.skip-end.ensures c.if-line-start.false)

-- A number in decimal digits reads back as that number. Assumes nothing.
use Rattle.replies.proofs.Decimal.{decimal_reads_back}
use Rattle.replies.proofs.decimal_reads_back.Goals as goal

pub returns : goal.returns
returns c = decimal_reads_back

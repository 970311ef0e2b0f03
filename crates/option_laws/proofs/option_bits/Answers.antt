-- The theorem.
use Rattle.option_laws.proofs.Bitmap.{option_bits}
use Rattle.option_laws.proofs.option_bits.Goals as goal

pub returns : goal.returns
returns c = option_bits

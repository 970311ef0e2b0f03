-- No sum is over 255, and the 256 values are computed.
use Rattle.std.proofs.Common.{refl, ◌<◌, ◌^◌, arith}
use lib.Bits.{bit_and, and_le_r, or_lt, xor_lt}
use Rattle.search.specs.Search.{entries}
use Rattle.alphabet.specs.Alphabet.{label_byte}
use Rattle.alphabet.proofs.Formed.{sum_fits, tests_agree}
use Rattle.alphabet.proofs.label_high.Goals as goal

pub overflow_add-result-2 : goal.overflow_add-result-2
overflow_add-result-2 c = let low : bit_and c.args.b 127 < 2 ^ 7 = omega (arith, and_le_r c.args.b 127) in record { fits = sum_fits _ (xor_lt 7 _ _ low (omega arith)) }

pub overflow_add-result-3 : goal.overflow_add-result-3
overflow_add-result-3 c = let low : bit_and c.args.b 127 < 2 ^ 7 = omega (arith, and_le_r c.args.b 127) in record { fits = sum_fits _ (xor_lt 7 _ _ (or_lt 7 _ _ low (omega arith)) (omega arith)) }

pub overflow_add-result-4 : goal.overflow_add-result-4
overflow_add-result-4 c = let low : bit_and c.args.b 127 < 2 ^ 7 = omega (arith, and_le_r c.args.b 127) in record { fits = sum_fits _ (xor_lt 7 _ _ low (omega arith)) }

pub returns : goal.returns
unfolding label_byte entries
returns c = tests_agree label_byte c.args.b c.ranges.b.fits (λ b is agrees. rw is agrees) refl

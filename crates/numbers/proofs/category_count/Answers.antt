-- The ones of the words are the categories.
use Rattle.std.proofs.Common.{rules}
use Rattle.numbers.proofs.Sets.{count_ones}
use Rattle.numbers.proofs.category_count.Goals as goal

pub returns : goal.returns
returns c = count_ones c.args.set (record { first = search rules; second = search rules; third = search rules })

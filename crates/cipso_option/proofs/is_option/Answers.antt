-- By its length and the five bytes that are tested.
use Rattle.std.proofs.Common.{sym, arith}
use Rattle.cipso_option.proofs.Laws.{option_short, option_long, option_tests}
use Rattle.cipso_option.proofs.is_option.Goals as goal

pub returns-then-n-lt10 : goal.returns-then-n-lt10
returns-then-n-lt10 c = sym (option_short c.args.option.now c.if-n-lt10.true)

pub returns-then-n-gt40 : goal.returns-then-n-gt40
returns-then-n-gt40 c = sym (option_long c.args.option.now c.if-n-gt40.true)

pub returns : goal.returns
returns c = option_tests c.args.option.now (omega arith) (omega arith)

-- The four bytes of the DOI, one by one.
use Rattle.cipso_option.proofs.Laws.{doi_tests}
use Rattle.cipso_option.proofs.is_ours.Goals as goal

pub returns : goal.returns
returns c = doi_tests c.args.option.now c.requires

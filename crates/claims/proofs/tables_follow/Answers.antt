-- Each call's table law.
use Rattle.lists.proofs.Tables.{tables_follow}
use Rattle.claims.proofs.tables_follow.Goals as goal

pub returns : goal.returns
returns c = tables_follow

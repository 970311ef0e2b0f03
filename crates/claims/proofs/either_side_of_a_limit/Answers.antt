-- The cases are computed.
use Rattle.claims.proofs.Cases.{cases-right, further_right, new-objects-right}
use Rattle.claims.proofs.either_side_of_a_limit.Goals as goal

pub returns-clause-cases_right : goal.returns-clause-cases_right
returns-clause-cases_right c = cases-right

pub returns-clause-further_cases_right : goal.returns-clause-further_cases_right
returns-clause-further_cases_right c = further_right

pub returns-clause-new_object_cases_right : goal.returns-clause-new_object_cases_right
returns-clause-new_object_cases_right c = new-objects-right

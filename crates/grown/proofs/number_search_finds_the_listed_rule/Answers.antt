-- A grown table is sane.
use Rattle.grown.proofs.Growing.{grown-sane}
use Rattle.grown.proofs.Numbered.{only-numbers, equal-numbers, finds_listed}
use Rattle.grown.proofs.number_search_finds_the_listed_rule.Goals as goal

pub returns-clause-only_numbers : goal.returns-clause-only_numbers
returns-clause-only_numbers c = only-numbers

pub returns-clause-equal_numbers : goal.returns-clause-equal_numbers
returns-clause-equal_numbers c = equal-numbers

pub returns-clause-finds_listed : goal.returns-clause-finds_listed
returns-clause-finds_listed c = λ st out s o undamaged grown room. finds_listed st undamaged (grown-sane grown) out room s o

-- Demand 3: `undivided`, `same_cuts` and `damaged` of calls/proofs/Undivided, and `runs` of calls/proofs/Every.
use Rattle.calls.proofs.Undivided.{undivided, same_cuts, damaged}
use Rattle.calls.proofs.Every.{runs}
use Rattle.claims.proofs.demand_3.Goals as goal

pub returns-clause-plain_readers : goal.returns-clause-plain_readers
returns-clause-plain_readers c = λ s s' cs rs f run. undivided f run

pub returns-clause-cuts_do_not_matter : goal.returns-clause-cuts_do_not_matter
returns-clause-cuts_do_not_matter c = λ s z s' z' cs ds rs qs f g t e run₁ run₂. same_cuts f g t e run₁ run₂

pub returns-clause-damaged_is_refused : goal.returns-clause-damaged_is_refused
returns-clause-damaged_is_refused c = λ s s' cs rs d run. damaged d run

pub returns-clause-every_list_runs : goal.returns-clause-every_list_runs
returns-clause-every_list_runs c = λ s cs. runs s.store s.line s.loader cs

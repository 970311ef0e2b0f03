-- Demand 2, first half: 'Without an effective override, access is granted exactly when the first of the seven published rules that applies
-- grants it.' Assumes nothing.
use Rattle.std.specs.Prelude.{ℕ, zero, suc, ◌<◌, ◌≤◌, Bool, true, false, ◌≡◌, List, ◌↔◌, length, get_or, Some}
use Rattle.alphabet.specs.Alphabet.{well_formed}
use Rattle.modes.specs.Modes.{read_modes, request_letters}
use Rattle.store.specs.Table.{Table}
use Rattle.access.specs.SevenRules.{Clause, clause, seven_rules, denial_number}
use Rattle.access.specs.Access.{answer}
use Rattle.access.specs.declared.Denial.{Denial}
use Rattle.access.specs.declared.Verdict.{Verdict}
use Rattle.access.specs.declared.Verdict.TheVariants.{Grants, Denies, Undecided}
use Rattle.access.specs.declared.Answer.TheVariants.{Granted, Denied}

-- a question that is not refused: two well-formed labels, and a request that is not empty and has no other byte
pub record Asks (s o request : List ℕ) (wanted : ℕ) : Type 0 where
  pub subject : well_formed s ≡ true
  pub object : well_formed o ≡ true
  pub some : length request ≡ 0 → ⊥
  pub letters : read_modes request_letters false request ≡ Some wanted

-- rule number n, from 1
abbrev pub published_rule : List Clause → ℕ → Clause
published_rule rules zero = clause false Undecided
published_rule rules (suc k) = get_or rules k (clause false Undecided)

-- rule n is the first that applies, and this is what it says
pub record FirstSays (rules : List Clause) (n : ℕ) (v : Verdict) : Type 0 where
  pub from_one : 1 ≤ n
  pub among : n ≤ length rules
  pub applies : (published_rule rules n).applies ≡ true
  pub none_earlier : (j : ℕ) → 1 ≤ j → j < n → (published_rule rules j).applies ≡ false
  pub says : (published_rule rules n).says ≡ v

-- granted by rule n exactly when rule n is the first of the seven that applies and it grants, and denied likewise
pub record ByFirst (t : Table) (s o request : List ℕ) (capable : Bool) (wanted : ℕ) : Type 0 where
  pub granted : (n : ℕ) → (answer t s o request capable ≡ Granted n) ↔ FirstSays (seven_rules t s o wanted) n (Grants n)
  pub denied : (by : Denial) → (answer t s o request capable ≡ Denied by) ↔ FirstSays (seven_rules t s o wanted) (denial_number by) (Denies by)

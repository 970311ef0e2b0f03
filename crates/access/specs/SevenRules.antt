-- 01, Questions: the seven rules, in the paper's order. Above each stand its sentence of the Smack text (000 is source document 000, section 'Access Rules';
-- documents 001, 003 and 004 have the same words) and 01's. The first that applies decides, by the whole request. Assumes nothing.
use Rattle.std.specs.Prelude.{ℕ, Bool, true, false, cond, ◌&&◌, List, [], ◌∷◌, eqb}
use Rattle.std.specs.Int.Bits.{bit_and}
use Rattle.search.specs.Bytes.{same_bytes}
use Rattle.modes.specs.Modes.{read_execute}
use Rattle.store.specs.Table.{Table, floor, hat, star}
use Rattle.store.specs.Pairs.{PairModes, has_modes, no_rule, modes_between}
use Rattle.access.specs.declared.Denial.{Denial}
use Rattle.access.specs.declared.Denial.TheVariants.{StarSubject, AnyOther}
use Rattle.access.specs.declared.Verdict.{Verdict}
use Rattle.access.specs.declared.Verdict.TheVariants.{Grants, Denies, Undecided}

-- ---- what the rules look at: the two labels by their bytes, the request, and the modes of the pair

-- whether modes hold every letter of a request
abbrev pub holds : ℕ → ℕ → Bool
holds wanted modes = eqb (bit_and wanted modes) wanted

-- whether a request has only r and x
abbrev pub only_read_execute : ℕ → Bool
only_read_execute wanted = holds wanted read_execute

-- whether there is a rule and its modes pass a test
abbrev pub modes_pass : PairModes → (ℕ → Bool) → Bool
modes_pass (has_modes m) test = test m
modes_pass no_rule test = false

-- ---- the seven, of a subject s, an object o, the pair's modes and what is wanted

-- one of them: when it applies, and what it then says: granted, with its number; or denied
pub record Clause : Type 0 where
  pub applies : Bool
  pub says : Verdict

abbrev pub clause : Bool → Verdict → Clause
clause applies says = record { applies = applies; says = says }

-- 000: 1. Any access requested by a task labeled "*" is denied.
-- 01:  1. Subject is *: denied.
abbrev pub rule1 : List ℕ → Clause
rule1 s = clause (same_bytes s star) (Denies StarSubject)

-- 000: 2. A read or execute access requested by a task labeled "^" is permitted.
-- 01:  2. Subject is ^ and the request has only r and x: granted.
abbrev pub rule2 : List ℕ → ℕ → Clause
rule2 s wanted = clause (same_bytes s hat && only_read_execute wanted) (Grants 2)

-- 000: 3. A read or execute access requested on an object labeled "_" is permitted.
-- 01:  3. Object is _ and the request has only r and x: granted.
abbrev pub rule3 : List ℕ → ℕ → Clause
rule3 o wanted = clause (same_bytes o floor && only_read_execute wanted) (Grants 3)

-- 000: 4. Any access requested on an object labeled "*" is permitted.
-- 01:  4. Object is *: granted.
abbrev pub rule4 : List ℕ → Clause
rule4 o = clause (same_bytes o star) (Grants 4)

-- 000: 5. Any access requested by a task on an object with the same label is permitted.
-- 01:  5. Subject equals object: granted.
abbrev pub rule5 : List ℕ → List ℕ → Clause
rule5 s o = clause (same_bytes s o) (Grants 5)

-- 000: 6. Any access requested that is explicitly defined in the loaded rule set is permitted.
-- 01:  6. The pair has a rule whose modes hold every requested letter: granted.
abbrev pub rule6 : PairModes → ℕ → Clause
rule6 pair wanted = clause (modes_pass pair (holds wanted)) (Grants 6)

-- 000: 7. Any other access is denied.
-- 01:  7. Denied.
abbrev pub rule7 : Clause
rule7 = clause true (Denies AnyOther)

-- the seven in their order, by the pair's modes, and of a table
abbrev pub rules_for : List ℕ → List ℕ → PairModes → ℕ → List Clause
rules_for s o pair wanted = rule1 s ∷ rule2 s wanted ∷ rule3 o wanted ∷ rule4 o ∷ rule5 s o ∷ rule6 pair wanted ∷ rule7 ∷ []

abbrev pub seven_rules : Table → List ℕ → List ℕ → ℕ → List Clause
seven_rules t s o wanted = rules_for s o (modes_between t s o) wanted

-- 01: the first that applies decides
abbrev pub first_of : List Clause → Verdict
first_of [] = Undecided
first_of (c ∷ cs) = cond c.applies c.says (first_of cs)

-- the number of the rule that denies
abbrev pub denial_number : Denial → ℕ
denial_number StarSubject = 1
denial_number AnyOther = 7

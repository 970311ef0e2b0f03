-- What the functions within the library say: the seven rules in the two parts that the code looks at one after the other, equal labels by their
-- numbers (02, Two), and the modes by which rule 6 granted (02, Seven). No contract of a host's call names these. Assumes nothing.
use Rattle.std.specs.Prelude.{ℕ, Bool, false, cond, List, [], ◌∷◌, take, eqb, Option, Some, None, Result, Ok, Err}
use Rattle.search.specs.Bytes.{same_bytes}
use Rattle.store.specs.Table.{Table}
use Rattle.store.specs.Pairs.{PairModes, no_rule, rule_between, modes_found, modes_between, modes_or_none}
use Rattle.access.specs.SevenRules.{Clause, clause, rule6, rule7, rules_for, first_of}
use Rattle.access.specs.declared.Verdict.{Verdict}
use Rattle.access.specs.declared.Verdict.TheVariants.{Grants, Denies, Undecided}
use Rattle.access.specs.declared.Ruling.{Ruling}
use Rattle.access.specs.declared.Answer.{Answer}
use Rattle.access.specs.declared.Answer.TheVariants.{Refused}
use Rattle.refusals.specs.declared.Refusal.{Refusal}

-- 1 to 4 know _ ^ and * by their bytes, and look at the request; at no table
abbrev pub mark_rules : List ℕ → List ℕ → ℕ → List Clause
mark_rules s o wanted = take 4 (rules_for s o no_rule wanted)

-- 5 looks at whether the two labels are equal, 6 at the pair's modes and the request, 7 at nothing
abbrev pub later_rules : Bool → PairModes → ℕ → List Clause
later_rules same pair wanted = clause same (Grants 5) ∷ rule6 pair wanted ∷ rule7 ∷ []

-- whether two labels are equal, by the numbers that were found for them: their bytes are compared where neither has one
abbrev pub same_label : List ℕ → List ℕ → Option ℕ → Option ℕ → Bool
same_label s o (Some i) (Some j) = eqb i j
same_label s o (Some i) None = false
same_label s o None (Some j) = false
same_label s o None None = same_bytes s o

-- an answer, or a refusal, as the answer to a question
abbrev pub answer_given : Result Answer Refusal → Answer
answer_given (Ok a) = a
answer_given (Err why) = Refused why

-- the modes of the rule that granted: those of the pair's rule where 6 did, and none where another of the seven decided
abbrev pub granting_modes : Verdict → PairModes → ℕ
granting_modes (Grants n) pair = cond (eqb n 6) (modes_or_none pair) 0
granting_modes (Denies by) pair = 0
granting_modes Undecided pair = 0

-- what 5 to 7 say, and the modes by which 6 granted (02, Seven): of what they look at, whether the labels are equal and the pair's modes
unfoldable pub ruled : Bool → PairModes → ℕ → Ruling
ruled same pair wanted =
    record {
      verdict = first_of (later_rules same pair wanted);
      modes = granting_modes (first_of (later_rules same pair wanted)) pair;
    }

-- of two labels in a table, by their bytes
abbrev pub ruling_of : Table → List ℕ → List ℕ → ℕ → Ruling
ruling_of t s o wanted = ruled (same_bytes s o) (modes_between t s o) wanted

-- and by the numbers that were found for them
abbrev pub ruling_by : Table → Bool → Option ℕ → Option ℕ → ℕ → Ruling
ruling_by t same s o wanted = ruled same (modes_found t.rules (rule_between t s o)) wanted

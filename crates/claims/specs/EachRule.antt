-- 01, Questions: each of the seven rules as 01 says it, with the labels and the letters as text; that a question is judged by these, in this order; and what
-- the tests mean that they are made of. Assumes nothing.
use Rattle.std.specs.Prelude.{ℕ, ◌≡◌, true, false, not, ◌&&◌, List, [], ◌∷◌, ◌↔◌}
use Rattle.search.specs.Search.{all}
use Rattle.search.specs.Bytes.{ascii, same_bytes}
use Rattle.modes.specs.Modes.{bit_of, has, known_modes, one_of}
use Rattle.store.specs.Table.{Table}
use Rattle.store.specs.Pairs.{PairModes, has_modes, no_rule, modes_between}
use Rattle.access.specs.SevenRules.{clause, holds, only_read_execute, rule1, rule2, rule3, rule4, rule5, rule6, rule7, rules_for, seven_rules}
use Rattle.access.specs.declared.Denial.TheVariants.{StarSubject, AnyOther}
use Rattle.access.specs.declared.Verdict.TheVariants.{Grants, Denies}

pub record EachRule : Type 0 where
  -- labels are compared whole, byte by byte
  pub same : (a b : List ℕ) → (same_bytes a b ≡ true) ↔ (a ≡ b)
  -- a request has only r and x where it has none of the other letters
  pub only_r_x : (wanted : ℕ) → known_modes wanted ≡ true → only_read_execute wanted ≡ all (λ (l : ℕ). not (has wanted (bit_of l))) (ascii "wat")
  -- modes hold a request where they have each of its letters
  pub every_letter :
      (wanted m : ℕ) → known_modes wanted ≡ true →
      (holds wanted m ≡ true) ↔ ((l : ℕ) → one_of (ascii "rwxat") l ≡ true → has wanted (bit_of l) ≡ true → has m (bit_of l) ≡ true)
  -- the seven
  pub first : (s : List ℕ) → rule1 s ≡ clause (same_bytes s (ascii "*")) (Denies StarSubject)
  pub second : (s : List ℕ) (wanted : ℕ) → rule2 s wanted ≡ clause (same_bytes s (ascii "^") && only_read_execute wanted) (Grants 2)
  pub third : (o : List ℕ) (wanted : ℕ) → rule3 o wanted ≡ clause (same_bytes o (ascii "_") && only_read_execute wanted) (Grants 3)
  pub fourth : (o : List ℕ) → rule4 o ≡ clause (same_bytes o (ascii "*")) (Grants 4)
  pub fifth : (s o : List ℕ) → rule5 s o ≡ clause (same_bytes s o) (Grants 5)
  pub sixth : (m wanted : ℕ) → rule6 (has_modes m) wanted ≡ clause (holds wanted m) (Grants 6)
  pub sixth_none : (wanted : ℕ) → rule6 no_rule wanted ≡ clause false (Grants 6)
  pub seventh : rule7 ≡ clause true (Denies AnyOther)
  -- and these, in this order, are the rules that a pair with such modes is judged by, and two labels in a table
  pub seven :
      (s o : List ℕ) (pair : PairModes) (wanted : ℕ) →
      rules_for s o pair wanted ≡ rule1 s ∷ rule2 s wanted ∷ rule3 o wanted ∷ rule4 o ∷ rule5 s o ∷ rule6 pair wanted ∷ rule7 ∷ []
  pub of_a_table : (t : Table) (s o : List ℕ) (wanted : ℕ) → seven_rules t s o wanted ≡ rules_for s o (modes_between t s o) wanted

-- 02, Six: 'Old files must still load'. What a line said by 01, when b was a letter of a rule like the others; and that every line does to the tables now
-- what it did then, but for b. Assumes nothing.
use Rattle.std.specs.Prelude.{ℕ, ◌≡◌, Bool, true, cond, ◌&&◌, List, [], ◌∷◌, map, length, ltb, Option, Some, None, Result}
use Rattle.search.specs.Bytes.{ascii, same_bytes}
use Rattle.refusals.specs.Refusals.{too_long, wrong_fields, bad_label_at, bad_access, same_labels}
use Rattle.alphabet.specs.Alphabet.{dash, well_formed, line_limit, fields, bad_byte_in}
use Rattle.modes.specs.Modes.{read_modes, line_letters, stored_modes, has_bring_up, bit_of, has, one_of}
use Rattle.refusals.specs.declared.Refusal.{Refusal}
use Rattle.lines.specs.Lines.{Said, skipped, refused, rule, rule_by, rule_of, bring_up_in}
use Rattle.store.specs.declared.Rule.{Rule}
use Rattle.store.specs.Table.{Table, with_rules, fresh}
use Rattle.store.specs.Judged.{table_after}
use Rattle.writes.specs.Writes.{judged, outcome_of}
use Rattle.writes.specs.declared.Outcome.{Outcome}
use Rattle.access.specs.Access.{answer}

-- ---- 01's reading of a line: it says all the letters of its access field, b too. (Which bytes 01 allowed there, rwxatbRWXATB and the dash, is `line_bytes`
-- of modes/specs/Modes: they are the same now. b has here the bit that the reading of a line gives it; in lent memory it was 1, and such a state is refused
-- with 0 and not spoken of here)

abbrev pub rule_with_01 : List ℕ → List ℕ → Option ℕ → Said
rule_with_01 s o None = refused bad_access
rule_with_01 s o (Some m) = cond (same_bytes s o) (refused same_labels) (rule s o m)

abbrev pub rule_fields_01 : ℕ → List (List ℕ) → Said
rule_fields_01 place [] = skipped
rule_fields_01 place (s ∷ []) = refused wrong_fields
rule_fields_01 place (s ∷ o ∷ []) = refused wrong_fields
rule_fields_01 place (s ∷ o ∷ a ∷ []) = cond (well_formed s && well_formed o) (rule_with_01 s o (read_modes line_letters true a)) (refused (bad_label_at place))
rule_fields_01 place (s ∷ o ∷ a ∷ x ∷ more) = refused wrong_fields

unfoldable pub rule_of_01 : List ℕ → Said
rule_of_01 line = cond (ltb line_limit (length line)) (refused too_long) (rule_fields_01 (bad_byte_in line) (fields line))

-- ---- tables without b: of each rule's letters what may be stored now, and all else as it is

abbrev pub rule_without_b : Rule → Rule
rule_without_b r = record { subject = r.subject; object = r.object; modes = stored_modes r.modes }

abbrev pub without_b : Table → Table
without_b t = with_rules t (map rule_without_b t.rules)

-- ---- lines one after another, by a reading of them: the tables after them, and what became of each

abbrev pub tables_by : (List ℕ → Said) → Table → List (List ℕ) → Table
tables_by read t [] = t
tables_by read t (l ∷ ls) = tables_by read (table_after t (judged t (read l))) ls

abbrev pub outcomes_by : (List ℕ → Said) → Table → List (List ℕ) → List (Result Outcome Refusal)
outcomes_by read t [] = []
outcomes_by read t (l ∷ ls) = outcome_of (bring_up_in l) (judged t (read l)) ∷ outcomes_by read (table_after t (judged t (read l))) ls

-- a byte of an access field, with a dash in the place of b
abbrev pub dash_for_b : ℕ → ℕ
dash_for_b b = cond (one_of (ascii "bB") b) dash b

pub record AsBefore : Type 0 where
  -- b is a placeholder: three fields say what they say with a dash in the place of each b of the access field
  pub placeholder : (place : ℕ) (s o access : List ℕ) → rule_by place s o access ≡ rule_by place s o (map dash_for_b access)
  -- whatever the lines and the tables before: the tables after them are those of 01's reading, without b
  pub tables : (t : Table) (ls : List (List ℕ)) → tables_by rule_of (without_b t) ls ≡ without_b (tables_by rule_of_01 t ls)
  -- and each line is accepted, skipped or refused as it was, with the same number and place
  pub lines : (t : Table) (ls : List (List ℕ)) → outcomes_by rule_of (without_b t) ls ≡ outcomes_by rule_of_01 t ls
  -- and every question gets the answer that it would get of tables with b
  pub questions : (t : Table) (s o request : List ℕ) (capable : Bool) → answer (without_b t) s o request capable ≡ answer t s o request capable
  -- a fresh table has no b to lose. (That every other letter stays is `stored` of modes/specs/Modes)
  pub fresh_table : without_b fresh ≡ fresh
  -- such a line: by 01 it says r and b, and now r
  pub an_old_line :
      (rule_of_01 (ascii "Probe3 Air rBb") ≡ rule (ascii "Probe3") (ascii "Air") 96) × (has 96 (bit_of 114) ≡ true) × (has_bring_up 96 ≡ true)
      × (rule_of (ascii "Probe3 Air rBb") ≡ rule (ascii "Probe3") (ascii "Air") 32)

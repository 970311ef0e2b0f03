-- 01, Rule text and Single writes, and 02, Six: what a line of rule text and a change-rule write say by their bytes alone, with refusals 1 to 5 in
-- their order; and whether a line held the retired letter b. Assumes nothing.
use Rattle.std.specs.Prelude.{ℕ, Bool, true, false, cond, ◌&&◌, List, [], ◌∷◌, length, ltb, Option, Some, None}
use Rattle.search.specs.Bytes.{same_bytes}
use Rattle.refusals.specs.Refusals.{too_long, wrong_fields, bad_label_at, bad_access, same_labels}
use Rattle.refusals.specs.declared.Refusal.{Refusal}
use Rattle.alphabet.specs.Alphabet.{well_formed, line_limit, fields, bad_byte_in}
use Rattle.modes.specs.Modes.{read_modes, modes_of, line_letters, change_letters, stored_modes, has_bring_up}

-- ---- a line of rule text: subject, object, access

-- what a line or a write says: nothing (only blanks), a refusal, a rule by its subject, its object and its modes, or a change by
-- its subject, its object, the modes that it allows and those that it denies
pub data Said : Type 0 where
  skipped : Said
  refused : Refusal → Said
  rule : List ℕ → List ℕ → ℕ → Said
  change : List ℕ → List ℕ → ℕ → ℕ → Said

-- the access field has a byte not allowed there, then subject equals object; a b in it is a placeholder (02, Six)
abbrev pub rule_with : List ℕ → List ℕ → Option ℕ → Said
rule_with s o None = refused bad_access
rule_with s o (Some m) = cond (same_bytes s o) (refused same_labels) (rule s o (stored_modes m))

-- before these, a label is not well formed; with the place of the first bad byte in the line (02, Three)
unfoldable pub rule_by : ℕ → List ℕ → List ℕ → List ℕ → Said
rule_by place s o a = cond (well_formed s && well_formed o) (rule_with s o (read_modes line_letters true a)) (refused (bad_label_at place))

-- not three fields; no field at all is a line that is skipped
abbrev pub rule_fields : ℕ → List (List ℕ) → Said
rule_fields place [] = skipped
rule_fields place (s ∷ []) = refused wrong_fields
rule_fields place (s ∷ o ∷ []) = refused wrong_fields
rule_fields place (s ∷ o ∷ a ∷ []) = rule_by place s o a
rule_fields place (s ∷ o ∷ a ∷ x ∷ more) = refused wrong_fields

-- too many bytes, before all else
unfoldable pub rule_of : List ℕ → Said
unfolding rule_by
rule_of line = cond (ltb line_limit (length line)) (refused too_long) (rule_fields (bad_byte_in line) (fields line))

-- 02, Six: whether the access field of a line held b, in either case
abbrev pub bring_up_among : List (List ℕ) → Bool
bring_up_among [] = false
bring_up_among (s ∷ []) = false
bring_up_among (s ∷ o ∷ []) = false
bring_up_among (s ∷ o ∷ a ∷ more) = has_bring_up (modes_of a)

unfoldable pub bring_up_in : List ℕ → Bool
bring_up_in line = bring_up_among (fields line)

-- ---- a change-rule write: subject, object, allow, deny

abbrev pub change_with : List ℕ → List ℕ → Option ℕ → Option ℕ → Said
change_with s o None d = refused bad_access
change_with s o (Some a) None = refused bad_access
change_with s o (Some a) (Some d) = cond (same_bytes s o) (refused same_labels) (change s o a d)

unfoldable pub change_by : ℕ → List ℕ → List ℕ → List ℕ → List ℕ → Said
change_by place s o a d =
    cond (well_formed s && well_formed o)
    (change_with s o (read_modes change_letters true a) (read_modes change_letters true d))
    (refused (bad_label_at place))

abbrev pub change_fields : ℕ → List (List ℕ) → Said
change_fields place [] = refused wrong_fields
change_fields place (s ∷ []) = refused wrong_fields
change_fields place (s ∷ o ∷ []) = refused wrong_fields
change_fields place (s ∷ o ∷ a ∷ []) = refused wrong_fields
change_fields place (s ∷ o ∷ a ∷ d ∷ []) = change_by place s o a d
change_fields place (s ∷ o ∷ a ∷ d ∷ x ∷ more) = refused wrong_fields

unfoldable pub change_of : List ℕ → Said
unfolding change_by
change_of line = cond (ltb line_limit (length line)) (refused too_long) (change_fields (bad_byte_in line) (fields line))

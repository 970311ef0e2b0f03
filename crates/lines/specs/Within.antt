-- Where in the line the fields of what is said stand: the answers of the code, which name a label by its place in the line. Nobody has to believe
-- it: the contracts say of each answer that it says what `rule_of` and `change_of` say. Assumes nothing.
use Rattle.std.specs.Prelude.{ℕ, ◌<◌, ◌≤◌, ◌≡◌, Bool, true, cond, ◌&&◌, List, length, ltb, Option, Some, None, Result, Ok, Err}
use Rattle.search.specs.Bytes.{same_bytes}
use Rattle.refusals.specs.Refusals.{too_long, wrong_fields, bad_label_at, bad_access, same_labels}
use Rattle.refusals.specs.declared.Refusal.{Refusal}
use Rattle.alphabet.specs.Alphabet.{well_formed, line_limit, bad_byte_in}
use Rattle.alphabet.specs.Within.{field_at, part}
use Rattle.alphabet.specs.declared.Field.{Field}
use Rattle.alphabet.specs.declared.Field.TheVariants.{Part, End}
use Rattle.modes.specs.Modes.{read_modes, line_letters, change_letters, known_modes, stored_modes, has_bring_up}
use Rattle.lines.specs.Lines.{Said, skipped, refused, rule, change}
use Rattle.lines.specs.declared.Span.{Span}
use Rattle.lines.specs.declared.Pair.{Pair}
use Rattle.lines.specs.declared.Labels.{Labels}
use Rattle.lines.specs.declared.RuleLine.{RuleLine}
use Rattle.lines.specs.declared.ChangeLine.{ChangeLine}

-- the bytes of a line at a span
abbrev pub at : List ℕ → Span → List ℕ
at line s = part line s.start s.end

abbrev pub span : ℕ → ℕ → Span
span a b = record { start = a; end = b }

abbrev pub pair : ℕ → ℕ → ℕ → ℕ → Pair
pair a b c d = record { subject = span a b; object = span c d }

-- what an answer says, of the line that it was read from
abbrev pub rule_said : List ℕ → Result (Option RuleLine) Refusal → Said
rule_said line (Ok (Some r)) = rule (at line r.labels.subject) (at line r.labels.object) r.modes
rule_said line (Ok None) = skipped
rule_said line (Err n) = refused n

abbrev pub change_said : List ℕ → Result ChangeLine Refusal → Said
change_said line (Ok c) = change (at line c.labels.subject) (at line c.labels.object) c.allow c.deny
change_said line (Err n) = refused n

-- a field is a part of the line, and has a byte; and modes are such as a table may store
pub record SpanInside (line : List ℕ) (s : Span) : Type 0 where
  pub starts : s.start < s.end
  pub ends : s.end ≤ length line

abbrev pub RuleInside : List ℕ → Result (Option RuleLine) Refusal → Type 0
RuleInside line (Ok (Some r)) = SpanInside line r.labels.subject × SpanInside line r.labels.object × (known_modes r.modes ≡ true)
RuleInside line (Ok None) = Unit {0}
RuleInside line (Err n) = Unit {0}

abbrev pub ChangeInside : List ℕ → Result ChangeLine Refusal → Type 0
ChangeInside line (Ok c) = SpanInside line c.labels.subject × SpanInside line c.labels.object × (known_modes c.allow ≡ true) × (known_modes c.deny ≡ true)
ChangeInside line (Err n) = Unit {0}

-- whether a rule's line held b
abbrev pub RuleHeld : Result (Option RuleLine) Refusal → Bool → Type 0
RuleHeld (Ok (Some r)) b = r.bring_up ≡ b
RuleHeld (Ok None) b = Unit {0}
RuleHeld (Err n) b = Unit {0}

-- ---- what both kinds of line share

-- whether both labels are well formed, and whether they are the same
module _ (line : List ℕ) (p : Pair) where
  abbrev pub formed_at : Bool
  formed_at = well_formed (at line p.subject) && well_formed (at line p.object)

  abbrev pub same_at : Bool
  same_at = same_bytes (at line p.subject) (at line p.object)

-- the labels are well formed; and, behind the access fields, they are not the same
module _ {A : Type 0} (refuse : Refusal → A) (line : List ℕ) (p : Pair) where
  abbrev pub labels_at : A → A
  labels_at x = cond (formed_at line p) x (refuse (bad_label_at (bad_byte_in line)))

  abbrev pub apart_at : A → A
  apart_at x = cond (same_at line p) (refuse same_labels) x

-- a kind of line with answers A: its refusals, what is said of a line without a field, and what is said of one with two labels, by the fields from
-- an index on
pub record Kind (A : Type 0) : Type 0 where
  pub refuse : Refusal → A
  pub none : A
  pub more : List ℕ → Pair → ℕ → A

module _ {A : Type 0} (k : Kind A) (line : List ℕ) where
  abbrev pub second_at : ℕ → ℕ → Field → A
  second_at a b End = k.refuse wrong_fields
  second_at a b (Part c d) = k.more line (pair a b c d) d

  abbrev pub first_at : Field → A
  first_at End = k.none
  first_at (Part a b) = second_at a b (field_at line b)

  abbrev pub line_at : A
  line_at = cond (ltb line_limit (length line)) (k.refuse too_long) (first_at (field_at line 0))

-- the two labels that a line begins with, whatever follows them
abbrev pub labels_of : List ℕ → Pair → Labels
labels_of line p = record { pair = p; subject_formed = well_formed (at line p.subject); object_formed = well_formed (at line p.object) }

abbrev pub labels_kind : Kind (Result (Option Labels) Refusal)
labels_kind = record { refuse = Err; none = Ok None; more = λ line p from. Ok (Some (labels_of line p)) }

unfoldable pub two_labels_at : List ℕ → Result (Option Labels) Refusal
two_labels_at line = line_at labels_kind line

-- what is known of them: the line is not too long; they are its first two fields, and so parts of it; and whether each is well formed
pub record TwoLabels (line : List ℕ) (l : Labels) : Type 0 where
  pub short : length line ≤ line_limit
  pub first : field_at line 0 ≡ Part l.pair.subject.start l.pair.subject.end
  pub second : field_at line l.pair.subject.end ≡ Part l.pair.object.start l.pair.object.end
  pub subject : SpanInside line l.pair.subject
  pub object : SpanInside line l.pair.object
  pub formed : labels_of line l.pair ≡ l

-- ---- a line of rule text

abbrev pub rule_at_access : List ℕ → Pair → Option ℕ → Result (Option RuleLine) Refusal
rule_at_access line p None = Err bad_access
rule_at_access line p (Some m) = apart_at Err line p (Ok (Some (record { labels = p; modes = stored_modes m; bring_up = has_bring_up m })))

abbrev pub rule_at_fourth : List ℕ → Pair → Span → Field → Result (Option RuleLine) Refusal
rule_at_fourth line p a End = labels_at Err line p (rule_at_access line p (read_modes line_letters true (at line a)))
rule_at_fourth line p a (Part g h) = Err wrong_fields

abbrev pub rule_at_third : List ℕ → Pair → Field → Result (Option RuleLine) Refusal
rule_at_third line p End = Err wrong_fields
rule_at_third line p (Part e f) = rule_at_fourth line p (span e f) (field_at line f)

abbrev pub rule_kind : Kind (Result (Option RuleLine) Refusal)
rule_kind = record { refuse = Err; none = Ok None; more = λ line p from. rule_at_third line p (field_at line from) }

unfoldable pub rule_line_at : List ℕ → Result (Option RuleLine) Refusal
rule_line_at line = line_at rule_kind line

-- ---- a change-rule write

abbrev pub change_at_access : List ℕ → Pair → Option ℕ → Option ℕ → Result ChangeLine Refusal
change_at_access line p None d = Err bad_access
change_at_access line p (Some a) None = Err bad_access
change_at_access line p (Some a) (Some d) = apart_at Err line p (Ok (record { labels = p; allow = a; deny = d }))

abbrev pub change_at_fifth : List ℕ → Pair → Span → Span → Field → Result ChangeLine Refusal
change_at_fifth line p a d End =
    labels_at Err line p (change_at_access line p (read_modes change_letters true (at line a)) (read_modes change_letters true (at line d)))
change_at_fifth line p a d (Part i j) = Err wrong_fields

abbrev pub change_at_fourth : List ℕ → Pair → Span → Field → Result ChangeLine Refusal
change_at_fourth line p a End = Err wrong_fields
change_at_fourth line p a (Part g h) = change_at_fifth line p a (span g h) (field_at line h)

abbrev pub change_at_third : List ℕ → Pair → Field → Result ChangeLine Refusal
change_at_third line p End = Err wrong_fields
change_at_third line p (Part e f) = change_at_fourth line p (span e f) (field_at line f)

abbrev pub change_kind : Kind (Result ChangeLine Refusal)
change_kind = record { refuse = Err; none = Err wrong_fields; more = λ line p from. change_at_third line p (field_at line from) }

unfoldable pub change_line_at : List ℕ → Result ChangeLine Refusal
change_line_at line = line_at change_kind line

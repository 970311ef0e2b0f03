-- 02, One: old fixed records. A rule as a record of 53 bytes, the source's fixed load form, turned into a rule line and back. Assumes nothing.
use Rattle.std.specs.Prelude.{ℕ, zero, suc, ◌+◌, ◌-◌, ◌≤◌, ◌≡◌, Bool, true, false, cond, ◌&&◌, List, [], ◌∷◌, ◌++◌, map, length, take, drop, get_or, eqb, leb, Option, Some, None, Ok}
use Rattle.refusals.specs.Refusals.{too_long, wrong_fields, bad_label, bad_access, bad_record, not_in_a_record}
use Rattle.search.specs.Bytes.{ascii, same_bytes}
use Rattle.alphabet.specs.Alphabet.{space, newline, dash, is_newline, well_formed}
use Rattle.text_lines.specs.TextLines.{lines}
use Rattle.modes.specs.Modes.{letters, allowed_byte, modes_of, has, modes_text}
use Rattle.modes.specs.declared.Letter.{Letter}
use Rattle.lines.specs.Lines as said
use Rattle.lines.specs.Lines.{Said, rule_with, rule_of}
use Rattle.output.specs.Output.{Text, text, refused, text_answer, text_out}
use Rattle.rule_text.specs.RuleText.{text_of}

-- ---- the record: two 24-byte labels and five access bytes

-- the most bytes of a label in a record, the bytes of a label's place, and those of the record
abbrev pub record_label : ℕ
record_label = 23

abbrev pub label_place : ℕ
label_place = 24

abbrev pub record_size : ℕ
record_size = 53

-- where the access bytes begin; the places of subject and object, and the access bytes
abbrev pub access_from : ℕ
access_from = label_place + label_place

abbrev pub subject_place : List ℕ → List ℕ
subject_place r = take label_place r

abbrev pub object_place : List ℕ → List ℕ
object_place r = take label_place (drop label_place r)

abbrev pub access_bytes : List ℕ → List ℕ
access_bytes r = drop access_from r

-- n spaces; and a label at the left of its place, filled with spaces
abbrev pub spaces : ℕ → List ℕ
spaces zero = []
spaces (suc n) = space ∷ spaces n

unfoldable pub filled : List ℕ → List ℕ
filled l = l ++ spaces (label_place - length l)

-- the label of a place: its bytes before the first space
unfoldable pub place_label : List ℕ → List ℕ
place_label [] = []
place_label (b ∷ bs) = cond (eqb b space) [] (b ∷ place_label bs)

-- the place holds a label of 1 to 23 bytes, filled with spaces
unfoldable pub is_place : List ℕ → Bool
unfolding filled place_label
is_place p = leb 1 (length (place_label p)) && (leb (length (place_label p)) record_label && same_bytes p (filled (place_label p)))

-- r, w, x, a, t: the letters that have a place, in its order
abbrev pub five_letters : List Letter
five_letters = take 5 letters

-- the access bytes are these letters in their own places: byte k is letter k, either case, or a dash, as in an access field that allows this letter alone
unfoldable pub in_own_places : List Letter → List ℕ → Bool
in_own_places ls [] = true
in_own_places [] (b ∷ bs) = false
in_own_places (l ∷ ls) (b ∷ bs) = allowed_byte l.bit true b && in_own_places ls bs

abbrev pub record_access : List ℕ → Option ℕ
record_access access = cond (in_own_places five_letters access) (Some (modes_of access)) None

-- ---- what a record says: it is no record (14); then, in the order of a line, a label is not well formed (3), an access byte is not allowed (4), subject equals
-- object (5); or a rule

unfoldable pub is_record : List ℕ → Bool
unfolding is_place
is_record r = eqb (length r) record_size && (is_place (subject_place r) && is_place (object_place r))

abbrev pub said_by : List ℕ → List ℕ → List ℕ → Said
said_by s o access = cond (well_formed s && well_formed o) (rule_with s o (record_access access)) (said.refused bad_label)

unfoldable pub record_says : List ℕ → Said
unfolding is_record place_label
record_says r = cond (is_record r) (said_by (place_label (subject_place r)) (place_label (object_place r)) (access_bytes r)) (said.refused bad_record)

-- ---- a record to a line, in the listing's form

-- a text made of a rule that is said, or the refusal. A line without a field, which is skipped where rule text is
-- loaded, has the wrong number of fields here; neither a record nor a line of rule text says a change
abbrev pub of_rule : (List ℕ → List ℕ → ℕ → Text) → Said → Text
of_rule made said.skipped = refused wrong_fields
of_rule made (said.refused r) = refused r
of_rule made (said.rule s o m) = made s o m
of_rule made (said.change s o a d) = refused wrong_fields

-- a rule in the listing's form
abbrev pub listing_line : List ℕ → List ℕ → ℕ → List ℕ
listing_line s o m = text_of s o (modes_text m)

abbrev pub as_line : Said → Text
as_line x = of_rule (λ s o m. text (listing_line s o m)) x

unfoldable pub line_from : List ℕ → Text
unfolding record_says
line_from r = as_line (record_says r)

-- ---- a line to a record

-- the line is read with or without one closing newline
unfoldable pub without_newline : List ℕ → List ℕ
without_newline line = cond (is_newline (get_or line (length line - 1) 0)) (take (length line - 1) line) line

-- modes as access bytes: the letter of each place, or a dash
abbrev pub in_places : List Letter → ℕ → List ℕ
in_places [] m = []
in_places (l ∷ ls) m = cond (has m l.bit) l.letter dash ∷ in_places ls m

-- a rule as a record
unfoldable pub record_of : List ℕ → List ℕ → ℕ → List ℕ
unfolding filled
record_of s o m = filled s ++ (filled o ++ in_places five_letters m)

-- a label over 23 bytes has no place in a record (02, Six: a b in the line is dropped)
unfoldable pub fits_a_record : List ℕ → List ℕ → Bool
fits_a_record s o = leb (length s) record_label && leb (length o) record_label

abbrev pub if_it_fits : List ℕ → List ℕ → ℕ → Text
if_it_fits s o m = cond (fits_a_record s o) (text (record_of s o m)) (refused not_in_a_record)

unfoldable pub record_from : List ℕ → Text
unfolding without_newline record_of fits_a_record
record_from line = of_rule if_it_fits (rule_of (without_newline line))

-- ---- there and back

-- a record with its access letters in lower case
abbrev pub lower_case : ℕ → ℕ
lower_case b = cond (leb 65 b && leb b 90) (b + 32) b

abbrev pub lowered : List ℕ → List ℕ
lowered r = take access_from r ++ map lower_case (access_bytes r)

-- what stands where in a record; in lower case nothing but its access bytes can change
pub record Parts (r s o a : List ℕ) : Type 0 where
  pub subject : subject_place r ≡ s
  pub object : object_place r ≡ o
  pub access : access_bytes r ≡ a
  pub lower : lowered r ≡ s ++ (o ++ map lower_case a)

-- a text that is one line of rule text, and what it says when it is loaded
pub record OneLine (t : List ℕ) (says : Said) : Type 0 where
  pub line : List ℕ
  pub one : lines t ≡ line ∷ []
  pub ended : t ≡ line ++ (newline ∷ [])
  pub rule : rule_of line ≡ says

-- what is said is a rule, and a text is this rule in a form
pub record InForm (form : List ℕ → List ℕ → ℕ → List ℕ) (says : Said) (x : Text) : Type 0 where
  pub subject : List ℕ
  pub object : List ℕ
  pub modes : ℕ
  pub rule : says ≡ said.rule subject object modes
  pub written : x ≡ text (form subject object modes)

-- the record r turned into a line in one lent output, and the bytes that were written there, as many as were answered, turned back in another, which has
-- room for a record
abbrev pub BackByCalls : List ℕ → List ℕ → List ℕ → ℕ → Type 0
BackByCalls r out back n =
    (text_answer (record_from (take n (text_out (line_from r) out))) back ≡ Ok record_size)
    × (text_out (record_from (take n (text_out (line_from r) out))) back ≡ lowered r ++ drop record_size back)

pub record OldRecords : Type 0 where
  -- a record is two 24-byte labels and five access bytes
  pub parts : (s o a : List ℕ) → length s ≡ 24 → length o ≡ 24 → length a ≡ 5 → Parts (s ++ (o ++ a)) s o a
  pub letters : map lower_case (ascii "rwxatRWXAT-") ≡ ascii "rwxatrwxat-"
  -- what an accepted record says is the rule whose record it is, but for the case of its access letters
  pub says : (r s o : List ℕ) (m : ℕ) → record_says r ≡ said.rule s o m → lowered r ≡ record_of s o m
  -- the line of an accepted record is what it says in the listing's form; the record of an accepted line is what that says as a record
  pub line_form : (r t : List ℕ) → line_from r ≡ text t → InForm listing_line (record_says r) (text t)
  pub record_form : (l t : List ℕ) → record_from l ≡ text t → InForm record_of (rule_of (without_newline l)) (text t)
  -- an accepted record turned there and back is the same but for its access letters, now in lower case: as texts, and as a host calls it
  pub record_and_back : (r t : List ℕ) → line_from r ≡ text t → record_from t ≡ text (lowered r)
  pub by_calls : (r out back : List ℕ) (n : ℕ) → text_answer (line_from r) out ≡ Ok n → record_size ≤ length back → BackByCalls r out back n
  -- an accepted line turned there and back is the listing's form of that line
  pub line_and_back : (l t : List ℕ) → record_from l ≡ text t → InForm listing_line (rule_of (without_newline l)) (line_from t)
  -- the text of an accepted record is one line, which says when it is loaded what the record says
  pub loaded : (r t : List ℕ) → line_from r ≡ text t → OneLine t (record_says r)
  -- a record has 53 bytes, and its line at most 54
  pub record_bytes : (l t : List ℕ) → record_from l ≡ text t → length t ≡ 53
  pub line_bytes : (r t : List ℕ) → line_from r ≡ text t → length t ≤ 54
  -- a line is read with or without one closing newline: one is taken off, and no other byte
  pub one_newline : (l : List ℕ) → without_newline (l ++ (newline ∷ [])) ≡ l
  pub no_newline : (l : List ℕ) (b : ℕ) → is_newline b ≡ false → without_newline (l ++ (b ∷ [])) ≡ l ++ (b ∷ [])
  pub no_byte : without_newline [] ≡ []
  -- another is a byte of its field; the closing one does not count among the 600 bytes
  pub another : (record_from (ascii "A B r\n\n") ≡ refused bad_access) × (record_from (ascii "A B r \n\n") ≡ refused wrong_fields)
  pub counted : (record_from (spaces 600 ++ (newline ∷ [])) ≡ refused wrong_fields) × (record_from (spaces 601) ≡ refused too_long)
  -- one each way, byte by byte
  pub example : line_from (ascii "Probe-North             Store                   Rw-aT") ≡ text (ascii "Probe-North Store rwat\n")
  pub example_back : record_from (ascii " Store  ^ xR-") ≡ text (ascii "Store                   ^                       r-x--")
  -- 02, Six: b is dropped
  pub b_dropped : record_from (ascii "Store ^ Brb") ≡ text (ascii "Store                   ^                       r----")

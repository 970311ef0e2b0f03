-- Demand 1: bad input is refused by a number from the list. 01, The refusal numbers: of each call the faults that it can have, in 01's order, each as
-- the test that 01's table says in words, by the fields of the text and the tables as they are; so of 02's calls in 02's order and words. A call
-- is refused by the first that holds, and by none exactly when none holds. A refusal is its number, and its place where it has one (02, Three). Assumes
-- nothing.
use Rattle.std.specs.Prelude.{ℕ, ◌+◌, ◌-◌, ◌≡◌, Bool, true, false, cond, not, ◌&&◌, ◌||◌, List, [], ◌∷◌, ◌↔◌, length, drop, get_or, eqb, ltb, leb, Option, Some, None, Result, Ok, Err}
use Rattle.refusals.specs.Refusals as refusal
use Rattle.refusals.specs.declared.Refusal.{Refusal}
use Rattle.search.specs.Search.{all, those, entries}
use Rattle.search.specs.Bytes.{ascii, same_bytes}
use Rattle.alphabet.specs.Alphabet.{well_formed, bad_byte, bad_byte_of_two, fields, bad_byte_in, line_limit, dash, space}
use Rattle.modes.specs.Modes.{allowed_byte, line_letters, change_letters, request_letters, modes_of, modes_text, any, one_of}
use Rattle.numbers.specs.Numbers.{number_of}
use Rattle.numbers.specs.Categories.{is_level, own_level, is_mapping_level, is_category, known_set}
use Rattle.numbers.specs.declared.CategorySet.{CategorySet}
use Rattle.lookups.specs.declared.Cipso.{Cipso}
use Rattle.set_bytes.specs.SetBytes.{set_of_bitmap, only_categories, own_bytes, set_of_own}
use Rattle.store.specs.Table.{Table, label_in, mapping_in, rule_numbered, label_limit, rule_limit, mapping_limit, onlycap_limit}
use Rattle.store.specs.Pairs.{modes_between}
use Rattle.store.specs.Layout.{Store, table_of, full_sizes, undamaged_of}
use Rattle.store.specs.Judged.{fresh_answer}
use Rattle.load.specs.Loader.{Load, ready, piece_answer, end_answer}
use Rattle.writes.specs.Writes.{line_outcome, change_answer}
use Rattle.writes.specs.declared.Outcome.TheVariants as v
use Rattle.revoke.specs.Revoke.{revoke_answer}
use Rattle.onlycap.specs.Onlycap.{onlycap_answer}
use Rattle.cipso.specs.Cipso.{mapping_longest, map_answer}
use Rattle.lookups.specs.Lookups.{label_lookup, has_both, by_label_of, by_level_of}
use Rattle.cipso_option.specs.Option.{trimmed, option_of, own_longest, option_answer, not_read, peer_given}
use Rattle.run.specs.declared.Record.{Record}
use Rattle.run.specs.Run.{run_of}
use Rattle.access.specs.Access.{is_found, answer, question_of}
use Rattle.access.specs.declared.Answer.TheVariants as a
use Rattle.new_object.specs.NewObject.{object_label_of}
use Rattle.listing.specs.Listing.{rule_text, list_answer, label_answer}
use Rattle.output.specs.Output.{text_answer}
use Rattle.rule_text.specs.RuleText.{text_of}
use Rattle.fixed_load.specs.Records.{record_label, record_size, subject_place, object_place, access_bytes, place_label, line_from, without_newline, record_from}
use Rattle.program.specs.Program.{answer_to}
use Rattle.grown.specs.Pairs.{new_labels, has_rule}

-- ---- the first fault

infix 70 ◌when◌
-- a refusal, and the test for which it is given
pub record Fault (R : Type 0) : Type 0 where
  pub refusal : R
  pub holds : Bool

-- `r when test`: the refusal r is given where the test holds
abbrev pub ◌when◌ : {R : Type 0} → R → Bool → Fault R
◌when◌ r test = record { refusal = r; holds = test }

-- what a list of faults comes to: no refusal, or one
pub data First (R : Type 0) : Type 0 where
  none : First R
  by : R → First R

-- 01: the first in this order is given; none where none holds
abbrev pub first_fault : {R : Type 0} → List (Fault R) → First R
first_fault [] = none
first_fault (x ∷ xs) = cond x.holds (by x.refusal) (first_fault xs)

-- an answer is refused with r exactly when r is the first fault that holds: so it is no refusal exactly when none holds
abbrev pub Refuses : {A R : Type 0} → A → (R → A) → List (Fault R) → Type 0
Refuses {A} {R} answer refused faults = (r : R) → (answer ≡ refused r) ↔ (first_fault faults ≡ by r)

-- ---- the tests that several calls share

-- a line or write has over 600 bytes, a mapping write over 1,000
abbrev pub is_too_long : List ℕ → Bool
is_too_long text = ltb line_limit (length text)

abbrev pub is_too_long_mapping : List ℕ → Bool
is_too_long_mapping text = ltb mapping_longest (length text)

-- of the fields of a text, field k, from 0
abbrev pub field : List (List ℕ) → ℕ → List ℕ
field fs k = get_or fs k []

-- of subject and object, one is not well formed
abbrev pub bad_labels : List ℕ → List ℕ → Bool
bad_labels s o = not (well_formed s) || not (well_formed o)

-- an access field has a byte not allowed there: it may have these letters and, where `dashes` says so, dashes
abbrev pub bad_access_field : ℕ → Bool → List ℕ → Bool
bad_access_field letters dashes access = not (all (allowed_byte letters dashes) access)

-- the free label places
abbrev pub free_places : Table → ℕ
free_places t = label_limit - length t.labels

-- what a pair needs room for: more new labels than free label places; the pair has no rule and 256 are stored
abbrev pub pair_faults : Table → List ℕ → List ℕ → List (Fault Refusal)
pair_faults t s o =
    refusal.labels_full when ltb (free_places t) (new_labels (label_in t s) + new_labels (label_in t o))
    ∷ refusal.rules_full when (not (has_rule (modes_between t s o)) && eqb (length t.rules) rule_limit)
    ∷ []

-- ---- a line of rule text: 1 2 3 4 5 6 7

-- of its fields, subject, object, access, in which b may stand too (02, Six), and the place of the first bad byte
abbrev pub line_field_faults : Table → ℕ → List (List ℕ) → List (Fault Refusal)
line_field_faults t place fs =
    refusal.wrong_fields when not (eqb (length fs) 3)
    ∷ refusal.bad_label_at place when bad_labels (field fs 0) (field fs 1)
    ∷ refusal.bad_access when bad_access_field line_letters true (field fs 2)
    ∷ refusal.same_labels when same_bytes (field fs 0) (field fs 1)
    ∷ pair_faults t (field fs 0) (field fs 1)

-- of the line; where it has no field it is skipped, and has no further fault
abbrev pub line_faults : Table → List ℕ → List (Fault Refusal)
line_faults t text = refusal.too_long when is_too_long text ∷ cond (eqb (length (fields text)) 0) [] (line_field_faults t (bad_byte_in text) (fields text))

-- ---- change: the same

-- of its fields, subject, object, allow, deny, and the place
abbrev pub change_field_faults : Table → ℕ → List (List ℕ) → List (Fault Refusal)
change_field_faults t place fs =
    refusal.wrong_fields when not (eqb (length fs) 4)
    ∷ refusal.bad_label_at place when bad_labels (field fs 0) (field fs 1)
    ∷ refusal.bad_access when (bad_access_field change_letters true (field fs 2) || bad_access_field change_letters true (field fs 3))
    ∷ refusal.same_labels when same_bytes (field fs 0) (field fs 1)
    ∷ pair_faults t (field fs 0) (field fs 1)

-- of the write to a lent state: 0 comes before every other
abbrev pub change_faults : Store → List ℕ → List (Fault Refusal)
change_faults st text =
    refusal.damaged when not (undamaged_of st)
    ∷ refusal.too_long when is_too_long text
    ∷ change_field_faults (table_of st) (bad_byte_in text) (fields text)

-- ---- revoke: 1 3

-- the whole buffer is the label
abbrev pub revoke_faults : Store → List ℕ → List (Fault Refusal)
revoke_faults st text =
    refusal.damaged when not (undamaged_of st)
    ∷ refusal.too_long when is_too_long text
    ∷ refusal.bad_label_at (bad_byte text) when not (well_formed text)
    ∷ []

-- ---- the override list: 1 2 3 11 6

-- whether a label is one of some
abbrev pub is_one_of : List ℕ → List (List ℕ) → Bool
is_one_of x [] = false
is_one_of x (y ∷ ys) = same_bytes x y || is_one_of x ys

-- the different labels of a write: each once, where it stands last
abbrev pub different_ones : List (List ℕ) → List (List ℕ)
different_ones [] = []
different_ones (x ∷ xs) = cond (is_one_of x xs) (different_ones xs) (x ∷ different_ones xs)

-- those of them that are not among the stored ones
abbrev pub new_ones : List (List ℕ) → List (List ℕ) → List (List ℕ)
new_ones stored xs = those (λ (x : List ℕ). not (is_one_of x stored)) (different_ones xs)

-- a lone dash, which clears the list
abbrev pub clears : List (List ℕ) → Bool
clears fs = eqb (length fs) 1 && same_bytes (field fs 0) (dash ∷ [])

-- of its labels, which are the fields, and the place
abbrev pub onlycap_label_faults : Table → ℕ → List (List ℕ) → List (Fault Refusal)
onlycap_label_faults t place fs =
    refusal.bad_label_at place when not (all well_formed fs)
    ∷ refusal.too_many_overrides when ltb onlycap_limit (length (different_ones fs))
    ∷ refusal.labels_full when ltb (free_places t) (length (new_ones t.labels fs))
    ∷ []

-- of its fields; a lone dash has no further fault
abbrev pub onlycap_field_faults : Table → ℕ → List (List ℕ) → List (Fault Refusal)
onlycap_field_faults t place fs = refusal.wrong_fields when eqb (length fs) 0 ∷ cond (clears fs) [] (onlycap_label_faults t place fs)

-- of the write to a lent state
abbrev pub onlycap_faults : Store → List ℕ → List (Fault Refusal)
onlycap_faults st text =
    refusal.damaged when not (undamaged_of st)
    ∷ refusal.too_long when is_too_long text
    ∷ onlycap_field_faults (table_of st) (bad_byte_in text) (fields text)

-- ---- mapping: 1 2 3 9 6 10

-- a field is a number that passes a test
abbrev pub number_passes : (ℕ → Bool) → Option ℕ → Bool
number_passes test (Some n) = test n
number_passes test None = false

-- a level of a mapping, as 01 and 02, Five, have it: not 250; and a category, as 02, Four, has it
abbrev pub level_field : List ℕ → Bool
level_field x = number_passes is_mapping_level (number_of x)

abbrev pub category_field : List ℕ → Bool
category_field x = number_passes is_category (number_of x)

-- whether a label, by its number, has a mapping; a label that is not in the table has none
abbrev pub has_mapping : Table → Option ℕ → Bool
has_mapping t (Some n) = is_found (mapping_in t n)
has_mapping t None = false

-- of its fields, label, level, then no or more categories, and the place
abbrev pub mapping_field_faults : Table → ℕ → List (List ℕ) → List (Fault Refusal)
mapping_field_faults t place fs =
    refusal.wrong_fields when ltb (length fs) 2
    ∷ refusal.bad_label_at place when not (well_formed (field fs 0))
    ∷ refusal.bad_level_or_category when (not (level_field (field fs 1)) || not (all category_field (drop 2 fs)))
    ∷ refusal.labels_full when ltb (free_places t) (new_labels (label_in t (field fs 0)))
    ∷ refusal.mappings_full when (not (has_mapping t (label_in t (field fs 0))) && eqb (length t.mappings) mapping_limit)
    ∷ []

-- of the write to a lent state
abbrev pub mapping_faults : Store → List ℕ → List (Fault Refusal)
mapping_faults st text =
    refusal.damaged when not (undamaged_of st)
    ∷ refusal.too_long when is_too_long_mapping text
    ∷ mapping_field_faults (table_of st) (bad_byte_in text) (fields text)

-- ---- look-ups: by label 3; by level and set, in the table or a run, 9

-- by label
abbrev pub by_label_faults : Store → List ℕ → List (Fault Refusal)
by_label_faults st x = refusal.damaged when not (undamaged_of st) ∷ refusal.bad_label_at (bad_byte x) when not (well_formed x) ∷ []

-- in a run: the level is over 255, or the set has a bit that is no category. A run is no part of the state, and never gets 0
abbrev pub in_run_faults : ℕ → CategorySet → List (Fault Refusal)
in_run_faults level set = refusal.bad_level_or_category when (not (is_level level) || not (known_set set)) ∷ []

-- in the table
abbrev pub by_level_faults : Store → ℕ → CategorySet → List (Fault Refusal)
by_level_faults st level set = refusal.damaged when not (undamaged_of st) ∷ in_run_faults level set

-- ---- packet option (02, Five): written 3 19 12; read 16 17 18, then 3 at level 250 and 21 at any other

-- the option of a label: that of its mapping; its own bits at level 250 where it has none (one over 23 bytes has got 19 before). A label that is not well formed
-- has no option
abbrev pub option_for : List ℕ → Result (Option Cipso) Refusal → List ℕ
option_for x (Ok (Some m)) = option_of m.level m.set
option_for x (Ok None) = option_of own_level (set_of_own x)
option_for x (Err why) = []

-- the label is not well formed; it is unmapped and has over 23 bytes; its option is longer than the lent output
abbrev pub write_option_faults : Store → List ℕ → List ℕ → List (Fault Refusal)
write_option_faults st x out =
    refusal.damaged when not (undamaged_of st)
    ∷ refusal.bad_label_at (bad_byte x) when not (well_formed x)
    ∷ refusal.not_in_an_option when (not (has_mapping (table_of st) (label_in (table_of st) x)) && ltb own_longest (length x))
    ∷ refusal.output_too_short when ltb (length out) (length (option_for x (label_lookup (table_of st) x)))
    ∷ []

-- byte k, from 0, is not b
abbrev pub is_not : List ℕ → ℕ → ℕ → Bool
is_not option k b = not (eqb (get_or option k 0) b)

-- another layout: under 10 bytes or over 40, of which 30 are bitmap; or one of the bytes 134, total length, 1, tag length and 0 is another
abbrev pub other_layout : List ℕ → Bool
other_layout option =
    ltb (length option) 10
    || (ltb 40 (length option)
    || (is_not option 0 134
    || (is_not option 1 (length option)
    || (is_not option 6 1
    || (is_not option 7 (length option - 6)
    || is_not option 8 0)))))

-- another DOI than 3, high byte first
abbrev pub doi_is_not_3 : List ℕ → Bool
doi_is_not_3 option = is_not option 2 0 || (is_not option 3 0 || (is_not option 4 0 || is_not option 5 3))

-- the level, and the bitmap behind it
abbrev pub option_level : List ℕ → ℕ
option_level option = get_or option 9 0

abbrev pub option_bitmap : List ℕ → List ℕ
option_bitmap option = drop 10 option

-- the bytes of its categories, as those of a label's own bits, without trailing zero bytes
abbrev pub rebuilt : List ℕ → List ℕ
rebuilt option = trimmed (own_bytes (set_of_bitmap (option_bitmap option)))

-- a label of the table has this level and this set
abbrev pub some_label_has : Table → ℕ → CategorySet → Bool
some_label_has t level set = any (has_both t level set) (entries (λ (n : ℕ). n) (length t.labels))

-- another layout; another DOI; a bit of category 0 or above 184; at level 250 what is rebuilt is no label; at any other level no mapping matches
abbrev pub read_option_faults : Store → List ℕ → List (Fault Refusal)
read_option_faults st option =
    refusal.damaged when not (undamaged_of st)
    ∷ refusal.bad_option when other_layout option
    ∷ refusal.other_doi when doi_is_not_3 option
    ∷ refusal.bad_option_category when not (only_categories (option_bitmap option))
    ∷ refusal.bad_label when (eqb (option_level option) own_level && not (well_formed (rebuilt option)))
    ∷ refusal.no_such_mapping when (not (eqb (option_level option) own_level) && not (some_label_has (table_of st) (option_level option) (set_of_bitmap (option_bitmap option))))
    ∷ []

-- ---- question: 3 8

-- the first bad byte of the two labels; the request is empty or has another byte than r w x a, either case
abbrev pub ask_faults : List ℕ → List ℕ → List ℕ → List (Fault Refusal)
ask_faults s o request =
    refusal.bad_label_at (bad_byte_of_two s o) when bad_labels s o
    ∷ refusal.bad_request when (eqb (length request) 0 || bad_access_field request_letters false request)
    ∷ []

-- of a lent state
abbrev pub question_faults : Store → List ℕ → List ℕ → List ℕ → List (Fault Refusal)
question_faults st s o request = refusal.damaged when not (undamaged_of st) ∷ ask_faults s o request

-- a question line of the program: 1 2 3 8. It has three fields, or a fourth which is `o`. (Its place is in the label, not in the line, and is not printed)
abbrev pub asks_a_question : List (List ℕ) → Bool
asks_a_question fs = eqb (length fs) 3 || (eqb (length fs) 4 && same_bytes (field fs 3) (ascii "o"))

abbrev pub question_line_faults : List ℕ → List (Fault Refusal)
question_line_faults line =
    refusal.too_long when is_too_long line
    ∷ refusal.wrong_fields when not (asks_a_question (fields line))
    ∷ ask_faults (field (fields line) 0) (field (fields line) 1) (field (fields line) 2)

-- ---- label of a new object (02, Seven): 3

-- the creator's label or the folder's is not well formed, with the first bad byte of the two. (A host is told no place)
abbrev pub new_object_faults : Store → List ℕ → List ℕ → List (Fault Refusal)
new_object_faults st creator folder =
    refusal.damaged when not (undamaged_of st)
    ∷ refusal.bad_label_at (bad_byte_of_two creator folder) when bad_labels creator folder
    ∷ []

-- ---- listing: 13 12; label by number: 13

-- no rule of that number; its text is longer than the lent output
abbrev pub listing_faults : Store → ℕ → List ℕ → List (Fault Refusal)
listing_faults st k out =
    refusal.damaged when not (undamaged_of st)
    ∷ refusal.no_such_number when leb (length (table_of st).rules) k
    ∷ refusal.output_too_short when ltb (length out) (length (rule_text (table_of st) (rule_numbered (table_of st) k)))
    ∷ []

-- no label of that number
abbrev pub label_by_number_faults : Store → ℕ → List (Fault Refusal)
label_by_number_faults st k = refusal.damaged when not (undamaged_of st) ∷ refusal.no_such_number when leb (length (table_of st).labels) k ∷ []

-- ---- old records (02, One): a record 14 3 4 5 12; a line 1 2 3 4 5 15 12

-- a label place is all spaces
abbrev pub all_spaces : List ℕ → Bool
all_spaces place = all (λ (b : ℕ). eqb b space) place

-- it has another byte after a space
abbrev pub byte_after_space : List ℕ → Bool
byte_after_space [] = false
byte_after_space (b ∷ bs) = cond (eqb b space) (not (all_spaces bs)) (byte_after_space bs)

-- it ends in a space
abbrev pub ends_in_space : List ℕ → Bool
ends_in_space [] = false
ends_in_space (b ∷ []) = eqb b space
ends_in_space (b ∷ c ∷ bs) = ends_in_space (c ∷ bs)

-- it is all spaces, has another byte after a space or doesn't end in a space
abbrev pub bad_label_place : List ℕ → Bool
bad_label_place place = all_spaces place || (byte_after_space place || not (ends_in_space place))

-- access byte k, from 0, is none of those that its place may have
abbrev pub other_byte : List ℕ → ℕ → List ℕ → Bool
other_byte access k own = not (one_of own (get_or access k 0))

-- an access byte is neither a dash nor the letter of its place: r, w, x, a, t
abbrev pub bad_access_bytes : List ℕ → Bool
bad_access_bytes access =
    other_byte access 0 (ascii "rR-")
    || (other_byte access 1 (ascii "wW-")
    || (other_byte access 2 (ascii "xX-")
    || (other_byte access 3 (ascii "aA-")
    || other_byte access 4 (ascii "tT-"))))

-- the labels of a record, each at the left of its place
abbrev pub record_subject : List ℕ → List ℕ
record_subject r = place_label (subject_place r)

abbrev pub record_object : List ℕ → List ℕ
record_object r = place_label (object_place r)

-- of the record: a length other than 53 or a bad label place; then its labels, its access bytes, and the line, which is written in the listing's form
abbrev pub record_faults : List ℕ → List ℕ → List (Fault Refusal)
record_faults r out =
    refusal.bad_record when (not (eqb (length r) record_size) || (bad_label_place (subject_place r) || bad_label_place (object_place r)))
    ∷ refusal.bad_label when bad_labels (record_subject r) (record_object r)
    ∷ refusal.bad_access when bad_access_bytes (access_bytes r)
    ∷ refusal.same_labels when same_bytes (record_subject r) (record_object r)
    ∷ refusal.output_too_short when ltb (length out) (length (text_of (record_subject r) (record_object r) (modes_text (modes_of (access_bytes r)))))
    ∷ []

-- a label over 23 bytes
abbrev pub over_record_label : List ℕ → Bool
over_record_label x = ltb record_label (length x)

-- of the fields of a line, subject, object, access, in which a b is dropped (02, Six), and the place of the first bad byte
abbrev pub to_record_field_faults : ℕ → List (List ℕ) → List ℕ → List (Fault Refusal)
to_record_field_faults place fs out =
    refusal.wrong_fields when not (eqb (length fs) 3)
    ∷ refusal.bad_label_at place when bad_labels (field fs 0) (field fs 1)
    ∷ refusal.bad_access when bad_access_field line_letters true (field fs 2)
    ∷ refusal.same_labels when same_bytes (field fs 0) (field fs 1)
    ∷ refusal.not_in_a_record when (over_record_label (field fs 0) || over_record_label (field fs 1))
    ∷ refusal.output_too_short when ltb (length out) record_size
    ∷ []

-- of the line, which is read with or without one closing newline
abbrev pub line_to_record_faults : List ℕ → List ℕ → List (Fault Refusal)
line_to_record_faults line out =
    refusal.too_long when is_too_long (without_newline line)
    ∷ to_record_field_faults (bad_byte_in (without_newline line)) (fields (without_newline line)) out

-- ---- a fresh table, a piece, the end call: 0 alone

-- a part has not its full size
abbrev pub fresh_faults : Store → List (Fault Refusal)
fresh_faults st = refusal.damaged when not (full_sizes st) ∷ []

-- the tables or the loader are damaged
abbrev pub loader_faults : Load → List (Fault Refusal)
loader_faults s = refusal.damaged when not (ready s) ∷ []

-- ---- of every call. A line of rule text is judged in a state that was tested, and its number and place stand in the report

pub record FirstInOrder : Type 0 where
  pub fresh_table : (st : Store) → Refuses (fresh_answer st) Err (fresh_faults st)
  pub piece : (s : Load) (text : List ℕ) → Refuses (piece_answer s text) Err (loader_faults s)
  pub end_call : (s : Load) → Refuses (end_answer s) Err (loader_faults s)
  pub line : (st : Store) (text : List ℕ) → undamaged_of st ≡ true → Refuses (line_outcome st text) Err (line_faults (table_of st) text)
  -- (a line is skipped exactly where it is not too long and has no field)
  pub skipped_line : (st : Store) (text : List ℕ) → (line_outcome st text ≡ Ok v.Skipped) ↔ ((is_too_long text ≡ false) × (fields text ≡ []))
  pub change : (st : Store) (text : List ℕ) → Refuses (change_answer st text) Err (change_faults st text)
  pub revoke : (st : Store) (text : List ℕ) → Refuses (revoke_answer st text) Err (revoke_faults st text)
  pub onlycap : (st : Store) (text : List ℕ) → Refuses (onlycap_answer st text) Err (onlycap_faults st text)
  pub mapping : (st : Store) (text : List ℕ) → Refuses (map_answer st text) Err (mapping_faults st text)
  pub mapping_by_label : (st : Store) (x : List ℕ) → Refuses (by_label_of st x) Err (by_label_faults st x)
  pub by_level_and_set : (st : Store) (level : ℕ) (set : CategorySet) → Refuses (by_level_of st level set) Err (by_level_faults st level set)
  pub in_a_run : (run : List Record) (level : ℕ) (set : CategorySet) → Refuses (run_of run level set) Err (in_run_faults level set)
  pub write_option : (st : Store) (x out : List ℕ) → Refuses (option_answer st x out) Err (write_option_faults st x out)
  -- (where byte 9 is a byte: at most 255)
  pub read_option : (st : Store) (option : List ℕ) → is_level (option_level option) ≡ true → Refuses (peer_given st option) not_read (read_option_faults st option)
  pub question :
      (st : Store) (s o request : List ℕ) (capable : Bool) →
      Refuses (question_of st s o request capable) a.Refused (question_faults st s o request)
  pub new_object :
      (st : Store) (creator folder : List ℕ) (folder_transmutes is_folder : Bool) →
      Refuses (object_label_of st creator folder folder_transmutes is_folder) Err (new_object_faults st creator folder)
  pub question_line : (t : Table) (line : List ℕ) → Refuses (answer_to (answer t) line) a.Refused (question_line_faults line)
  pub listing : (st : Store) (k : ℕ) (out : List ℕ) → Refuses (list_answer st k out) Err (listing_faults st k out)
  pub label_by_number : (st : Store) (k : ℕ) → Refuses (label_answer st k) Err (label_by_number_faults st k)
  pub record_to_line : (r out : List ℕ) → Refuses (text_answer (line_from r) out) Err (record_faults r out)
  pub line_to_record : (line out : List ℕ) → Refuses (text_answer (record_from line) out) Err (line_to_record_faults line out)

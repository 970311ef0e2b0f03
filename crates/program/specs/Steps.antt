-- The program's input in lent memory: the exact step of the state, byte by byte, and what each step says. The line under way is the loader's, also
-- a question's, once the rule text has ended. The contracts of `begin`, `feed` and `finish` cite these. Assumes nothing.
use Rattle.std.specs.Prelude.{ℕ, ◌*◌, ◌≤◌, ◌≡◌, Bool, true, false, cond, ◌&&◌, length, take, get_or, ltb, leb, eqb, Result, Ok, Err}
use mathlib.Core.List.{List, [], ◌∷◌, ◌++◌, foldl}
use Rattle.search.specs.Bytes.{written}
use Rattle.refusals.specs.Refusals.{too_long}
use Rattle.alphabet.specs.Alphabet.{newline, line_limit, fields}
use Rattle.store.specs.Layout.{Store}
use Rattle.access.specs.Access.{question_of}
use Rattle.access.specs.declared.Answer.{Answer}
use Rattle.access.specs.declared.Answer.TheVariants.{Refused}
use Rattle.reports.specs.declared.Loader.{Loader}
use Rattle.reports.specs.Report.{fresh_loader, with_kept}
use Rattle.refusals.specs.declared.Refusal.{Refusal}
use Rattle.reports.specs.declared.Report.{Report}
use Rattle.program.specs.declared.Declined.{Declined}
use Rattle.program.specs.declared.Declined.TheVariants.{NoRoom, Damaged}
use Rattle.load.specs.Loader.{Load, load, ready, step_byte, end_after, end_answer}
use Rattle.replies.specs.Replies.{line_room, report_text, answer_line}
use Rattle.program.specs.Program.{mark, asked}
use Rattle.program.specs.Turns.{went_session, went_count}
use Rattle.program.specs.declared.Session.{Session}

-- the lent memory and the session: whether rule text is still read, and the loader's state
pub record State : Type 0 where
  pub loading : Bool
  pub load : Load

abbrev pub state : Store → List ℕ → Session → State
state st line s = record { loading = s.loading; load = load st line s.loader }

abbrev pub session_of : State → Session
session_of s = record { loading = s.loading; loader = s.load.loader }

abbrev pub reading : Load → State
reading l = record { loading = true; load = l }

abbrev pub asking : Load → State
asking l = record { loading = false; load = l }

-- a session that begins
abbrev pub fresh_session : Session
fresh_session = record { loading = true; loader = fresh_loader }

-- ---- the line under way

-- it is exactly `?`
abbrev pub at_mark : List ℕ → Loader → Bool
at_mark line l = eqb l.kept 1 && eqb (get_or line 0 0) mark

-- it is forgotten, and where it is exactly `?` alone
abbrev pub emptied : Load → Load
emptied s = load s.store s.line (with_kept s.loader 0)

unfoldable pub unmarked : List ℕ → Loader → Loader
unmarked line l = cond (at_mark line l) (with_kept l 0) l

-- it is answered as a question
abbrev pub answer_of : Store → List ℕ → ℕ → Answer
answer_of st line kept = cond (ltb line_limit kept) (Refused too_long) (asked (question_of st) (fields (take kept line)))

abbrev pub answer_text : Load → List ℕ
answer_text s = answer_line (answer_of s.store s.line s.loader.kept)

-- ---- the rule text ends: the end call, without the line `?`; its report is written

abbrev pub ended_text : Result (Report × Loader) Refusal → List ℕ
ended_text (Ok (r, l)) = report_text r
ended_text (Err n) = []

abbrev pub without_mark : Load → Load
without_mark s = load s.store s.line (unmarked s.line s.loader)

abbrev pub text_after : Load → State
text_after s = asking (end_after (without_mark s))

abbrev pub text_says : Load → List ℕ
text_says s = ended_text (end_answer (without_mark s))

-- ---- a byte, and a piece of the input

abbrev pub byte_by : Bool → Load → ℕ → State
byte_by true s b = cond (at_mark s.line s.loader && eqb b newline) (text_after s) (reading (step_byte s b))
byte_by false s b = cond (eqb b newline) (asking (emptied s)) (asking (step_byte s b))

abbrev pub say_by : Bool → Load → ℕ → List ℕ
say_by true s b = cond (at_mark s.line s.loader && eqb b newline) (text_says s) []
say_by false s b = cond (eqb b newline) (answer_text s) []

abbrev pub take_input_byte : State → ℕ → State
take_input_byte s b = byte_by s.loading s.load b

abbrev pub say_input_byte : State → ℕ → List ℕ
say_input_byte s b = say_by s.loading s.load b

-- over many bytes, of any step and what it says
abbrev pub saying : {S : Type 0} → (S → ℕ → S) → (S → ℕ → List ℕ) → S → List ℕ → List ℕ
saying step say s [] = []
saying step say s (b ∷ bs) = say s b ++ saying step say (step s b) bs

abbrev pub take_input : State → List ℕ → State
take_input s input = foldl take_input_byte s input

abbrev pub say_input : State → List ℕ → List ℕ
say_input s input = saying take_input_byte say_input_byte s input

-- ---- the end of the input

abbrev pub last_by : Bool → Load → State
last_by true s = text_after s
last_by false s = asking (emptied s)

abbrev pub say_last_by : Bool → Load → List ℕ
say_last_by true s = text_says s
say_last_by false s = cond (ltb 0 s.loader.kept) (answer_text s) []

abbrev pub take_last : State → State
take_last s = last_by s.loading s.load

abbrev pub say_last : State → List ℕ
say_last s = say_last_by s.loading s.load

-- ---- a call: where the output has room for the most that it may say, and the state is undamaged, it leaves a state and puts what is said at the front
-- of the output; otherwise it does nothing

abbrev pub turn_of : Bool → State → State → List ℕ → Result (Session × ℕ) Declined
turn_of room s after said = cond room (cond (ready s.load) (Ok (session_of after, length said)) (Err Damaged)) (Err NoRoom)

-- so many bytes stand at the front of an output. (The second part follows from the first: lending that part asks for both.)
abbrev pub Front : ℕ → List ℕ → Type 0
Front n out = (n ≤ length out) × (n ≡ length (take n out))

pub record Turns (most : ℕ) (s after : State) (said out : List ℕ) (r : Result (Session × ℕ) Declined) (s' : State) (out' : List ℕ) : Type 0 where
  pub answer : r ≡ turn_of (leb most (length out)) s after said
  pub state : s' ≡ cond (leb most (length out) && ready s.load) after s
  pub output : out' ≡ written out 0 (cond (leb most (length out) && ready s.load) said [])
  pub front : Front (went_count r) out'

-- the state that a turn leaves, of the lent memory as it leaves it
abbrev pub leaves : Store → List ℕ → Session → Result (Session × ℕ) Declined → State
leaves st line s r = state st line (went_session s r)

-- ---- what the two calls ensure, of the state and the output that they are lent and those that they leave

abbrev pub Feeds : State → List ℕ → List ℕ → Result (Session × ℕ) Declined → State → List ℕ → Type 0
Feeds s input out r s' out' = Turns (line_room * length input) s (take_input s input) (say_input s input) out r s' out'

abbrev pub Finishes : State → List ℕ → Result (Session × ℕ) Declined → State → List ℕ → Type 0
Finishes s out r s' out' = Turns line_room s (take_last s) (say_last s) out r s' out'

-- What only functions within this crate ensure, and their proofs cite; nobody has to believe these. Assumes nothing.
use Rattle.std.specs.Prelude.{ℕ, suc, ◌*◌, Bool, cond, ◌&&◌, List, [], ◌∷◌, ◌++◌, length, eqb, Result}
use Rattle.alphabet.specs.Alphabet.{newline}
use Rattle.store.specs.Layout.{Store}
use Rattle.reports.specs.declared.Loader.{Loader}
use Rattle.load.specs.Loader.{load}
use Rattle.replies.specs.Replies.{line_room, answer_line}
use Rattle.replies.specs.Within.{Put}
use Rattle.program.specs.Program.{mark}
use Rattle.program.specs.Steps.{State, asking, answer_of, text_after, text_says, take_input, say_input, Turns}
use Rattle.program.specs.declared.Session.{Session}
use Rattle.program.specs.declared.Declined.{Declined}

-- how many bytes of the input are rule text that goes to the loader: those before the newline that ends the first line that is exactly `?`, or all.
-- `empty` and `marked` say of the line under way whether it has no byte, and whether it is exactly `?` so far
unfoldable pub text_end : Bool → Bool → List ℕ → ℕ
text_end empty marked [] = 0
text_end empty marked (b ∷ bs) = cond (marked && eqb b newline) 0 (suc (text_end (eqb b newline) (empty && eqb b mark) bs))

-- what each function ensures, of the state and the output that it is lent and those that it leaves
abbrev pub TextEnds : State → List ℕ → Result (Session × ℕ) Declined → State → List ℕ → Type 0
TextEnds s out r s' out' = Turns line_room s (text_after s.load) (text_says s.load) out r s' out'

abbrev pub TurnsOver : State → List ℕ → List ℕ → Result (Session × ℕ) Declined → State → List ℕ → Type 0
TurnsOver s input out r s' out' =
    Turns (line_room * suc (length input)) s (take_input (text_after s.load) input) (text_says s.load ++ say_input (text_after s.load) input)
    out r s' out'

abbrev pub Answers : Store → List ℕ → ℕ → List ℕ → ℕ → List ℕ → ℕ → Type 0
Answers st line kept out at out' end = Put line_room out at (answer_line (answer_of st line kept)) out' end

abbrev pub Says : State → List ℕ → List ℕ → ℕ → List ℕ → ℕ → Type 0
Says s input out at out' end = Put (line_room * length input) out at (say_input s input) out' end

-- the state once questions are read, with the slices that a function is lent; which side of a call it is, the clause says
abbrev pub asks : Store → List ℕ → Loader → State
asks st line loader = asking (load st line loader)

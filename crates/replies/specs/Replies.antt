-- 01, What the program reads and writes, and 02, Six: the lines that are written, as bytes. Assumes nothing.
use Rattle.std.specs.Prelude.{ℕ, zero, suc, ◌+◌, ◌-◌, ◌*◌, ◌/◌, ◌%◌, ◌<◌, ◌≤◌, ◌≡◌, ◌↔◌, ◌≢◌, cond, length, get_or, ltb}
use mathlib.Core.List.{List, [], ◌∷◌, ◌++◌, foldl}
use Rattle.search.specs.Bytes.{ascii}
use Rattle.alphabet.specs.Alphabet.{space, newline}
use Rattle.answers.specs.Answers.{shown}
use Rattle.reports.specs.declared.Report.{Report}
use Rattle.access.specs.declared.Answer.{Answer}
use Rattle.access.specs.declared.Answer.TheVariants.{Granted, Denied, Override, Refused}

-- a number in decimal digits, with no leading zero
abbrev pub digits : ℕ → ℕ → List ℕ
digits zero n = []
digits (suc k) n = cond (ltb n 10) ((48 + n) ∷ []) (digits k (n / 10) ++ ((48 + n % 10) ∷ []))

unfoldable pub decimal : ℕ → List ℕ
decimal n = digits (suc n) n

-- What a number in decimal digits is, without the division above: bytes 0 (48) to 9 (57), of which the first is no 0 where there are more, and which
-- read from the left give the number.
pub record Decimal (n : ℕ) (ds : List ℕ) : Type 0 where
  pub some : 1 ≤ length ds
  pub bytes : (k : ℕ) → k < length ds → (48 ≤ get_or ds k 0) × (get_or ds k 0 ≤ 57)
  pub no_leading_zero : 1 < length ds → get_or ds 0 0 ≢ 48
  pub value : foldl (λ (v b : ℕ). v * 10 + (b - 48)) 0 ds ≡ n

-- the digits of a number are those, and no others
abbrev pub DecimalReadsBack : Type 0
DecimalReadsBack = (n : ℕ) (ds : List ℕ) → (decimal n ≡ ds) ↔ Decimal n ds

-- numbers on one line, with a space between
abbrev pub numbers_line : List ℕ → List ℕ
numbers_line [] = newline ∷ []
numbers_line (n ∷ []) = decimal n ++ (newline ∷ [])
numbers_line (n ∷ m ∷ ms) = (decimal n ++ (space ∷ [])) ++ numbers_line (m ∷ ms)

-- the most bytes of a line that is written: seven numbers of at most ten digits, each with a blank or the newline
abbrev pub line_room : ℕ
line_room = 77

-- a report, as it is written: lines, accepted, skipped, refused, first refused line, its reason, and last the accepted lines that held b
abbrev pub report_text : Report → List ℕ
report_text r = numbers_line (r.lines ∷ r.accepted ∷ r.skipped ∷ r.refused ∷ r.first ∷ r.reason ∷ r.bringup ∷ [])

-- `granted `, `denied `, `override `, `refused `
abbrev pub word_of : Answer → List ℕ
word_of (Granted n) = ascii "granted "
word_of (Denied by) = ascii "denied "
word_of (Override by) = ascii "override "
word_of (Refused n) = ascii "refused "

-- `granted 6`, `denied 7`, `override 7` or `refused 3`, with the number that applies
unfoldable pub answer_line : Answer → List ℕ
answer_line a = word_of a ++ (decimal (shown a).number ++ (newline ∷ []))

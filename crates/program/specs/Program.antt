-- 01, What the program reads and writes: all that it writes, as a function of all that it reads. Assumes nothing.
use Rattle.std.specs.Prelude.{ℕ, Bool, true, false, cond, List, [], ◌∷◌, ◌++◌, length, ltb}
use Rattle.search.specs.Bytes.{ascii, same_bytes}
use Rattle.refusals.specs.Refusals.{too_long, wrong_fields}
use Rattle.alphabet.specs.Alphabet.{line_limit, fields}
use Rattle.text_lines.specs.TextLines.{lines, as_text}
use Rattle.store.specs.Table.{Table, fresh}
use Rattle.access.specs.Access.{answer}
use Rattle.access.specs.declared.Answer.{Answer}
use Rattle.access.specs.declared.Answer.TheVariants.{Refused}
use Rattle.lists.specs.Reader.{Totals, Reader, start_on, take_piece, finish, limited_totals}
use Rattle.replies.specs.Replies.{numbers_line, answer_line}

-- ---- the lines of the input

-- the line that is exactly `?`
abbrev pub mark : ℕ
mark = 63

abbrev pub is_mark : List ℕ → Bool
is_mark line = same_bytes line (mark ∷ [])

-- the lines before the first line that is exactly `?` are rule text, those after it are questions; where there is none, all are rule text
abbrev pub rule_lines : List (List ℕ) → List (List ℕ)
rule_lines [] = []
rule_lines (l ∷ ls) = cond (is_mark l) [] (l ∷ rule_lines ls)

abbrev pub question_lines : List (List ℕ) → List (List ℕ)
question_lines [] = []
question_lines (l ∷ ls) = cond (is_mark l) ls (question_lines ls)

-- ---- a question line

-- the question that a line's fields ask: subject, object, request and, where the asker has the capability, a fourth field `o`. Other
-- fields are refused with 2, before the question's own refusals
abbrev pub asked : (List ℕ → List ℕ → List ℕ → Bool → Answer) → List (List ℕ) → Answer
asked ask [] = Refused wrong_fields
asked ask (s ∷ []) = Refused wrong_fields
asked ask (s ∷ o ∷ []) = Refused wrong_fields
asked ask (s ∷ o ∷ r ∷ []) = ask s o r false
asked ask (s ∷ o ∷ r ∷ c ∷ []) = cond (same_bytes c (ascii "o")) (ask s o r true) (Refused wrong_fields)
asked ask (s ∷ o ∷ r ∷ c ∷ x ∷ more) = Refused wrong_fields

-- a line over 600 bytes is refused with 1, before 2 and the question's own.
unfoldable pub answer_to : (List ℕ → List ℕ → List ℕ → Bool → Answer) → List ℕ → Answer
answer_to ask line = cond (ltb line_limit (length line)) (Refused too_long) (asked ask (fields line))

-- ---- what is written

-- the report: lines, accepted, skipped, refused, first refused line, its reason, and last the accepted lines that held b (02, Six)
unfoldable pub report_line : Totals → List ℕ
report_line c = numbers_line (c.lines ∷ c.accepted ∷ c.skipped ∷ c.refused ∷ c.first ∷ c.reason ∷ c.bringup ∷ [])

-- a line for each question
abbrev pub answer_lines : Table → List (List ℕ) → List ℕ
answer_lines t [] = []
answer_lines t (l ∷ ls) = answer_line (answer_to (answer t) l) ++ answer_lines t ls

-- ---- the whole

-- the plain reader, begun on a fresh table and fed the rule text, up to its end call
abbrev pub after_rules : List ℕ → Reader
after_rules input = finish (take_piece (start_on fresh) (as_text (rule_lines (lines input))))

-- the report on one line, then a line for each question
unfoldable pub output : List ℕ → List ℕ
output input = report_line (limited_totals (after_rules input).totals) ++ answer_lines (after_rules input).table (question_lines (lines input))

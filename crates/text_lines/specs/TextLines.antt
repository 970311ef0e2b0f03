-- 01, Rule text and What the program reads and writes: the lines of a text, and lines as text. Assumes nothing.
use Rattle.std.specs.Prelude.{ℕ, cond, List, [], ◌∷◌, ◌++◌, length, ltb}
use Rattle.alphabet.specs.Alphabet.{newline, is_newline}

-- each byte but a newline joins the line under way; a newline ends it, and the next begins empty; bytes after the last newline are one
-- more line
abbrev pub lines_from : List ℕ → List ℕ → List (List ℕ)
lines_from kept [] = cond (ltb 0 (length kept)) (kept ∷ []) []
lines_from kept (b ∷ bs) = cond (is_newline b) (kept ∷ lines_from [] bs) (lines_from (kept ++ (b ∷ [])) bs)

abbrev pub lines : List ℕ → List (List ℕ)
lines text = lines_from [] text

-- lines as text, each with its newline
abbrev pub as_text : List (List ℕ) → List ℕ
as_text [] = []
as_text (l ∷ ls) = (l ++ (newline ∷ [])) ++ as_text ls

-- What the functions within the library say of a line's end; nobody has to believe these. Assumes nothing.
use Rattle.std.specs.Prelude.{ℕ, suc, ◌≡◌, cond, List, [], ◌∷◌, length}
use Rattle.alphabet.specs.Alphabet.{is_newline}

-- how many bytes stand before the first newline: all of them where there is none
unfoldable pub before_newline : List ℕ → ℕ
before_newline [] = 0
before_newline (b ∷ bs) = cond (is_newline b) 0 (suc (before_newline bs))

-- bytes that are all before the first newline have none
abbrev pub NoNewline : List ℕ → Type 0
NoNewline run = before_newline run ≡ length run

-- 01, Listing: a rule as a line of text. Assumes nothing.
use Rattle.std.specs.Prelude.{ℕ, List, [], ◌∷◌, ◌++◌}
use Rattle.alphabet.specs.Alphabet.{space, newline}

-- subject, space, object, space, modes or a dash; and the same with its newline
abbrev pub line_of : List ℕ → List ℕ → List ℕ → List ℕ
line_of subject object modes = subject ++ (space ∷ (object ++ (space ∷ modes)))

unfoldable pub text_of : List ℕ → List ℕ → List ℕ → List ℕ
text_of subject object modes = line_of subject object modes ++ (newline ∷ [])

-- the most bytes of it: two labels of 255 bytes, two spaces, five letters and the newline
abbrev pub longest_rule : ℕ
longest_rule = 518

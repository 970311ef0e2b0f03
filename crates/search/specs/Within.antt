-- What the functions within the library say of a place that was sought, and of bytes taken four at a time; nobody has to believe this. Assumes nothing.
use Rattle.std.specs.Prelude.{ℕ, ◌+◌, ◌*◌, ◌-◌, Bool, not, ◌||◌, List, eqb, get_or, Option, Some, None}

-- of a table with n entries: how many there are once the place that a search found, or the next one, is taken
abbrev pub count_after : Option ℕ → ℕ → ℕ
count_after (Some i) n = n
count_after None n = n + 1

-- four bytes from an index on as one number, the lowest first
unfoldable pub word_at : List ℕ → ℕ → ℕ
word_at b i = get_or b i 0 + get_or b (i + 1) 0 * 256 + get_or b (i + 2) 0 * 65536 + get_or b (i + 3) 0 * 16777216

-- whether one of two words differs in two byte strings
unfoldable pub words_differ : List ℕ → List ℕ → ℕ → ℕ → Bool
words_differ a b i j = not (eqb (word_at a i) (word_at b i)) || not (eqb (word_at a j) (word_at b j))

-- of the four fours that cover a string of 4 to 16 bytes, where the second begins: at 4, or at n - 4 where that is lower
abbrev pub second_four : ℕ → ℕ
second_four n = n - 4 - (n - 8)

-- and the third: at n - 8, or at 0 where there are fewer than 8
abbrev pub third_four : ℕ → ℕ
third_four n = n - 8

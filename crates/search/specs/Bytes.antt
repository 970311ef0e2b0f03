-- Byte strings: texts as bytes, equality, and one written over another. Assumes nothing.
use Rattle.std.specs.Prelude.{ℕ, ◌+◌, Bool, true, false, ◌&&◌, List, [], ◌∷◌, ◌++◌, length, take, drop, eqb}
use Prim.Native.Char.{code}
use Prim.Native.String as t
use Prim.Native.String.{String}

-- the bytes of a text in ASCII, each character's own number
abbrev pub ascii : String → List ℕ
ascii t.[] = []
ascii (t.◌∷◌ c s) = code c ∷ ascii s

-- whether two byte strings are equal: as many bytes, and each the same
unfoldable pub same_bytes : List ℕ → List ℕ → Bool
same_bytes [] [] = true
same_bytes [] (y ∷ ys) = false
same_bytes (x ∷ xs) [] = false
same_bytes (x ∷ xs) (y ∷ ys) = eqb x y && same_bytes xs ys

-- d with s written over it from index at
unfoldable pub written : List ℕ → ℕ → List ℕ → List ℕ
written d at s = take at d ++ (s ++ drop (at + length s) d)

-- The first entry of a list that passes a test, and a list with an entry put where a search says. The searches for a label, a pair and a
-- mapping, "the first counts" of 01, and "in its place, or last" are stated by these. Assumes nothing.
use Rattle.std.specs.Prelude.{ℕ, zero, suc, Bool, true, cond, ◌&&◌, List, [], ◌∷◌, ◌++◌, set, Option, Some, None}

-- the same place once an entry stands in front of the list
abbrev pub later : Option ℕ → Option ℕ
later (Some k) = Some (suc k)
later None = None

-- the number, from 0, of the first entry that passes p
unfoldable pub first : {A : Type 0} → (A → Bool) → List A → Option ℕ
first p [] = None
first p (x ∷ xs) = cond (p x) (Some zero) (later (first p xs))

-- whether every entry passes p
unfoldable pub all : {A : Type 0} → (A → Bool) → List A → Bool
all p [] = true
all p (x ∷ xs) = p x && all p xs

-- those entries that pass p, in order
abbrev pub those : {A : Type 0} → (A → Bool) → List A → List A
those p [] = []
those p (x ∷ xs) = cond (p x) (x ∷ those p xs) (those p xs)

-- the list with v in the place that a search found, or last where it found none
unfoldable pub put : {A : Type 0} → Option ℕ → List A → A → List A
put (Some i) l v = set l i v
put None l v = l ++ (v ∷ [])

-- of a table with n entries: the place that a search found, or the next one
abbrev pub place_of : Option ℕ → ℕ → ℕ
place_of (Some i) n = i
place_of None n = n

-- the entries f 0, f 1, .. of a table with n entries, in order
unfoldable pub entries : {A : Type 0} → (ℕ → A) → ℕ → List A
entries f zero = []
entries f (suc n) = entries f n ++ (f n ∷ [])

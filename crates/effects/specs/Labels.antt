-- 01, Labels 3: a label enters by an accepted rule, change, mapping or override-list write, in the order written, and never leaves. Assumes nothing.
use Rattle.std.specs.Prelude.{ℕ, ◌<◌, Bool, not, ◌≡◌, List, [], length, get_or, take, drop, Some}
use Rattle.search.specs.Search.{first, those, place_of}
use Rattle.search.specs.Bytes.{same_bytes}
use Rattle.store.specs.Table.{Table}
use Rattle.access.specs.Access.{is_found}

-- whether a label is one of some
abbrev pub among : List ℕ → List (List ℕ) → Bool
among x ls = is_found (first (same_bytes x) ls)

-- where a label appears first among some (0 where it does not)
abbrev pub first_place : List (List ℕ) → List ℕ → ℕ
first_place written x = place_of (first (same_bytes x) written) 0

-- ls are the labels that were written and no others, none of them twice, in the order of their first appearance
pub record FirstAppearances (written ls : List (List ℕ)) : Type 0 where
  pub same : (x : List ℕ) → among x ls ≡ among x written
  pub once : (k : ℕ) → k < length ls → first (same_bytes (get_or ls k [])) ls ≡ Some k
  pub order : (j k : ℕ) → j < k → k < length ls → first_place written (get_or ls j []) < first_place written (get_or ls k [])

-- those of the labels that were written that are new
abbrev pub new_of : Table → List (List ℕ) → List (List ℕ)
new_of t written = those (λ (x : List ℕ). not (among x t.labels)) written

-- from table t to table t' the labels that were written enter: every label keeps its number, and the new ones have the next, in the order written
pub record Enter (t t' : Table) (written : List (List ℕ)) : Type 0 where
  pub kept : take (length t.labels) t'.labels ≡ t.labels
  pub new : FirstAppearances (new_of t written) (drop (length t.labels) t'.labels)

-- What the searches know of places that they passed. No public contract names these. Assumes nothing.
use Rattle.std.specs.Prelude.{ℕ, ◌+◌, ◌*◌, ◌<◌, ◌≤◌, get_or, eqb, false, ◌&&◌, ◌≡◌, List, Option, Some}
use Rattle.search.specs.Search.{first, entries}
use Rattle.search.specs.Bytes.{same_bytes}
use Rattle.search.specs.Within.{word_at}
use Rattle.store.specs.Table.{label_limit}
use Rattle.store.specs.Layout.{place_size, label_at}

-- place k differs from labels of length n with that last byte in one of the two
abbrev pub Unlike : List ℕ → ℕ → ℕ → ℕ → Type 0
Unlike labels k n last = (eqb (get_or labels (k * place_size + n) 0) last && eqb (get_or labels (k * place_size) 0) n) ≡ false

-- no place from an index on, before another, has that word at that offset
abbrev pub NoWord : List ℕ → ℕ → ℕ → ℕ → ℕ → Type 0
NoWord labels offset word from to = (k : ℕ) → from ≤ k → k < to → eqb (word_at labels (k * place_size + offset)) word ≡ false

-- no place from an index on, before another, holds the label
abbrev pub NotHeld : List ℕ → List ℕ → ℕ → ℕ → Type 0
NotHeld labels label from to = (k : ℕ) → from ≤ k → k < to → k < label_limit → same_bytes label (label_at labels k) ≡ false

-- a place of those that are stored holds another label
abbrev pub Another : List ℕ → ℕ → List ℕ → ℕ → Type 0
Another labels count label k = k < count → same_bytes label (label_at labels k) ≡ false

-- a place that was found is the first, of those that are stored, that holds what it holds
abbrev pub FirstHeld : List ℕ → ℕ → Option ℕ → Type 0
FirstHeld labels count hint = (k : ℕ) → hint ≡ Some k → first (same_bytes (label_at labels k)) (entries (label_at labels) count) ≡ Some k

-- how many places of rules are looked at in one go, and what stands for no place among them
abbrev pub block : ℕ
block = 64

abbrev pub none_in_block : ℕ
none_in_block = 255

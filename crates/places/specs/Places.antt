-- 01, Listing: 'the very part of the lent label store that holds it'. A reference's value is what it refers to and also where it points, so a contract
-- can say which part of the lent store is answered, and not only which bytes. Assumes nothing.
use Rattle.std.specs.Prelude.{ℕ, ◌+◌, ◌*◌, ◌≡◌, List}
use Rattle.std.specs.Borrow.{Bor}
use Rattle.store.specs.Layout.{place_size}

-- where the bytes of label k begin in the label store: behind the byte that is its length
abbrev pub label_start : ℕ → ℕ
label_start k = k * place_size + 1

-- a slice of bytes is the part of another that begins at an index: it points to that byte of the other. (How long it is, its contents say)
abbrev pub PartFrom : Bor (List ℕ) → Bor (List ℕ) → ℕ → Type 0
PartFrom part whole start = part.ref_ptr ≡ (whole.ref_ptr.0, whole.ref_ptr.1 + start)

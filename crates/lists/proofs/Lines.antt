-- The plain reader and one line of a text: bytes that are no newline join the kept line, and a newline ends it. Assumes nothing.
use mathlib.Core.Path.{◌≡◌, refl, sym, ap, ◌∙◌}
use mathlib.Core.Bool.{true, false, not}
use mathlib.Core.List.{List, [], ◌∷◌, ◌++◌, append_assoc, append-nil, foldl-append}
use Prim.Native.Nat.{ℕ}
use borrow.Author.Tests.{not-true}
use Rattle.search.specs.Search.{all}
use Rattle.search.proofs.Laws.{and_both}
use Rattle.alphabet.specs.Alphabet.{newline, is_newline}
use Rattle.lists.specs.Reader.{Reader, end_line, take_byte, take_piece}

-- a reader with another kept line
abbrev pub keeping : Reader → List ℕ → Reader
keeping p line = record { table = p.table; kept = line; totals = p.totals }

pub joins : (p : Reader) (b : ℕ) → is_newline b ≡ false → take_byte p b ≡ keeping p (p.kept ++ (b ∷ []))
unfolding take_byte
joins p b e = rw e

pub ends : (p : Reader) (b : ℕ) → is_newline b ≡ true → take_byte p b ≡ end_line p
unfolding take_byte
ends p b e = rw e

-- a line without a newline in it joins the kept line
abbrev pub Plain : List ℕ → Type 0
Plain line = all (λ (b : ℕ). not (is_newline b)) line ≡ true

pub kept_more : (p : Reader) (line : List ℕ) → Plain line → take_piece p line ≡ keeping p (p.kept ++ line)
unfolding all
kept_more p [] h = ap (keeping p) (sym (append-nil p.kept))
kept_more p (b ∷ bs) h =
    let both = and_both (not (is_newline b)) (all (λ (x : ℕ). not (is_newline x)) bs) h in
    ap (λ (q : Reader). take_piece q bs) (joins p b (not-true (is_newline b) both.0))
    ∙ kept_more (keeping p (p.kept ++ (b ∷ []))) bs both.1
    ∙ ap (keeping p) (append_assoc p.kept (b ∷ []) bs)

-- and with its newline it is ended
pub line-ends : (p : Reader) (line : List ℕ) → Plain line → take_piece (keeping p []) (line ++ (newline ∷ [])) ≡ end_line (keeping p line)
line-ends p line h =
    foldl-append take_byte (keeping p []) line (newline ∷ [])
    ∙ ap (λ (q : Reader). take_byte q newline) (kept_more (keeping p []) line h)
    ∙ ends (keeping p line) newline refl

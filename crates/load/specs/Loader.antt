-- The loader in lent memory: its exact step, byte by byte, and when it is damaged. A line of over 600 bytes is kept as its first 600 and the
-- length 601; a count stops at its limit. Assumes nothing.
use Rattle.std.specs.Prelude.{ℕ, ◌+◌, ◌≤◌, ◌≡◌, ◌↔◌, Bool, true, cond, ◌&&◌, length, take, set, ltb, leb, eqb, Result, Ok, Err}
use mathlib.Core.List.{List, foldl}
use Rattle.refusals.specs.Refusals.{damaged, too_long}
use Rattle.alphabet.specs.Alphabet.{line_limit, is_newline}
use Rattle.store.specs.Layout.{Store, undamaged_of}
use Rattle.writes.specs.Writes.{line_outcome, line_stored}
use Rattle.reports.specs.declared.Loader.{Loader}
use Rattle.reports.specs.Report.{fresh_loader, count, with_kept}
use Rattle.refusals.specs.declared.Refusal.{Refusal}
use Rattle.reports.specs.declared.Report.{Report}

-- the length that marks a line of over 600 bytes
abbrev pub overlong : ℕ
overlong = 601

-- the lent slices of the tables, that of the line, and the loader
pub record Load : Type 0 where
  pub store : Store
  pub line : List ℕ
  pub loader : Loader

abbrev pub load : Store → List ℕ → Loader → Load
load st line l = record { store = st; line = line; loader = l }

-- the kept line ends
abbrev pub end_kept : Load → Load
end_kept s =
    cond (ltb line_limit s.loader.kept)
    (load s.store s.line (count s.loader (Err too_long)))
    (load (line_stored s.store (take s.loader.kept s.line)) s.line (count s.loader (line_outcome s.store (take s.loader.kept s.line))))

-- a byte joins the kept line
abbrev pub keep_byte : Load → ℕ → Load
keep_byte s b =
    cond (ltb s.loader.kept line_limit)
    (load s.store (set s.line s.loader.kept b) (with_kept s.loader (s.loader.kept + 1)))
    (load s.store s.line (with_kept s.loader overlong))

unfoldable pub step_byte : Load → ℕ → Load
step_byte s b = cond (is_newline b) (end_kept s) (keep_byte s b)

-- whether the lent state is undamaged, loader and all: refusal 0 otherwise
unfoldable pub ready : Load → Bool
ready s = undamaged_of s.store && (eqb (length s.line) line_limit && leb s.loader.kept overlong)

-- What refusal 0 says of the loader, without the test above: the tables are undamaged; the line has its full size; the kept length is at most 600,
-- or 601, which marks a line of more bytes.
pub record Ready (s : Load) : Type 0 where
  pub undamaged : undamaged_of s.store ≡ true
  pub line : length s.line ≡ 600
  pub kept : s.loader.kept ≤ 601

abbrev pub WhatReadyIs : Type 0
WhatReadyIs = (s : Load) → (ready s ≡ true) ↔ Ready s

-- a kept line that has a byte ends
unfoldable pub step_end : Load → Load
step_end s = cond (ltb 0 s.loader.kept) (end_kept s) s

-- a piece
abbrev pub step_piece : Load → List ℕ → Load
step_piece s text = foldl step_byte s text

unfoldable pub piece_after : Load → List ℕ → Load
piece_after s text = cond (ready s) (step_piece s text) s

unfoldable pub piece_answer : Load → List ℕ → Result Loader Refusal
piece_answer s text = cond (ready s) (Ok (step_piece s text).loader) (Err damaged)

-- the end call: ends a kept line that has a byte, answers the report, and leaves the loader fresh
unfoldable pub end_after : Load → Load
end_after s = cond (ready s) (load (step_end s).store (step_end s).line fresh_loader) s

unfoldable pub end_answer : Load → Result (Report × Loader) Refusal
end_answer s = cond (ready s) (Ok ((step_end s).loader.report, fresh_loader)) (Err damaged)

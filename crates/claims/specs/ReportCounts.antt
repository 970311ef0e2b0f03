-- 01, Rule text, the report, and 02, Three and Six: what a line that was judged does to the plain reader's numbers, kind by kind: which are one more, and which
-- stay; of the first refused line the number, the reason and the place are kept from then on; a line that held b counts where it is accepted. Assumes nothing.
use Rattle.std.specs.Prelude.{ℕ, ◌+◌, min, ◌≡◌, Bool, true, false, cond, ◌≢◌, List, [], ◌∷◌, map}
use Rattle.search.specs.Bytes.{ascii}
use Rattle.alphabet.specs.Alphabet.{fields}
use Rattle.modes.specs.Modes.{any, one_of}
use Rattle.lines.specs.Lines.{rule_of}
use Rattle.writes.specs.Writes.{judged}
use Rattle.refusals.specs.Refusals.{number_of, place_of}
use Rattle.refusals.specs.declared.Refusal.{Refusal}
use Rattle.store.specs.Table.{Table}
use Rattle.store.specs.Judged.{is_skipped, is_refused, is_accepted}
use Rattle.lists.specs.Reader.{Totals, counted, Reader, end_line, limited_totals}

-- lines, accepted, skipped and refused lines, and accepted lines that held b: so many more than before
pub record More (c c' : Totals) (accepted skipped refused held : ℕ) : Type 0 where
  pub lines : c'.lines ≡ c.lines + 1
  pub accepted_lines : c'.accepted ≡ c.accepted + accepted
  pub skipped_lines : c'.skipped ≡ c.skipped + skipped
  pub refused_lines : c'.refused ≡ c.refused + refused
  pub lines_with_b : c'.bringup ≡ c.bringup + held

-- the number of the first refused line, its reason and its place
pub record FirstIs (c' : Totals) (first reason place : ℕ) : Type 0 where
  pub number : c'.first ≡ first
  pub its_reason : c'.reason ≡ reason
  pub its_place : c'.place ≡ place

abbrev pub Kept : Totals → Totals → Type 0
Kept c c' = FirstIs c' c.first c.reason c.place

-- the report's counts, and the number of the first refused line
abbrev pub numbers : Totals → List ℕ
numbers c = c.lines ∷ c.accepted ∷ c.skipped ∷ c.refused ∷ c.first ∷ c.bringup ∷ []

pub record LineCounts : Type 0 where
  pub skipped : (c : Totals) (held : Bool) → More c (counted c held is_skipped) 0 1 0 0 × Kept c (counted c held is_skipped)
  pub accepted : (c : Totals) (t : Table) → More c (counted c false (is_accepted t)) 1 0 0 0 × Kept c (counted c false (is_accepted t))
  pub accepted_with_b : (c : Totals) (t : Table) → More c (counted c true (is_accepted t)) 1 0 0 1 × Kept c (counted c true (is_accepted t))
  pub refused : (c : Totals) (held : Bool) (why : Refusal) → More c (counted c held (is_refused why)) 0 0 1 0
  pub first : (c : Totals) (held : Bool) (why : Refusal) → c.refused ≡ 0 → FirstIs (counted c held (is_refused why)) (c.lines + 1) (number_of why) (place_of why)
  pub later : (c : Totals) (held : Bool) (why : Refusal) → c.refused ≢ 0 → Kept c (counted c held (is_refused why))
  -- 02, Six: a line that ends and is accepted is one more of those with b exactly where a byte of its third field is b or B; a refused one is not
  pub with_b :
      (p : Reader) (s o access : List ℕ) (t : Table) →
      fields p.kept ≡ s ∷ o ∷ access ∷ [] →
      judged p.table (rule_of p.kept) ≡ is_accepted t →
      (end_line p).totals.bringup ≡ p.totals.bringup + cond (any (one_of (ascii "bB")) access) 1 0
  pub refused_with_b :
      (p : Reader) (why : Refusal) → judged p.table (rule_of p.kept) ≡ is_refused why → (end_line p).totals.bringup ≡ p.totals.bringup
  -- each number is reported as it is, or as 4,294,967,295, whichever is smaller
  pub limits : (c : Totals) → numbers (limited_totals c) ≡ map (λ (n : ℕ). min n 4294967295) (numbers c)

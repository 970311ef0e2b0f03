-- The loader follows the plain reader: what each step of the lent state does, the plain reader does to what that state stands for. Assumes
-- nothing.
use mathlib.Core.Path.{◌≡◌, refl, sym, ap, ◌∙◌}
use mathlib.Core.Bool.{Bool, true, false, cond}
use mathlib.Core.List.{List, [], ◌∷◌, ◌++◌}
use Prim.Native.Nat.{ℕ, ◌+◌, ◌<◌, ◌≤◌, min}
use native.Mathlib.Numerals.{add-one}
use native.Mathlib.Omega.{arith}
use lib.Dec.{ltb, eqb}
use borrow.Author.Tests.{eqb-true, eqb-false, eq-eqb, ne_eqb, lt-ltb, le-ltb, ltb-true, ltb-false}
use lib.ListN.{length, take, set, length-set, length-append}
use lib.Seq.{take_all, take-suc-set, take-append-le}
use Rattle.std.proofs.Common.{Result, Err}
use Rattle.refusals.specs.declared.Refusal.{Refusal}
use Rattle.refusals.specs.Refusals.{number_of, place_of, too_long}
use Rattle.store.specs.Table.{Table}
use Rattle.store.specs.Layout.{Store, table_of, undamaged_of}
use Rattle.lines.specs.Lines.{rule_of, refused, bring_up_in}
use Rattle.writes.specs.Writes.{judged, outcome_of, line_outcome, line_stored}
use Rattle.store.specs.Judged.{Judged, is_skipped, is_refused, is_accepted, table_after}
use Rattle.writes.specs.declared.Outcome.{Outcome}
use Rattle.writes.proofs.Laws.{line-table}
use Rattle.lists.specs.Reader.{Totals, counted, Reader, start_on, end_line, take_byte, take_piece, finish, limited}
use Rattle.reports.specs.declared.Report.{Report}
use Rattle.reports.specs.Report.{more, with_line, count, with_kept, fresh_loader}
use Rattle.load.specs.Loader.{Load, load, end_kept, keep_byte, step_byte, step_piece, step_end}
use Rattle.load.proofs.Laws.{Ready, ready-end, ready_step}

-- ---- what a lent state stands for

-- the report's numbers, each up to its limit
pub record SameTotals (l : Report) (c : Totals) : Type 0 where
  pub lines : l.lines ≡ limited c.lines
  pub accepted : l.accepted ≡ limited c.accepted
  pub skipped : l.skipped ≡ limited c.skipped
  pub refused : l.refused ≡ limited c.refused
  pub first : l.first ≡ limited c.first
  pub reason : l.reason ≡ c.reason
  pub place : l.place ≡ c.place
  pub bringup : l.bringup ≡ limited c.bringup

-- the kept line, as much of it as is stored
pub record SameLine (line : List ℕ) (stored : ℕ) (kept : List ℕ) : Type 0 where
  pub full : length line ≡ 600
  pub size : stored ≡ min (length kept) 601
  pub bytes : take stored line ≡ take 600 kept

pub record Holds (s : Load) (p : Reader) : Type 0 where
  pub ready : Ready s
  pub table : table_of s.store ≡ p.table
  pub line : SameLine s.line s.loader.kept p.kept
  pub totals : SameTotals s.loader.report p.totals

-- ---- counts

more-limited : (n m : ℕ) → n ≡ limited m → more n ≡ limited (m + 1)
unfolding limited
more-limited n m e = by-test (ltb n 4294967295) refl
  where
    by-test : (b : Bool) → ltb n 4294967295 ≡ b → cond b (n + 1) n ≡ min (m + 1) 4294967295
    by-test true q = let h = ltb-true n 4294967295 q in omega (arith, e)
    by-test false q = let h = ltb-false n 4294967295 q in omega (arith, e)

zero_limited : (n m : ℕ) → n ≡ limited m → eqb n 0 ≡ eqb m 0
unfolding limited
zero_limited n m e = by-test (eqb m 0) refl
  where
    by-test : (b : Bool) → eqb m 0 ≡ b → eqb n 0 ≡ b
    by-test true q = eq-eqb n 0 (let h = eqb-true m 0 q in omega (arith, e))
    by-test false q = ne_eqb n 0 (λ z. eqb-false m 0 q (omega (arith, e, z)))

same_first : (b : Bool) (x x' y y' : ℕ) → x ≡ limited x' → y ≡ limited y' → cond b x y ≡ limited (cond b x' y')
same_first true x x' y y' p q = p
same_first false x x' y y' p q = q

same_either : (b : Bool) (n : ℕ) {y y' : ℕ} → y ≡ y' → cond b n y ≡ cond b n y'
same_either b n p = rw p

count_follows : (l : Report) (c : Totals) (held : Bool) (j : Judged) → SameTotals l c → SameTotals (with_line l (outcome_of held j)) (counted c held j)
count_follows l c held is_skipped s =
    record {
      lines = more-limited _ _ s.lines;
      accepted = s.accepted;
      skipped = more-limited _ _ s.skipped;
      refused = s.refused;
      first = s.first;
      reason = s.reason;
      place = s.place;
      bringup = s.bringup;
    }
count_follows l c held (is_accepted t) s =
    record {
      lines = more-limited _ _ s.lines;
      accepted = more-limited _ _ s.accepted;
      skipped = s.skipped;
      refused = s.refused;
      first = s.first;
      reason = s.reason;
      place = s.place;
      bringup = same_first held (more l.bringup) (c.bringup + 1) l.bringup c.bringup (more-limited _ _ s.bringup) s.bringup;
    }
count_follows l c held (is_refused r) s =
    let z = zero_limited _ _ s.refused in
    record {
      lines = more-limited _ _ s.lines;
      accepted = s.accepted;
      skipped = s.skipped;
      refused = more-limited _ _ s.refused;
      first = rw z (same_first (eqb c.refused 0) (more l.lines) (c.lines + 1) l.first c.first (more-limited _ _ s.lines) s.first);
      reason = rw z (same_either (eqb c.refused 0) (number_of r) s.reason);
      place = rw z (same_either (eqb c.refused 0) (place_of r) s.place);
      bringup = s.bringup;
    }

empty-line : (line : List ℕ) (n : ℕ) → length line ≡ 600 → n ≡ 0 → SameLine line n []
empty-line line n full e = rw e (record { full = full; size = refl; bytes = refl })

-- ---- a line ends

-- a line that is kept whole
whole-line : (line : List ℕ) (n : ℕ) (kept : List ℕ) → SameLine line n kept → n ≤ 600 → take n line ≡ kept
whole-line line n kept s h = let z : length kept ≤ 600 = omega (arith, s.size) in s.bytes ∙ take_all 600 kept z

too_long_lem : (kept : List ℕ) → 600 < length kept → rule_of kept ≡ refused too_long
unfolding rule_of
too_long_lem kept h = rw (lt-ltb 600 (length kept) h)

end-parts :
    (s : Load) (p : Reader) (st : Store) (q : Result Outcome Refusal) (j : Judged) →
    Ready (load st s.line (count s.loader q)) →
    table_of st ≡ table_after p.table j →
    q ≡ outcome_of (bring_up_in p.kept) j →
    j ≡ judged p.table (rule_of p.kept) →
    Holds s p →
    Holds (load st s.line (count s.loader q)) (end_line p)
unfolding end_line
end-parts s p st q j r t e f h =
    record {
      ready = r;
      table = t ∙ ap (λ (x : Judged). table_after p.table x) f;
      line = empty-line s.line (count s.loader q).kept h.line.full refl;
      totals = rw (e, ← f) (count_follows s.loader.report p.totals (bring_up_in p.kept) j h.totals);
    }

verdict_is : (st : Store) (text : List ℕ) → line_outcome st text ≡ outcome_of (bring_up_in text) (judged (table_of st) (rule_of text))
unfolding line_outcome
verdict_is st text = refl

pub end_follows : (s : Load) (p : Reader) → Holds s p → Holds (end_kept s) (end_line p)
end_follows s p h = by-test (ltb 600 s.loader.kept) refl (ready-end s h.ready)
  where
    by-test :
        (b : Bool) →
        ltb 600 s.loader.kept ≡ b →
        Ready
        (cond b
        (load s.store s.line (count s.loader (Err too_long)))
        (load (line_stored s.store (take s.loader.kept s.line)) s.line (count s.loader (line_outcome s.store (take s.loader.kept s.line))))) →
        Holds
        (cond b
        (load s.store s.line (count s.loader (Err too_long)))
        (load (line_stored s.store (take s.loader.kept s.line)) s.line (count s.loader (line_outcome s.store (take s.loader.kept s.line)))))
        (end_line p)
    by-test true e r =
        let z : 600 < length p.kept = omega (arith, ltb-true 600 s.loader.kept e, h.line.size) in
        end-parts s p s.store (Err too_long) (is_refused too_long) r h.table refl (sym (ap (λ said. judged p.table said) (too_long_lem p.kept z))) h
    by-test false e r =
        let text = take s.loader.kept s.line in
        let same : text ≡ p.kept = whole-line s.line s.loader.kept p.kept h.line (ltb-false 600 s.loader.kept e) in
        end-parts s p (line_stored s.store text) (line_outcome s.store text) (judged (table_of s.store) (rule_of text)) r
        (line-table s.store text h.ready.undamaged ∙ ap (λ (t : Table). table_after t (judged (table_of s.store) (rule_of text))) h.table)
        (verdict_is s.store text ∙ ap (λ (l : List ℕ). outcome_of (bring_up_in l) (judged (table_of s.store) (rule_of text))) same)
        (rw (h.table, same))
        h

-- ---- a byte joins the line

keep_line : (line : List ℕ) (n : ℕ) (kept : List ℕ) (b : ℕ) → SameLine line n kept → n < 600 → SameLine (set line n b) (n + 1) (kept ++ (b ∷ []))
keep_line line n kept b s h =
    let z : length kept ≡ n = omega (arith, s.size) in
    let grown : length (kept ++ (b ∷ [])) ≡ n + 1 = length-append kept (b ∷ []) ∙ omega (arith, z) in
    let h₁ : n < length line = omega (arith, s.full) in
    let h₂ : length (kept ++ (b ∷ [])) ≤ 600 = omega (arith, grown) in
    record {
      full = length-set line n b ∙ s.full;
      size = omega (arith, grown);
      bytes =
          ap (λ (k : ℕ). take k (set line n b)) (add-one n)
          ∙ take-suc-set line n b h₁
          ∙ ap (λ (x : List ℕ). x ++ (b ∷ [])) (whole-line line n kept s (omega arith))
          ∙ sym (take_all 600 (kept ++ (b ∷ [])) h₂);
    }

long-line : (line : List ℕ) (n : ℕ) (kept : List ℕ) (b : ℕ) → SameLine line n kept → 600 ≤ n → SameLine line 601 (kept ++ (b ∷ []))
long-line line n kept b s h =
    let z : 600 ≤ length kept = omega (arith, s.size) in
    let grown = length-append kept (b ∷ []) in
    let h₁ : length line ≤ 601 = omega (arith, s.full) in
    let h₂ : length line ≤ n = omega (arith, s.full) in
    record {
      full = s.full;
      size = omega (arith, grown);
      bytes = take_all 601 line h₁ ∙ sym (take_all n line h₂) ∙ s.bytes ∙ sym (take-append-le 600 kept (b ∷ []) z);
    }

keep_follows :
    (s : Load) (p : Reader) (b : ℕ) →
    Holds s p →
    Ready (keep_byte s b) →
    Holds (keep_byte s b) (record { table = p.table; kept = p.kept ++ (b ∷ []); totals = p.totals })
keep_follows s p b h r = by-test (ltb s.loader.kept 600) refl r
  where
    by-test :
        (t : Bool) →
        ltb s.loader.kept 600 ≡ t →
        Ready
        (cond t
        (load s.store (set s.line s.loader.kept b) (with_kept s.loader (s.loader.kept + 1)))
        (load s.store s.line (with_kept s.loader 601))) →
        Holds
        (cond t
        (load s.store (set s.line s.loader.kept b) (with_kept s.loader (s.loader.kept + 1)))
        (load s.store s.line (with_kept s.loader 601)))
        (record { table = p.table; kept = p.kept ++ (b ∷ []); totals = p.totals })
    by-test true e r =
        record {
          ready = r;
          table = h.table;
          line = keep_line s.line s.loader.kept p.kept b h.line (ltb-true s.loader.kept 600 e);
          totals = h.totals;
        }
    by-test false e r =
        record {
          ready = r;
          table = h.table;
          line = long-line s.line s.loader.kept p.kept b h.line (ltb-false s.loader.kept 600 e);
          totals = h.totals;
        }

-- ---- a byte, a piece, the end call

pub step_follows : (s : Load) (p : Reader) (b : ℕ) → Holds s p → Holds (step_byte s b) (take_byte p b)
unfolding step_byte take_byte
step_follows s p b h = by-test (eqb b 10) (ready_step s b h.ready)
  where
    by-test :
        (t : Bool) →
        Ready (cond t (end_kept s) (keep_byte s b)) →
        Holds (cond t (end_kept s) (keep_byte s b)) (cond t (end_line p) (record { table = p.table; kept = p.kept ++ (b ∷ []); totals = p.totals }))
    by-test true r = end_follows s p h
    by-test false r = keep_follows s p b h r

pub piece_follows : (s : Load) (p : Reader) (text : List ℕ) → Holds s p → Holds (step_piece s text) (take_piece p text)
piece_follows s p [] h = h
piece_follows s p (b ∷ bs) h = piece_follows (step_byte s b) (take_byte p b) bs (step_follows s p b h)

pub finish_follows : (s : Load) (p : Reader) → Holds s p → Holds (step_end s) (finish p)
unfolding step_end finish
finish_follows s p h = rw same (by-test (ltb 0 (length p.kept)))
  where
    by_size : (b : Bool) → ltb 0 (length p.kept) ≡ b → ltb 0 s.loader.kept ≡ b
    by_size true e = lt-ltb 0 s.loader.kept (omega (arith, ltb-true 0 (length p.kept) e, h.line.size))
    by_size false e = le-ltb 0 s.loader.kept (omega (arith, ltb-false 0 (length p.kept) e, h.line.size))

    same : ltb 0 s.loader.kept ≡ ltb 0 (length p.kept)
    same = by_size (ltb 0 (length p.kept)) refl

    by-test : (b : Bool) → Holds (cond b (end_kept s) s) (cond b (end_line p) p)
    by-test true = end_follows s p h
    by-test false = h

-- a fresh loader stands for a plain reader that begins
pub fresh_holds : (st : Store) (line : List ℕ) → undamaged_of st ≡ true → length line ≡ 600 → Holds (load st line fresh_loader) (start_on (table_of st))
unfolding limited
fresh_holds st line u full =
    record {
      ready = record { undamaged = u; line = full; kept = omega arith };
      table = refl;
      line = empty-line line 0 full refl;
      totals = record { lines = refl; accepted = refl; skipped = refl; refused = refl; first = refl; reason = refl; place = refl; bringup = refl };
    }

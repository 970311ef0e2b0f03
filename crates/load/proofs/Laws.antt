-- Laws of the loader's exact step. Assumes nothing.
use mathlib.Core.Path.{◌≡◌, refl, sym, ap, ◌∙◌}
use mathlib.Core.Bool.{Bool, true, false, cond, ◌&&◌}
use mathlib.Core.List.{List, [], ◌∷◌, ◌++◌, append_assoc, foldl-append}
use Prim.Native.Nat.{ℕ, suc, ◌+◌, ◌-◌, ◌<◌, ◌≤◌}
use native.Mathlib.Numerals.{add-one}
use native.Mathlib.Omega.{arith}
use lib.Dec.{ltb, leb, eqb}
use borrow.Author.Tests.{eqb-true, leb-true, ltb-true, eq-eqb, ne_eqb, le-leb, lt-ltb, le-ltb}
use lib.ListN.{length, take, drop, set, length-set, length-drop, take-append-drop}
use lib.Seq.{length-take-le, sets, sets-eq}
use Rattle.search.specs.Bytes.{written}
use Rattle.search.proofs.Laws.{and_both}
use Rattle.std.proofs.Common.{Result, Err}
use Rattle.refusals.specs.Refusals.{too_long}
use Rattle.refusals.specs.declared.Refusal.{Refusal}
use Rattle.store.specs.Layout.{Store, undamaged_of}
use Rattle.writes.specs.Writes.{line_outcome, line_stored}
use Rattle.writes.specs.declared.Outcome.{Outcome}
use Rattle.writes.proofs.Laws.{line-undamaged}
use Rattle.reports.specs.declared.Loader.{Loader}
use Rattle.reports.specs.Report.{count, with_kept}
use Rattle.text_lines.specs.Within.{before_newline, NoNewline}
use Rattle.text_lines.proofs.Laws.{run-first, run-rest, run_take, run_drop, line-left}
pub use Rattle.load.specs.Loader.{Ready}
use Rattle.load.specs.Loader.{WhatReadyIs, Load, load, ready, end_kept, keep_byte, step_byte, step_piece}

-- ---- a state that is ready

pub ready-is : (s : Load) → ready s ≡ true → Ready s
unfolding ready
ready-is s e =
    let a = and_both (undamaged_of s.store) (eqb (length s.line) 600 && leb s.loader.kept 601) e in
    let b = and_both (eqb (length s.line) 600) (leb s.loader.kept 601) a.1 in
    record { undamaged = a.0; line = eqb-true _ _ b.0; kept = leb-true _ _ b.1 }

pub is-ready : (s : Load) → Ready s → ready s ≡ true
unfolding ready
is-ready s r = rw (r.undamaged, eq-eqb _ _ r.line, le-leb _ _ r.kept)

-- what a test of one store says of another that is the same
pub ready-same : {st st' : Store} {b answer : Bool} (line : List ℕ) (l : Loader) → st ≡ st' → b ≡ ready (load st line l) → b ≡ answer → ready (load st' line l) ≡ answer
ready-same line l p q r = ap (λ (x : Store). ready (load x line l)) (sym p) ∙ sym q ∙ r

pub what_ready-is : WhatReadyIs
what_ready-is s = (ready-is s, is-ready s)

pub ready-end : (s : Load) → Ready s → Ready (end_kept s)
ready-end s r = by-test (ltb 600 s.loader.kept)
  where
    verdict : Result Outcome Refusal
    verdict = line_outcome s.store (take s.loader.kept s.line)

    by-test :
        (b : Bool) →
        Ready
        (cond b
        (load s.store s.line (count s.loader (Err too_long)))
        (load (line_stored s.store (take s.loader.kept s.line)) s.line (count s.loader (line_outcome s.store (take s.loader.kept s.line)))))
    by-test true = record { undamaged = r.undamaged; line = r.line; kept = omega arith }
    by-test false =
        record {
          undamaged = line-undamaged s.store (take s.loader.kept s.line) r.undamaged;
          line = r.line;
          kept = omega arith;
        }

ready_keep : (s : Load) (b : ℕ) → Ready s → Ready (keep_byte s b)
ready_keep s b r = by-test (ltb s.loader.kept 600) refl
  where
    by-test :
        (t : Bool) →
        ltb s.loader.kept 600 ≡ t →
        Ready
        (cond t
        (load s.store (set s.line s.loader.kept b) (with_kept s.loader (s.loader.kept + 1)))
        (load s.store s.line (with_kept s.loader 601)))
    by-test true e =
        record {
          undamaged = r.undamaged;
          line = length-set s.line s.loader.kept b ∙ r.line;
          kept = omega (arith, ltb-true s.loader.kept 600 e);
        }
    by-test false e = record { undamaged = r.undamaged; line = r.line; kept = omega arith }

pub ready_step : (s : Load) (b : ℕ) → Ready s → Ready (step_byte s b)
unfolding step_byte
ready_step s b r = by-test (eqb b 10)
  where
    by-test : (t : Bool) → Ready (cond t (end_kept s) (keep_byte s b))
    by-test true = ready-end s r
    by-test false = ready_keep s b r

pub ready-piece : (s : Load) (text : List ℕ) → Ready s → Ready (step_piece s text)
ready-piece s [] r = r
ready-piece s (b ∷ bs) r = ready-piece (step_byte s b) bs (ready_step s b r)

pub same_load : {st st' : Store} {line line' : List ℕ} {l l' : Loader} → st ≡ st' → line ≡ line' → l ≡ l' → load st line l ≡ load st' line' l'
same_load p q r = rw (p, q, r)

-- ---- a run of bytes with no newline joins the kept line

module _ (st : Store) where
  pub joins : (line : List ℕ) (l : Loader) (b : ℕ) → (b ≡ 10 → ⊥) → l.kept < 600 → step_byte (load st line l) b ≡ load st (set line l.kept b) (with_kept l (l.kept + 1))
  unfolding step_byte
  joins line l b e h = rw (ne_eqb b 10 e, lt-ltb l.kept 600 h)

  pub too_long_lem : (line : List ℕ) (l : Loader) (b : ℕ) → (b ≡ 10 → ⊥) → 600 ≤ l.kept → step_byte (load st line l) b ≡ load st line (with_kept l 601)
  unfolding step_byte
  too_long_lem line l b e h = rw (ne_eqb b 10 e, le-ltb l.kept 600 h)

  pub run_none : (line : List ℕ) (l : Loader) (run : List ℕ) → length run ≡ 0 → load st line l ≡ step_piece (load st line l) run
  run_none line l [] e = refl
  run_none line l (b ∷ bs) e = absurd (omega (arith, e))

  run-set : (line : List ℕ) (l : Loader) (run : List ℕ) → NoNewline run → l.kept + length run ≤ 600 → step_piece (load st line l) run ≡ load st (sets line l.kept run) (with_kept l (l.kept + length run))
  run-set line l [] e h =
      let z : l.kept ≡ l.kept + 0 = omega arith in
      ap (λ (k : ℕ). load st line (with_kept l k)) z
  run-set line l (b ∷ bs) e h =
      let z : l.kept + 1 + length bs ≡ l.kept + suc (length bs) = omega arith in
      ap (λ (s : Load). step_piece s bs) (joins line l b (run-first b bs e) (omega arith))
      ∙ run-set (set line l.kept b) (with_kept l (l.kept + 1)) bs (run-rest b bs e) (omega arith)
      ∙ ap (λ (k : ℕ). load st (sets (set line l.kept b) k bs) (with_kept l (l.kept + 1 + length bs))) (add-one l.kept)
      ∙ ap (λ (k : ℕ). load st (sets line l.kept (b ∷ bs)) (with_kept l k)) z

  stays_long : (line : List ℕ) (l : Loader) (run : List ℕ) → NoNewline run → step_piece (load st line (with_kept l 601)) run ≡ load st line (with_kept l 601)
  stays_long line l [] e = refl
  stays_long line l (b ∷ bs) e =
      ap (λ (s : Load). step_piece s bs) (too_long_lem line (with_kept l 601) b (run-first b bs e) (omega arith))
      ∙ stays_long line l bs (run-rest b bs e)

  run_past : (line : List ℕ) (l : Loader) (run : List ℕ) → NoNewline run → 600 ≤ l.kept → 0 < length run → step_piece (load st line l) run ≡ load st line (with_kept l 601)
  run_past line l [] e h some = absurd (omega (arith, some))
  run_past line l (b ∷ bs) e h some =
      ap (λ (s : Load). step_piece s bs) (too_long_lem line l b (run-first b bs e) h)
      ∙ stays_long line l bs (run-rest b bs e)

  run_cut :
      (line : List ℕ) (l : Loader) (run : List ℕ) (room : ℕ) →
      NoNewline run →
      l.kept + room ≡ 600 →
      room < length run →
      step_piece (load st line l) run ≡ load st (sets line l.kept (take room run)) (with_kept l 601)
  run_cut line l run room e h more =
      let size = length-take-le room run (omega arith) in
      let full : l.kept + length (take room run) ≡ 600 = omega (arith, size, h) in
      ap (λ (t : List ℕ). step_piece (load st line l) t) (sym (take-append-drop room run))
      ∙ foldl-append step_byte (load st line l) (take room run) (drop room run)
      ∙ ap (λ (s : Load). step_piece s (drop room run)) (run-set line l (take room run) (run_take room run e) (omega (arith, full)))
      ∙ run_past (sets line l.kept (take room run)) (with_kept l (l.kept + length (take room run))) (drop room run) (run_drop room run e) (omega (arith, full)) (omega (arith, length-drop room run))

pub set-written : (line : List ℕ) (at : ℕ) (run : List ℕ) → at + length run ≤ length line → written line at run ≡ sets line at run
unfolding written
set-written line at run h = sym (sets-eq run line at h ∙ append_assoc (take at line) run (drop (at + length run) line))

-- the three ways of a run: there is room, the line is too long already, or it becomes so
pub run-kept :
    (st : Store) (line : List ℕ) (l : Loader) (run : List ℕ) {line' : List ℕ} {l' : Loader} →
    length line ≡ 600 →
    NoNewline run →
    l.kept + length run ≤ 600 →
    line' ≡ written line l.kept run →
    l' ≡ with_kept l (l.kept + length run) →
    load st line' l' ≡ step_piece (load st line l) run
run-kept st line l run size e h p q =
    same_load refl (p ∙ set-written line l.kept run (omega (arith, size))) q ∙ sym (run-set st line l run e h)

pub run_long :
    (st : Store) (line : List ℕ) (l : Loader) (run : List ℕ) {l' : Loader} →
    NoNewline run →
    600 < l.kept →
    (length run ≡ 0 → ⊥) →
    l' ≡ with_kept l 601 →
    load st line l' ≡ step_piece (load st line l) run
run_long st line l run e h some q = same_load refl refl q ∙ sym (run_past st line l run e (omega arith) (omega (arith, some)))

pub run-over :
    (st : Store) (line : List ℕ) (l : Loader) (run : List ℕ) (room : ℕ) {line' : List ℕ} {l' : Loader} →
    length line ≡ 600 →
    NoNewline run →
    l.kept + room ≡ 600 →
    room < length run →
    line' ≡ written line l.kept (take room run) →
    l' ≡ with_kept l 601 →
    load st line' l' ≡ step_piece (load st line l) run
run-over st line l run room size e h more p q =
    same_load refl (p ∙ set-written line l.kept (take room run) (omega (arith, size, h, length-take-le room run (omega arith)))) q
    ∙ sym (run_cut st line l run room e h more)

-- ---- a piece, line by line

newline-ends : (s : Load) (b : ℕ) → b ≡ 10 → step_byte s b ≡ end_kept s
unfolding step_byte
newline-ends s b e = rw (eq-eqb b 10 e)

-- a newline alone leaves an empty line
pub byte_empties : (s : Load) (b : ℕ) → eqb (step_byte s b).loader.kept 0 ≡ eqb b 10
unfolding step_byte
byte_empties s b = by-test (eqb b 10)
  where
    ends : (x : Bool) → eqb (cond x (load s.store s.line (count s.loader (Err too_long))) (load (line_stored s.store (take s.loader.kept s.line)) s.line (count s.loader (line_outcome s.store (take s.loader.kept s.line))))).loader.kept 0 ≡ true
    ends true = refl
    ends false = refl

    joins : (x : Bool) → eqb (cond x (load s.store (set s.line s.loader.kept b) (with_kept s.loader (s.loader.kept + 1))) (load s.store s.line (with_kept s.loader 601))).loader.kept 0 ≡ false
    joins true = ne_eqb (s.loader.kept + 1) 0 (λ z. omega (arith, z))
    joins false = refl

    by-test : (m : Bool) → eqb (cond m (end_kept s) (keep_byte s b)).loader.kept 0 ≡ m
    by-test true = ends (ltb 600 s.loader.kept)
    by-test false = joins (ltb s.loader.kept 600)

-- the run from an index of the text to its line's end joins the kept line, its newline ends it, and the bytes behind are left
pub piece-line : (text : List ℕ) (i end : ℕ) → i ≤ length text → end ≡ i + before_newline (drop i text) → (s : Load) → end < length text →
    step_piece s (drop i text) ≡ step_piece (end_kept (step_piece s (take (end - i) (drop i text)))) (drop (end + 1) text)
piece-line text i end h e s q =
    ap (λ (t : List ℕ). step_piece s t) (line-left text i end h e q)
    ∙ foldl-append step_byte s (take (end - i) (drop i text) ++ (10 ∷ [])) (drop (end + 1) text)
    ∙ ap (λ (x : Load). step_piece x (drop (end + 1) text)) (foldl-append step_byte s (take (end - i) (drop i text)) (10 ∷ []) ∙ newline-ends (step_piece s (take (end - i) (drop i text))) 10 refl)

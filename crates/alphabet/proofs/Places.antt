-- The place of the first bad byte: of a label in 02's words, of a text field by field as the reader finds them, and by the fields that the text is cut into.
-- Assumes nothing.
use mathlib.Core.Path.{◌≡◌, refl, sym, ap, ◌∙◌}
use mathlib.Core.Bool.{Bool, true, false, cond, not}
use mathlib.Core.List.{List, [], ◌∷◌, ◌++◌}
use Prim.Native.Nat.{ℕ, zero, suc, ◌+◌, ◌-◌, ◌<◌, ◌≤◌, suc-le-suc}
use native.Mathlib.Omega.{arith}
use lib.Dec.{eqb, leb, ltb}
use lib.ListN.{length, take, drop, get_or, length-take, length-drop, drop_of_length-le}
use lib.Seq.{drop-drop, get_or-take}
use borrow.Author.Tests.{eqb-true, eqb-false, leb-false, ltb-false, not-true, not-false}
use Rattle.search.specs.Search.{first, all, place_of}
use Rattle.std.proofs.Common.{Option, Some, None}
use Rattle.search.proofs.Laws.{no, not_so, first-is, first-before, first_fails}
use Rattle.alphabet.specs.Alphabet.{is_blank, label_byte, LabelByte, well_formed, label_longest, or_too_long, fault_of, bad_byte, BadAt, FirstBad, onto, parts, is_bad, bad_byte_from, bad_byte_in, Blanks, NoBlanks, Cut, BadIn, FirstBadByte}
use Rattle.alphabet.specs.Within.{run, start_of, end_of, field_at, part, label_field_at}
use Rattle.alphabet.specs.declared.Field.TheVariants.{Part, End}
use Rattle.alphabet.specs.declared.LabelField.TheVariants as label_field
use Rattle.alphabet.proofs.Laws.{label_is, blank-is, label_form, fault-empty, fault-dash, fault-at, fault-long, fault-formed, formed_missing, missing, run_le, opens, field-some, label-field-some}
use Rattle.alphabet.proofs.Cut.{unblank, fields_cut_line, closed}

-- ---- a label

-- a byte that is no label byte, as a test and in 01's words
no_label : (b : ℕ) → label_byte b ≡ false → LabelByte b → ⊥
no_label b e h = no (sym e ∙ (label_is b).1 h)

unlabel : (b : ℕ) → (LabelByte b → ⊥) → label_byte b ≡ false
unlabel b h = not_so (label_byte b) (λ e. h ((label_is b).0 e))

-- what a search for the first byte that is no label byte tells of the label
module _ (l : List ℕ) where
  abbrev searched : Option ℕ
  searched = first (λ (b : ℕ). not (label_byte b)) (take label_longest l)

  in_front : (k : ℕ) → k < label_longest → not (label_byte (get_or (take label_longest l) k 0)) ≡ false → LabelByte (get_or l k 0)
  in_front k h e = (label_is (get_or l k 0)).0 (not-false (label_byte (get_or l k 0)) (sym (ap (λ (b : ℕ). not (label_byte b)) (get_or-take label_longest l k 0 h)) ∙ e))

  fault_there : (k : ℕ) → fault_of l ≡ Some k → FirstBad l k
  unfolding fault_of
  fault_there k e = by_tests (eqb (length l) 0) refl (eqb (get_or l 0 0) 45) refl searched refl e
    where
      nothing : (l : List ℕ) → length l ≡ 0 → BadAt l 0
      nothing [] h = BadAt.empty
      nothing (b ∷ bs) h = absurd (omega arith)

      at-start : BadAt l 0 → FirstBad l 0
      at-start b = record { fault = b; before = λ i h. absurd (omega arith); no_dash = λ h. absurd (omega arith) }

      by_first : (get_or l 0 0 ≡ 45 → ⊥) → (f : Option ℕ) → searched ≡ f → or_too_long f (length l) ≡ Some k → FirstBad l k
      by_first d (Some j) q e =
          let z : j ≡ k = cc in
          let i = first-is (λ (b : ℕ). not (label_byte b)) 0 (take label_longest l) j q in
          let n = rw length-take at i.0 in
          rw (← z)
          (record {
            fault = BadAt.no_label_byte l j (omega arith) (omega arith) (no_label (get_or l j 0) (not-true (label_byte (get_or l j 0)) (sym (ap (λ (b : ℕ). not (label_byte b)) (get_or-take label_longest l j 0 (omega arith))) ∙ i.1)));
            before = λ i h. in_front i (omega arith) (first-before (λ (b : ℕ). not (label_byte b)) 0 (take label_longest l) j q i h);
            no_dash = λ h. d;
          })
      by_first d None q e = by_length (leb (length l) label_longest) refl e
        where
          by_length : (t : Bool) → leb (length l) label_longest ≡ t → cond t None (Some label_longest) ≡ Some k → FirstBad l k
          by_length true h e = let z : ◌≡◌ {A = ℕ} 0 1 = cc in absurd (omega arith)
          by_length false h e =
              let z : label_longest ≡ k = cc in
              let long = leb-false (length l) label_longest h in
              rw (← z)
              (record {
                fault = BadAt.too_long l long;
                before = λ i h. in_front i h (first_fails (λ (b : ℕ). not (label_byte b)) 0 (take label_longest l) q i (rw length-take (omega arith)));
                no_dash = λ h. d;
              })

      by_tests : (a : Bool) → eqb (length l) 0 ≡ a → (d : Bool) → eqb (get_or l 0 0) 45 ≡ d → (f : Option ℕ) → searched ≡ f → cond a (Some 0) (cond d (Some 0) (or_too_long f (length l))) ≡ Some k → FirstBad l k
      by_tests true h d i f q e = let z : 0 ≡ k = cc in rw (← z) (at-start (nothing l (eqb-true (length l) 0 h)))
      by_tests false h true i f q e = let z : 0 ≡ k = cc in rw (← z) (at-start (BadAt.leading_dash l (eqb-true (get_or l 0 0) 45 i)))
      by_tests false h false i f q e = by_first (eqb-false (get_or l 0 0) 45 i) f q e

dash-is-byte : (l : List ℕ) → get_or l 0 0 ≡ 45 → length l ≡ 0 → ⊥
dash-is-byte [] e i = omega arith
dash-is-byte (b ∷ bs) e i = omega arith

fault_back : (l : List ℕ) (k : ℕ) → FirstBad l k → fault_of l ≡ Some k
fault_back l k w = by-fault w.fault w.before w.no_dash
  where
    by-fault : {l : List ℕ} {k : ℕ} → BadAt l k → ((i : ℕ) → i < k → LabelByte (get_or l i 0)) → (0 < k → get_or l 0 0 ≡ 45 → ⊥) → fault_of l ≡ Some k
    by-fault BadAt.empty before d = fault-empty [] refl
    by-fault (BadAt.leading_dash l e) before d = fault-dash l (dash-is-byte l e) e
    by-fault (BadAt.no_label_byte l zero h i bad) before d = by-dash (eqb (get_or l 0 0) 45) refl
      where
        by-dash : (t : Bool) → eqb (get_or l 0 0) 45 ≡ t → fault_of l ≡ Some 0
        by-dash true e = fault-dash l (λ q. omega arith) (eqb-true (get_or l 0 0) 45 e)
        by-dash false e = fault-at l (λ q. omega arith) (eqb-false (get_or l 0 0) 45 e) 0 h i (λ j q. absurd (omega arith)) (unlabel (get_or l 0 0) bad)
    by-fault (BadAt.no_label_byte l (suc k) h i bad) before d =
        fault-at l (λ q. omega arith) (d (omega arith)) (suc k) h i (λ j q. (label_is (get_or l j 0)).1 (before j q)) (unlabel (get_or l (suc k) 0) bad)
    by-fault (BadAt.too_long l h) before d = fault-long l (λ q. omega arith) (d (omega arith)) h (λ j q. (label_is (get_or l j 0)).1 (before j q))

-- a fault stands among the first 256 places
pub bad_byte_small : (l : List ℕ) → bad_byte l ≤ 255
bad_byte_small l = by-fault (fault_of l) refl
  where
    small : {l : List ℕ} {k : ℕ} → BadAt l k → k ≤ 255
    small BadAt.empty = omega arith
    small (BadAt.leading_dash l e) = omega arith
    small (BadAt.no_label_byte l k h i bad) = omega arith
    small (BadAt.too_long l h) = omega arith

    by-fault : (f : Option ℕ) → fault_of l ≡ f → place_of f 0 ≤ 255
    by-fault (Some k) e = small (fault_there l k e).fault
    by-fault None e = omega arith

-- a label that is not well formed has one
pub bad_byte-is : (l : List ℕ) → well_formed l ≡ false → FirstBad l (bad_byte l)
bad_byte-is l w = by-fault (fault_of l) refl
  where
    by-fault : (f : Option ℕ) → fault_of l ≡ f → FirstBad l (place_of f 0)
    by-fault (Some k) e = fault_there l k e
    by-fault None e = absurd (no (sym w ∙ fault-formed l e))

-- ---- a text, by the runs of blanks and of other bytes, as the reader passes them

place_skip : (start : ℕ) (l : List ℕ) → bad_byte_from start (parts l) ≡ bad_byte_from (start + run true l) (parts (drop (run true l) l))
unfolding run
place_skip start [] = refl
place_skip start (b ∷ bs) = by-test (is_blank b) refl (place_skip (start + 1) bs)
  where
    by-test : (t : Bool) → is_blank b ≡ t → bad_byte_from (start + 1) (parts bs) ≡ bad_byte_from (start + 1 + run true bs) (parts (drop (run true bs) bs)) → bad_byte_from start (parts (b ∷ bs)) ≡ bad_byte_from (start + cond t (suc (run true bs)) zero) (parts (drop (cond t (suc (run true bs)) zero) (b ∷ bs)))
    by-test true e ih =
        let s : start + suc (run true bs) ≡ start + 1 + run true bs = omega arith in
        rw (e, s) ih
    by-test false e ih = let s : start + zero ≡ start = omega arith in rw s

-- the parts behind a blank that a text begins with
abbrev beyond : List ℕ → List (List ℕ)
beyond [] = []
beyond (b ∷ bs) = parts bs

parts_cut : (l : List ℕ) → parts l ≡ take (run false l) l ∷ beyond (drop (run false l) l)
unfolding run
parts_cut [] = refl
parts_cut (b ∷ bs) = by-test (is_blank b) (parts_cut bs)
  where
    by-test : (t : Bool) → parts bs ≡ take (run false bs) bs ∷ beyond (drop (run false bs) bs) → cond t ([] ∷ parts bs) (onto b (parts bs)) ≡ take (cond t zero (suc (run false bs))) (b ∷ bs) ∷ beyond (drop (cond t zero (suc (run false bs))) (b ∷ bs))
    by-test true ih = refl
    by-test false ih = ap (onto b) ih

-- past a run of other bytes there is a blank, or nothing
shut : (l : List ℕ) → opens (drop (run false l) l) ≡ false
unfolding run
shut [] = refl
shut (b ∷ bs) = by-test (is_blank b) refl (shut bs)
  where
    by-test : (t : Bool) → is_blank b ≡ t → opens (drop (run false bs) bs) ≡ false → opens (drop (cond t zero (suc (run false bs))) (b ∷ bs)) ≡ false
    by-test true e ih = rw e
    by-test false e ih = ih

place_shut : (start : ℕ) (l : List ℕ) → opens l ≡ false → bad_byte_from start (parts l) ≡ bad_byte_from (start + 1) (beyond l)
place_shut start [] e = refl
place_shut start (b ∷ bs) e = rw (not-false (is_blank b) e)

place_cut : (start : ℕ) (l : List ℕ) → bad_byte_from start (parts l) ≡ cond (is_bad (take (run false l) l)) (start + bad_byte (take (run false l) l)) (bad_byte_from (start + run false l) (parts (drop (run false l) l)))
place_cut start l =
    let r = run false l in
    let long : length (take r l) ≡ r = rw length-take (omega (arith, run_le false l)) in
    let s : start + (length (take r l) + 1) ≡ start + r + 1 = omega arith in
    ap (bad_byte_from start) (parts_cut l) ∙ rw (s, place_shut (start + r) (drop r l) (shut l))

-- the place from an index on
abbrev pub bad_byte_at : List ℕ → ℕ → ℕ
bad_byte_at text from = bad_byte_from from (parts (drop from text))

pub place-all : (text : List ℕ) → bad_byte_in text ≡ bad_byte_at text 0
unfolding bad_byte_in
place-all text = refl

place_start : (text : List ℕ) (from : ℕ) → bad_byte_at text from ≡ bad_byte_at text (start_of text from)
unfolding start_of
place_start text from = place_skip from (drop from text) ∙ rw (drop-drop (run true (drop from text)) from text)

-- a field is bad where it is no label
bad_field : (p : List ℕ) (x y : ℕ) → 0 < length p → cond (is_bad p) x y ≡ cond (well_formed p) y x
bad_field [] x y h = absurd (omega arith)
bad_field (b ∷ bs) x y h = by_bool (well_formed (b ∷ bs))
  where
    by_bool : (t : Bool) → cond (not t) x y ≡ cond t y x
    by_bool true = refl
    by_bool false = refl

-- where the reader finds a field, and where it finds none
place-run :
    (text : List ℕ) (start r : ℕ) →
    r ≡ run false (drop start text) →
    0 < length (part text start (start + r)) →
    bad_byte_at text start ≡ cond (well_formed (part text start (start + r))) (bad_byte_at text (start + r)) (start + bad_byte (part text start (start + r)))
place-run text start r e some =
    let size : start + r - start ≡ r = omega arith in
    place_cut start (drop start text)
    ∙ rw (← e, drop-drop r start text, size) (bad_field (take r (drop start text)) (start + bad_byte (take r (drop start text))) (bad_byte_at text (start + r)) (rw size at some))

pub place_next :
    (text : List ℕ) (from start end : ℕ) →
    field_at text from ≡ Part start end →
    bad_byte_at text from ≡ cond (well_formed (part text start end)) (bad_byte_at text end) (start + bad_byte (part text start end))
unfolding field_at end_of
place_next text from start end e = by-test (ltb (start_of text from) (length text)) e
  where
    by-test : (t : Bool) → cond t (Part (start_of text from) (end_of text (start_of text from))) End ≡ Part start end → bad_byte_at text from ≡ cond (well_formed (part text start end)) (bad_byte_at text end) (start + bad_byte (part text start end))
    by-test true q =
        let s : start_of text from ≡ start = cc in
        let z : start + run false (drop start text) ≡ end = rw s at (the_end q) in
        let w = field-some text from start end e in
        let long : length (part text start end) ≡ end - start = rw (length-take, length-drop) (omega (arith, w.starts, w.ends)) in
        let some : 0 < length (part text start (start + run false (drop start text))) = rw z (omega (arith, long, w.starts)) in
        place_start text from ∙ rw s (place-run text start (run false (drop start text)) refl some ∙ rw z)
      where
        the_end : Part (start_of text from) (end_of text (start_of text from)) ≡ Part start end → start_of text from + run false (drop (start_of text from) text) ≡ end
        the_end q = cc
    by-test false q = let z : ◌≡◌ {A = ℕ} 0 1 = cc in absurd (omega arith)

pub place_none : (text : List ℕ) (from : ℕ) → field_at text from ≡ End → bad_byte_at text from ≡ 0
unfolding field_at
place_none text from e = by-test (ltb (start_of text from) (length text)) refl e
  where
    by-test : (t : Bool) → ltb (start_of text from) (length text) ≡ t → cond t (Part (start_of text from) (end_of text (start_of text from))) End ≡ End → bad_byte_at text from ≡ 0
    by-test true h q = let z : ◌≡◌ {A = ℕ} 0 1 = cc in absurd (omega arith)
    by-test false h q = place_start text from ∙ rw (drop_of_length-le text {i = start_of text from} (ltb-false (start_of text from) (length text) h))

-- the same of the reader that judges a field as a label: a field that is no label ends the search, behind one it goes on, and the text's end ends it
pub place_here :
    (text : List ℕ) (from start end : ℕ) {formed : Bool} →
    label_field_at text from ≡ label_field.Part start end formed →
    formed ≡ false →
    bad_byte_at text from ≡ start + bad_byte (part text start end)
place_here text from start end e f =
    let w = label-field-some text from start end _ e in
    place_next text from start end w.0 ∙ rw (w.1 ∙ f)

pub place-later :
    (text : List ℕ) (from start end : ℕ) {formed : Bool} →
    label_field_at text from ≡ label_field.Part start end formed →
    formed ≡ true →
    bad_byte_at text from ≡ bad_byte_at text end
place-later text from start end e f =
    let w = label-field-some text from start end _ e in
    place_next text from start end w.0 ∙ rw (w.1 ∙ f)

-- ---- a text, by the fields that it is cut into

place-blanks : (start : ℕ) (bs l : List ℕ) → Blanks bs → bad_byte_from start (parts (bs ++ l)) ≡ bad_byte_from (start + length bs) (parts l)
place-blanks start [] l h = let s : start + 0 ≡ start = omega arith in rw s
place-blanks start (b ∷ bs) l h =
    let s : start + suc (length bs) ≡ start + 1 + length bs = omega arith in
    rw ((blank-is b).1 (h zero (omega arith)), s) (place-blanks (start + 1) bs l (λ k i. h (suc k) (suc-le-suc i)))

parts-field : (f rest : List ℕ) → NoBlanks f → opens rest ≡ false → parts (f ++ rest) ≡ f ∷ beyond rest
parts-field [] [] h e = refl
parts-field [] (b ∷ bs) h e = rw (not-false (is_blank b) e)
parts-field (x ∷ f) rest h e = rw (unblank x (h zero (omega arith))) (ap (onto x) (parts-field f rest (λ k i. h (suc k) (suc-le-suc i)) e))

place-field :
    (start : ℕ) (f rest : List ℕ) →
    1 ≤ length f →
    NoBlanks f →
    opens rest ≡ false →
    bad_byte_from start (parts (f ++ rest)) ≡ cond (well_formed f) (bad_byte_from (start + length f) (parts rest)) (start + bad_byte f)
place-field start f rest some h e =
    let s : start + (length f + 1) ≡ start + length f + 1 = omega arith in
    ap (bad_byte_from start) (parts-field f rest h e)
    ∙ rw (s, ← place_shut (start + length f) rest e) (bad_field f (start + bad_byte f) (bad_byte_from (start + length f) (parts rest)) (omega arith))

-- the place is the one that 02 says
bad_in : (start : ℕ) {l : List ℕ} {fs : List (List ℕ)} → Cut l fs → all well_formed fs ≡ false → BadIn start l (bad_byte_from start (parts l))
unfolding all
bad_in start (Cut.blanks bs h) e = absurd (no (sym e))
bad_in start (Cut.field bs f rest fs h some bytes ends c) e =
    rw (place-blanks start bs (f ++ rest) h, place-field (start + length bs) f rest some bytes (closed rest ends))
    (by_form (well_formed f) refl (λ later. bad_in (start + (length bs + length f)) c later))
  where
    by_form :
        (t : Bool) →
        well_formed f ≡ t →
        (all well_formed fs ≡ false → BadIn (start + (length bs + length f)) rest (bad_byte_from (start + (length bs + length f)) (parts rest))) →
        BadIn start (bs ++ (f ++ rest)) (cond t (bad_byte_from (start + length bs + length f) (parts rest)) (start + length bs + bad_byte f))
    by_form true w ih =
        let s : start + length bs + length f ≡ start + (length bs + length f) = omega arith in
        let later : all well_formed fs ≡ false = rw w at e in
        rw s (BadIn.behind start bs f rest (bad_byte_from (start + (length bs + length f)) (parts rest)) h bytes ends ((label_form f).0 w) (ih later))
    by_form false w ih =
        let s : start + length bs + bad_byte f ≡ start + (length bs + bad_byte f) = omega arith in
        rw s (BadIn.here start bs f rest (bad_byte f) h some bytes ends (bad_byte-is f w))

-- and no other is
only_there : {start : ℕ} {l : List ℕ} {place : ℕ} → BadIn start l place → bad_byte_from start (parts l) ≡ place
only_there (BadIn.here start bs f rest k h some bytes ends w) =
    let z = fault_back f k w in
    let s : start + length bs + k ≡ start + (length bs + k) = omega arith in
    place-blanks start bs (f ++ rest) h
    ∙ place-field (start + length bs) f rest some bytes (closed rest ends)
    ∙ rw (formed_missing f, z) s
only_there (BadIn.behind start bs f rest place h bytes ends w later) =
    let s : start + length bs + length f ≡ start + (length bs + length f) = omega arith in
    place-blanks start bs (f ++ rest) h
    ∙ place-field (start + length bs) f rest w.some bytes (closed rest ends)
    ∙ rw ((label_form f).1 w, s) (only_there later)

no_fault : (l : List ℕ) → well_formed l ≡ true → fault_of l ≡ None
no_fault l w = by-fault (fault_of l) (sym (formed_missing l) ∙ w)
  where
    by-fault : (f : Option ℕ) → missing f ≡ true → f ≡ None
    by-fault (Some k) e = absurd (no e)
    by-fault None e = refl

pub first_bad_byte : FirstBadByte
unfolding bad_byte_in
first_bad_byte =
    record {
      label = λ l k. (fault_there l k, fault_back l k);
      well_formed_is = λ l. (λ e. (label_form l).0 (fault-formed l e), λ w. no_fault l ((label_form l).1 w));
      text = λ text e. bad_in 0 (fields_cut_line text) e;
      no_other = λ text place w. only_there w;
    }

-- Of a record, and of a line to be turned into one, the first fault that holds: a record's places and access bytes, and the letter b, by 02's words.
-- Assumes nothing.
use Prim.Native.Nat.{ℕ, suc, ◌-◌, ◌≤◌}
use native.Mathlib.Nat.{sub-zero, suc-sub-suc}
use native.Mathlib.Omega.{arith}
use mathlib.Core.Path.{◌≡◌, refl, sym, ap, ◌∙◌}
use mathlib.Core.Bool.{Bool, true, false, cond, not, ◌&&◌, ◌||◌}
use mathlib.Core.List.{List, [], ◌∷◌, ◌++◌}
use mathlib.Core.Logic.{◌↔◌, ◌⊎◌, inl, inr, ⊎_elim}
use lib.Dec.{eqb, ltb, leb}
use lib.ListN.{length, drop, length-append, length-drop}
use lib.Seq.{length-take-le}
use borrow.Author.Tests.{lt-ltb, le-ltb, ltb-true, le-leb, leb-true, leb-false, eqb-true, eq-eqb, ne_eqb, not-false}
use Rattle.search.specs.Search.{all}
use Rattle.search.specs.Bytes.{ascii, same_bytes}
use Rattle.search.proofs.Laws.{no, and_both, eqb_is, or_is}
use Rattle.refusals.specs.Refusals.{too_long, bad_label, same_labels, bad_record, bad_label_at, bad_access, not_in_a_record, output_too_short}
use Rattle.alphabet.specs.Alphabet.{space, dash, well_formed, fields, bad_byte_in}
use Rattle.modes.specs.Modes.{bit_of, allowed_byte, modes_of, read_modes, modes_text, line_letters, stored_modes, Is, one_of}
use Rattle.std.proofs.Common.{Some, None, Result, Ok, Err}
use Rattle.refusals.specs.declared.Refusal.{Refusal}
use Rattle.modes.proofs.Laws.{letter_at, known-stored}
use Rattle.lines.specs.Lines as said
use Rattle.lines.specs.Lines.{rule_with, rule_by, rule_fields, rule_of}
use Rattle.output.specs.Output as output
use Rattle.output.specs.Output.{put_answer, text_answer}
use Rattle.rule_text.specs.RuleText.{text_of}
use Rattle.fixed_load.specs.Records.{subject_place, object_place, access_bytes, spaces, filled, place_label, is_place, five_letters, in_own_places, is_record, said_by, record_says, of_rule, as_line, line_from, without_newline, in_places, record_of, fits_a_record, if_it_fits, record_from}
use Rattle.fixed_load.proofs.Laws.{filled-length, own-modes}
use Rattle.fixed_load.proofs.Back.{own-byte}
use Rattle.faults.specs.Faults.{Fault, ◌when◌, First, none, by, first_fault, Refuses, bad_labels, bad_access_field, all_spaces, byte_after_space, ends_in_space, bad_label_place, bad_access_bytes, record_faults, over_record_label, to_record_field_faults, line_to_record_faults}

-- ---- what a result is refused by

-- an answer that is refused by what the faults come to
pub refuses :
    {A R : Type 0} (refused : R → A) (refusal : A → First R) →
    ((n : R) → refusal (refused n) ≡ by n) →
    ((x : A) (n : R) → refusal x ≡ by n → x ≡ refused n) →
    (x : A) (faults : List (Fault R)) →
    refusal x ≡ first_fault faults →
    Refuses x refused faults
refuses refused refusal to from x faults e n = (λ q. sym e ∙ ap refusal q ∙ to n, λ q. from x n (e ∙ q))

abbrev pub error_of : {A : Type 0} → Result A Refusal → First Refusal
error_of (Ok x) = none
error_of (Err n) = by n

pub of_result : {A : Type 0} (x : Result A Refusal) (faults : List (Fault Refusal)) → error_of x ≡ first_fault faults → Refuses x Err faults
of_result {A} = refuses Err error_of (λ n. refl) from
  where
    from : (x : Result A Refusal) (n : Refusal) → error_of x ≡ by n → x ≡ Err n
    from (Ok x) n q = let z : ◌≡◌ {A = ℕ} 0 1 = cc in absurd (omega arith)
    from (Err m) n q = let z : m ≡ n = cc in ap Err z

-- ---- tests said otherwise

pub not_leb : (a b : ℕ) → not (leb a b) ≡ ltb b a
not_leb a b = by-test (leb a b) refl
  where
    by-test : (x : Bool) → leb a b ≡ x → not x ≡ ltb b a
    by-test true q = sym (le-ltb _ _ (leb-true a b q))
    by-test false q = sym (lt-ltb _ _ (leb-false a b q))

-- two tests of which each holds where the other does
same_test : (a b : Bool) → (a ≡ true → b ≡ true) → (b ≡ true → a ≡ true) → a ≡ b
same_test true b f g = sym (f refl)
same_test false true f g = g refl
same_test false false f g = refl

-- a text that is given to an output
pub text-first : (t out : List ℕ) → error_of (put_answer t out) ≡ cond (ltb (length out) (length t)) (by output_too_short) none
unfolding put_answer
text-first t out = by-test (leb (length t) (length out)) ∙ rw (not_leb (length t) (length out))
  where
    by-test : (b : Bool) → error_of (cond b (Ok (length t)) (Err output_too_short)) ≡ cond (not b) (by output_too_short) none
    by-test true = refl
    by-test false = refl

-- ---- a label place

spaces-same : (bs : List ℕ) → same_bytes bs (spaces (length bs)) ≡ all_spaces bs
unfolding same_bytes all
spaces-same [] = refl
spaces-same (b ∷ bs) = ap (λ (t : Bool). eqb b space && t) (spaces-same bs)

-- it is its label and then spaces exactly where no other byte stands after a space
label_and_spaces : (p : List ℕ) → same_bytes p (place_label p ++ spaces (length p - length (place_label p))) ≡ not (byte_after_space p)
unfolding place_label same_bytes
label_and_spaces [] = refl
label_and_spaces (b ∷ bs) = by-test (eqb b space) refl (label_and_spaces bs)
  where
    twice : (t : Bool) → t ≡ not (not t)
    twice true = refl
    twice false = refl

    by-test :
        (t : Bool) →
        eqb b space ≡ t →
        same_bytes bs (place_label bs ++ spaces (length bs - length (place_label bs))) ≡ not (byte_after_space bs) →
        same_bytes (b ∷ bs) (cond t [] (b ∷ place_label bs) ++ spaces (suc (length bs) - length (cond t [] (b ∷ place_label bs))))
        ≡ not (cond t (not (all_spaces bs)) (byte_after_space bs))
    by-test true q ih = rw (sub-zero (suc (length bs)), q) (spaces-same bs ∙ twice (all_spaces bs))
    by-test false q ih = rw (suc-sub-suc (length bs) (length (place_label bs)), eq-eqb b b refl) ih

-- and where none does, its label has no byte exactly where it is all spaces
some_byte : (p : List ℕ) → byte_after_space p ≡ false → leb 1 (length (place_label p)) ≡ not (all_spaces p)
unfolding place_label all
some_byte [] e = refl
some_byte (b ∷ bs) e = by-test (eqb b space) e
  where
    by-test :
        (t : Bool) → cond t (not (all_spaces bs)) (byte_after_space bs) ≡ false → leb 1 (length (cond t [] (b ∷ place_label bs))) ≡ not (t && all_spaces bs)
    by-test true q = rw (not-false (all_spaces bs) q)
    by-test false q = le-leb 1 (suc (length (place_label bs))) (omega arith)

-- and the label is shorter than the place exactly where that ends in a space
spaces-end : (b : ℕ) (bs : List ℕ) → all_spaces (b ∷ bs) ≡ true → ends_in_space (b ∷ bs) ≡ true
unfolding all
spaces-end b [] e = (and_both _ _ e).0
spaces-end b (c ∷ bs) e = spaces-end c bs (and_both (eqb b space) _ e).1

next_ltb : (a b : ℕ) → ltb (suc a) (suc b) ≡ ltb a b
next_ltb a b = same_test _ _ (λ e. lt-ltb a b (omega (arith, ltb-true (suc a) (suc b) e))) (λ e. lt-ltb (suc a) (suc b) (omega (arith, ltb-true a b e)))

shorter : (p : List ℕ) → byte_after_space p ≡ false → ltb (length (place_label p)) (length p) ≡ ends_in_space p
unfolding place_label
shorter [] e = refl
shorter (b ∷ []) e = by-test (eqb b space)
  where
    by-test : (t : Bool) → ltb (length (cond t [] (b ∷ []))) 1 ≡ t
    by-test true = refl
    by-test false = refl
shorter (b ∷ c ∷ bs) e = by-test (eqb b space) e (λ q. shorter (c ∷ bs) q)
  where
    by-test :
        (t : Bool) →
        cond t (not (all_spaces (c ∷ bs))) (byte_after_space (c ∷ bs)) ≡ false →
        (byte_after_space (c ∷ bs) ≡ false → ltb (length (place_label (c ∷ bs))) (length (c ∷ bs)) ≡ ends_in_space (c ∷ bs)) →
        ltb (length (cond t [] (b ∷ place_label (c ∷ bs)))) (suc (length (c ∷ bs))) ≡ ends_in_space (c ∷ bs)
    by-test true q ih = lt-ltb 0 (suc (length (c ∷ bs))) (omega arith) ∙ sym (spaces-end c bs (not-false (all_spaces (c ∷ bs)) q))
    by-test false q ih = next_ltb (length (place_label (c ∷ bs))) (length (c ∷ bs)) ∙ ih q

-- so a place of 24 bytes holds a label exactly where it is not bad
place_tested : (p : List ℕ) → length p ≡ 24 → is_place p ≡ not (bad_label_place p)
unfolding is_place filled
place_tested p long = rw (← long, label_and_spaces p) (by-test (byte_after_space p) refl)
  where
    few : (n : ℕ) → leb n 23 ≡ ltb n (length p)
    few n = same_test _ _ (λ e. lt-ltb n (length p) (omega (arith, leb-true n 23 e))) (λ e. le-leb n 23 (omega (arith, ltb-true n (length p) e)))

    never : (a b c : Bool) → (a && (b && false)) ≡ not (c || true)
    never true true true = refl
    never true true false = refl
    never true false true = refl
    never true false false = refl
    never false b true = refl
    never false b false = refl

    both : (a b : Bool) → (not a && (b && true)) ≡ not (a || not b)
    both true b = refl
    both false true = refl
    both false false = refl

    by-test :
        (t : Bool) →
        byte_after_space p ≡ t →
        (leb 1 (length (place_label p)) && (leb (length (place_label p)) 23 && not t)) ≡ not (all_spaces p || (t || not (ends_in_space p)))
    by-test true q = never (leb 1 (length (place_label p))) (leb (length (place_label p)) 23) (all_spaces p)
    by-test false q = rw (some_byte p q, few (length (place_label p)), shorter p q) (both (all_spaces p) (ends_in_space p))

-- ---- the access bytes

-- a byte allowed where one letter is: it, small or capital, or a dash
own_is :
    (bit small capital b : ℕ) →
    (allowed_byte bit true b ≡ true → Is b small capital ⊎ (b ≡ dash)) →
    allowed_byte bit true small ≡ true →
    allowed_byte bit true capital ≡ true →
    allowed_byte bit true dash ≡ true →
    allowed_byte bit true b ≡ one_of (small ∷ capital ∷ dash ∷ []) b
own_is bit small capital b own x y z =
    same_test _ _ (λ e. one-is.1 (⊎_elim (⊎_elim inl (λ q. inr (inl q))) (λ q. inr (inr (inl q))) (own e)))
    (λ e. ⊎_elim (λ q. rw q x) (⊎_elim (λ q. rw q y) (⊎_elim (λ q. rw q z) (λ q. absurd (no q)))) (one-is.0 e))
  where
    one-is : (one_of (small ∷ capital ∷ dash ∷ []) b ≡ true) ↔ ((b ≡ small) ⊎ ((b ≡ capital) ⊎ ((b ≡ dash) ⊎ (false ≡ true))))
    one-is = or_is (eqb b small) _ (eqb_is b small) (or_is (eqb b capital) _ (eqb_is b capital) (or_is (eqb b dash) false (eqb_is b dash) (λ q. q, λ q. q)))

is_r : (b : ℕ) → allowed_byte 32 true b ≡ one_of (ascii "rR-") b
unfolding all allowed_byte bit_of
is_r b = own_is 32 114 82 b (own-byte (letter_at 0) b refl) refl refl refl

is_w : (b : ℕ) → allowed_byte 16 true b ≡ one_of (ascii "wW-") b
unfolding all allowed_byte bit_of
is_w b = own_is 16 119 87 b (own-byte (letter_at 1) b refl) refl refl refl

is_x : (b : ℕ) → allowed_byte 8 true b ≡ one_of (ascii "xX-") b
unfolding all allowed_byte bit_of
is_x b = own_is 8 120 88 b (own-byte (letter_at 2) b refl) refl refl refl

is_a : (b : ℕ) → allowed_byte 4 true b ≡ one_of (ascii "aA-") b
unfolding all allowed_byte bit_of
is_a b = own_is 4 97 65 b (own-byte (letter_at 3) b refl) refl refl refl

is_t : (b : ℕ) → allowed_byte 2 true b ≡ one_of (ascii "tT-") b
unfolding all allowed_byte bit_of
is_t b = own_is 2 116 84 b (own-byte (letter_at 4) b refl) refl refl refl

access_tested : (access : List ℕ) → length access ≡ 5 → in_own_places five_letters access ≡ not (bad_access_bytes access)
unfolding in_own_places
access_tested [] n = absurd (omega (arith, n))
access_tested (a ∷ []) n = absurd (omega (arith, n))
access_tested (a ∷ b ∷ []) n = absurd (omega (arith, n))
access_tested (a ∷ b ∷ c ∷ []) n = absurd (omega (arith, n))
access_tested (a ∷ b ∷ c ∷ d ∷ []) n = absurd (omega (arith, n))
access_tested (a ∷ b ∷ c ∷ d ∷ e ∷ x ∷ more) n = absurd (omega (arith, n))
access_tested (a ∷ b ∷ c ∷ d ∷ e ∷ []) n =
    rw (is_r a, is_w b, is_x c, is_a d, is_t e)
    (by_tests (one_of (ascii "rR-") a) (one_of (ascii "wW-") b) (one_of (ascii "xX-") c) (one_of (ascii "aA-") d) (one_of (ascii "tT-") e))
  where
    by_tests : (p q r s t : Bool) → (p && (q && (r && (s && (t && true))))) ≡ not (not p || (not q || (not r || (not s || not t))))
    by_tests false q r s t = refl
    by_tests true false r s t = refl
    by_tests true true false s t = refl
    by_tests true true true false t = refl
    by_tests true true true true false = refl
    by_tests true true true true true = refl

-- ---- a record to a line

abbrev answered-by : List ℕ → output.Text → First Refusal
answered-by out x = error_of (text_answer x out)

-- of its labels and access bytes
abbrev part_faults : List ℕ → List ℕ → List ℕ → List ℕ → List (Fault Refusal)
part_faults s o access out =
    bad_label when bad_labels s o
    ∷ bad_access when bad_access_bytes access
    ∷ same_labels when same_bytes s o
    ∷ output_too_short when ltb (length out) (length (text_of s o (modes_text (modes_of access))))
    ∷ []

part-first :
    (s o access out : List ℕ) → length access ≡ 5 → answered-by out (as_line (said_by s o access)) ≡ first_fault (part_faults s o access out)
part-first s o access out five = rw (access_tested access five) (by_tests (well_formed s) (well_formed o) (bad_access_bytes access) refl)
  where
    given : List ℕ
    given = text_of s o (modes_text (modes_of access))

    -- the modes of bytes in their own places are such as a table may store
    stored : bad_access_bytes access ≡ false → stored_modes (modes_of access) ≡ modes_of access
    stored e = known-stored (modes_of access) (own-modes access (access_tested access five ∙ ap not e))

    by-same :
        (b : Bool) →
        answered-by out (as_line (cond b (said.refused same_labels) (said.rule s o (modes_of access)))) ≡ cond b (by same_labels) (cond (ltb (length out) (length given)) (by output_too_short) none)
    by-same true = refl
    by-same false = text-first given out

    by_tests :
        (a b c : Bool) →
        bad_access_bytes access ≡ c →
        answered-by out (as_line (cond (a && b) (rule_with s o (cond (not c) (Some (modes_of access)) None)) (said.refused bad_label)))
        ≡ cond (not a || not b) (by bad_label) (cond c (by bad_access) (cond (same_bytes s o) (by same_labels) (cond (ltb (length out) (length given)) (by output_too_short) none)))
    by_tests false b c e = refl
    by_tests true false c e = refl
    by_tests true true true e = refl
    by_tests true true false e = rw (stored e) (by-same (same_bytes s o))

record_first : (r out : List ℕ) → answered-by out (line_from r) ≡ first_fault (record_faults r out)
unfolding line_from record_says is_record
record_first r out = by_size (eqb (length r) 53) refl
  where
    s : List ℕ
    s = place_label (subject_place r)

    o : List ℕ
    o = place_label (object_place r)

    by-places :
        (p q : Bool) →
        length (access_bytes r) ≡ 5 →
        answered-by out (as_line (cond (not p && not q) (said_by s o (access_bytes r)) (said.refused bad_record)))
        ≡ cond (p || q) (by bad_record) (first_fault (part_faults s o (access_bytes r) out))
    by-places true q five = refl
    by-places false true five = refl
    by-places false false five = part-first s o (access_bytes r) out five

    by_size :
        (b : Bool) →
        eqb (length r) 53 ≡ b →
        answered-by out (as_line (cond (b && (is_place (subject_place r) && is_place (object_place r))) (said_by s o (access_bytes r)) (said.refused bad_record)))
        ≡ cond (not b || (bad_label_place (subject_place r) || bad_label_place (object_place r))) (by bad_record) (first_fault (part_faults s o (access_bytes r) out))
    by_size false e = refl
    by_size true e =
        let long : length r ≡ 53 = eqb-true (length r) 53 e in
        let first : length (subject_place r) ≡ 24 = length-take-le 24 r (omega arith) in
        let second : length (object_place r) ≡ 24 = length-take-le 24 (drop 24 r) (omega (arith, length-drop 24 r)) in
        rw (place_tested (subject_place r) first, place_tested (object_place r) second)
        (by-places (bad_label_place (subject_place r)) (bad_label_place (object_place r)) (omega (arith, length-drop 48 r)))

pub record_faults_lem : (r out : List ℕ) → Refuses (text_answer (line_from r) out) Err (record_faults r out)
record_faults_lem r out = of_result _ (record_faults r out) (record_first r out)

-- ---- a line to a record

record_long : (s o : List ℕ) (m : ℕ) → length s ≤ 23 → length o ≤ 23 → length (record_of s o m) ≡ 53
unfolding record_of
record_long s o m h i = omega (arith, length-append (filled s) (filled o ++ in_places five_letters m), length-append (filled o) (in_places five_letters m), filled-length s h, filled-length o i)

module _ (out : List ℕ) where
  abbrev sized : First Refusal
  sized = cond (ltb (length out) 53) (by output_too_short) none

  fits_first : (s o : List ℕ) (m : ℕ) → answered-by out (if_it_fits s o m) ≡ cond (over_record_label s || over_record_label o) (by not_in_a_record) sized
  unfolding fits_a_record
  fits_first s o m = by_tests (leb (length s) 23) refl (leb (length o) 23) refl ∙ rw (not_leb (length s) 23, not_leb (length o) 23)
    where
      by_tests :
          (p : Bool) →
          leb (length s) 23 ≡ p →
          (q : Bool) →
          leb (length o) 23 ≡ q →
          answered-by out (cond (p && q) (output.text (record_of s o m)) (output.refused not_in_a_record)) ≡ cond (not p || not q) (by not_in_a_record) sized
      by_tests false e q f = refl
      by_tests true e false f = refl
      by_tests true e true f = text-first (record_of s o m) out ∙ rw (record_long s o m (leb-true (length s) 23 e) (leb-true (length o) 23 f))

  rule-first :
      (place : ℕ) (s o access : List ℕ) →
      answered-by out (of_rule if_it_fits (rule_by place s o access))
      ≡ cond (bad_labels s o) (by (bad_label_at place))
      (cond (bad_access_field line_letters true access) (by bad_access)
      (cond (same_bytes s o) (by same_labels) (cond (over_record_label s || over_record_label o) (by not_in_a_record) sized)))
  unfolding rule_by read_modes
  rule-first place s o access = by_tests (well_formed s) (well_formed o) (all (allowed_byte line_letters true) access)
    where
      rest : First Refusal
      rest = cond (over_record_label s || over_record_label o) (by not_in_a_record) sized

      by-same : (b : Bool) → answered-by out (of_rule if_it_fits (cond b (said.refused same_labels) (said.rule s o (stored_modes (modes_of access))))) ≡ cond b (by same_labels) rest
      by-same true = refl
      by-same false = fits_first s o (stored_modes (modes_of access))

      by_tests :
          (a b c : Bool) →
          answered-by out (of_rule if_it_fits (cond (a && b) (rule_with s o (cond c (Some (modes_of access)) None)) (said.refused (bad_label_at place))))
          ≡ cond (not a || not b) (by (bad_label_at place)) (cond (not c) (by bad_access) (cond (same_bytes s o) (by same_labels) rest))
      by_tests false b c = refl
      by_tests true false c = refl
      by_tests true true false = refl
      by_tests true true true = by-same (same_bytes s o)

  fields-first : (place : ℕ) (fs : List (List ℕ)) → answered-by out (of_rule if_it_fits (rule_fields place fs)) ≡ first_fault (to_record_field_faults place fs out)
  fields-first place [] = refl
  fields-first place (s ∷ []) = refl
  fields-first place (s ∷ o ∷ []) = refl
  fields-first place (s ∷ o ∷ x ∷ []) = rule-first place s o x
  fields-first place (s ∷ o ∷ x ∷ y ∷ more) = rw (ne_eqb (length (s ∷ o ∷ x ∷ y ∷ more)) 3 (λ q. omega arith))

  line_first : (line : List ℕ) → answered-by out (record_from line) ≡ first_fault (line_to_record_faults line out)
  unfolding record_from rule_of
  line_first line = by_length (ltb 600 (length (without_newline line)))
    where
      by_length :
          (b : Bool) →
          answered-by out (of_rule if_it_fits (cond b (said.refused too_long) (rule_fields (bad_byte_in (without_newline line)) (fields (without_newline line)))))
          ≡ cond b (by too_long) (first_fault (to_record_field_faults (bad_byte_in (without_newline line)) (fields (without_newline line)) out))
      by_length true = refl
      by_length false = fields-first (bad_byte_in (without_newline line)) (fields (without_newline line))

pub line_faults_lem : (line out : List ℕ) → Refuses (text_answer (record_from line) out) Err (line_to_record_faults line out)
line_faults_lem line out = of_result _ (line_to_record_faults line out) (line_first out line)

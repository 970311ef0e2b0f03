-- Old fixed records turned into rule lines and back: what comes back. Assumes nothing.
use mathlib.Core.Path.{◌≡◌, refl, sym, ap, ◌∙◌, subst}
use mathlib.Core.Bool.{Bool, true, false, cond, not, ◌&&◌, ◌||◌}
use mathlib.Core.Logic.{◌⊎◌, inl, inr, ⊎_elim}
use mathlib.Core.List.{List, [], ◌∷◌, ◌++◌, map, append_assoc, append-nil}
use Prim.Native.Nat.{ℕ, zero, suc, ◌-◌, ◌≤◌}
use native.Mathlib.Omega.{arith}
use lib.Dec.{eqb, leb}
use borrow.Author.Tests.{eqb-true, leb-true, le-leb, not-true}
use lib.ListN.{length, take, drop, length-append, length-drop}
use lib.Seq.{take_at, drop_at, drop-drop, get_or_at, take-add}
use Rattle.search.specs.Search.{all, entries}
use Rattle.search.specs.Bytes.{same_bytes}
use Rattle.search.proofs.Laws.{no, and_both, same_refl, same-equal, or_is, eqb_is}
use Rattle.refusals.specs.Refusals.{bad_label, same_labels, bad_record, not_in_a_record}
use Rattle.alphabet.specs.Alphabet.{space, newline, dash, is_newline, is_blank, label_byte, well_formed, fields}
use Rattle.alphabet.proofs.Laws.{formed-is}
use Rattle.text_lines.specs.TextLines.{lines_from}
use Rattle.modes.specs.Modes.{letters, bring_up, bit_among, bit_of, allowed_byte, modes_of, read_modes, has, modes_text, known_modes, stored_modes, Is}
use Rattle.modes.specs.declared.Letter.{Letter}
use Rattle.std.proofs.Common.{Some, None, Ok}
use Rattle.modes.proofs.Laws.{below, known_is, known-stored, text-long}
use Rattle.lines.specs.Lines as said
use Rattle.lines.specs.Lines.{Said, rule, rule_by, rule_with, rule_of}
use Rattle.lines.proofs.Laws.{Taken, Sound, rule-sound}
use Rattle.output.specs.Output.{Text, text, refused, text_answer, text_out}
use Rattle.output.proofs.Laws.{length-answered}
use Rattle.rule_text.specs.RuleText.{line_of, text_of}
use Rattle.rule_text.proofs.Laws.{no_newlines, label_word, text-plain, text_says_lem}
use Rattle.fixed_load.specs.Records.{record_label, label_place, subject_place, object_place, access_bytes, spaces, filled, place_label, is_place, five_letters, in_own_places, is_record, said_by, record_says, of_rule, as_line, line_from, without_newline, in_places, record_of, fits_a_record, if_it_fits, record_from, lower_case, lowered, record_size, access_from, Parts, OneLine, listing_line, InForm, BackByCalls, OldRecords}
use Rattle.fixed_load.proofs.Laws.{filled-length, Place, place_is, own-modes}

-- ---- the access bytes of a record

-- among the letters of the table a letter's bit is its own, and 0 does not hold it
abbrev own_bit : Letter → Letter → Bool
own_bit l x = not (has x.bit l.bit) || eqb x.letter l.letter

abbrev alone : Letter → Bool
alone l = not (has 0 l.bit) && all (own_bit l) (bring_up ∷ letters)

five_alone : all alone five_letters ≡ true
unfolding all
five_alone = refl

-- so a byte whose bit holds a letter's is that letter, small or capital; and a byte allowed where only that letter is may be a dash too
among-is : (l : Letter) (b : ℕ) (ls : List Letter) → not (has 0 l.bit) ≡ true → all (own_bit l) ls ≡ true → has (bit_among ls b) l.bit ≡ true → Is b l.letter (l.letter - 32)
unfolding all
among-is l b [] z e h = absurd (no (sym (not-true (has 0 l.bit) z) ∙ h))
among-is l b (x ∷ xs) z e h =
    let own = and_both (own_bit l x) (all (own_bit l) xs) e in
    by-test (eqb b x.letter || eqb b (x.letter - 32)) refl own.0 (among-is l b xs z own.1) h
  where
    same-letter : (t : Bool) → t ≡ true → (not t || eqb x.letter l.letter) ≡ true → x.letter ≡ l.letter
    same-letter true i o = eqb-true x.letter l.letter o
    same-letter false i o = absurd (no i)

    by-test :
        (t : Bool) →
        (eqb b x.letter || eqb b (x.letter - 32)) ≡ t →
        own_bit l x ≡ true →
        (has (bit_among xs b) l.bit ≡ true → Is b l.letter (l.letter - 32)) →
        has (cond t x.bit (bit_among xs b)) l.bit ≡ true →
        Is b l.letter (l.letter - 32)
    by-test true q o ih i =
        subst (λ (k : ℕ). Is b k (k - 32)) (same-letter (has x.bit l.bit) i o)
        ((or_is (eqb b x.letter) (eqb b (x.letter - 32)) (eqb_is b x.letter) (eqb_is b (x.letter - 32))).0 q)
    by-test false q o ih i = ih i

pub own-byte : (l : Letter) (b : ℕ) → alone l ≡ true → allowed_byte l.bit true b ≡ true → Is b l.letter (l.letter - 32) ⊎ (b ≡ dash)
unfolding allowed_byte bit_of
own-byte l b e = by-test (has (bit_of b) l.bit) refl
  where
    by-test : (t : Bool) → has (bit_of b) l.bit ≡ t → (t || eqb b dash) ≡ true → Is b l.letter (l.letter - 32) ⊎ (b ≡ dash)
    by-test true h q = let s = and_both (not (has 0 l.bit)) (all (own_bit l) (bring_up ∷ letters)) e in inl (among-is l b (bring_up ∷ letters) s.0 s.1 h)
    by-test false h q = inr (eqb-true b dash q)

-- whether a test passes at every way to fill the places of these letters; where it does, it passes at bytes that are in their own places
every_way_lem : List Letter → (List ℕ → Bool) → Bool
every_way_lem [] p = p []
every_way_lem (l ∷ ls) p = every_way_lem ls (λ bs. p (l.letter ∷ bs)) && (every_way_lem ls (λ bs. p ((l.letter - 32) ∷ bs)) && every_way_lem ls (λ bs. p (dash ∷ bs)))

every_way : (ls : List Letter) (p : List ℕ → Bool) (bs : List ℕ) → every_way_lem ls p ≡ true → all alone ls ≡ true → length bs ≡ length ls → in_own_places ls bs ≡ true → p bs ≡ true
unfolding every_way_lem all in_own_places
every_way [] p [] e s n own = e
every_way [] p (b ∷ bs) e s n own = absurd (no own)
every_way (l ∷ ls) p [] e s n own = absurd (omega (arith, n))
every_way (l ∷ ls) p (b ∷ bs) e s n own =
    let m : length bs ≡ length ls = omega (arith, n) in
    let h = and_both (alone l) (all alone ls) s in
    let o = and_both (allowed_byte l.bit true b) (in_own_places ls bs) own in
    let w = and_both (every_way_lem ls (λ cs. p (l.letter ∷ cs))) (every_way_lem ls (λ cs. p ((l.letter - 32) ∷ cs)) && every_way_lem ls (λ cs. p (dash ∷ cs))) e in
    let v = and_both (every_way_lem ls (λ cs. p ((l.letter - 32) ∷ cs))) (every_way_lem ls (λ cs. p (dash ∷ cs))) w.1 in
    let at : (x : ℕ) → every_way_lem ls (λ cs. p (x ∷ cs)) ≡ true → b ≡ x → p (b ∷ bs) ≡ true = λ x i q. rw q (every_way ls (λ cs. p (x ∷ cs)) bs i h.1 m o.1) in
    ⊎_elim (⊎_elim (at l.letter w.0) (at (l.letter - 32) v.0)) (at dash v.1) (own-byte l b h.0 o.0)

-- the modes of such bytes, as access bytes again, are those bytes in lower case: computed at all 243 ways
comes_back : List ℕ → Bool
comes_back a = same_bytes (in_places five_letters (modes_of a)) (map lower_case a)

all_come_back : every_way_lem five_letters comes_back ≡ true
unfolding every_way_lem comes_back same_bytes modes_of bit_of modes_text
all_come_back = refl

access_again : (a : List ℕ) → length a ≡ 5 → in_own_places five_letters a ≡ true → in_places five_letters (modes_of a) ≡ map lower_case a
unfolding comes_back
access_again a n own = same-equal _ _ (every_way five_letters comes_back a all_come_back five_alone n own)

-- modes that a table may store, as access bytes, are in their own places and are those modes again: computed at all 64
is_again : ℕ → Bool
is_again m = not (known_modes m) || (in_own_places five_letters (in_places five_letters m) && eqb (modes_of (in_places five_letters m)) m)

all_again : all is_again (entries (λ (k : ℕ). k) 64) ≡ true
unfolding all entries is_again in_own_places allowed_byte modes_of bit_of known_modes
all_again = refl

modes_again : (m : ℕ) → known_modes m ≡ true → (in_own_places five_letters (in_places five_letters m) ≡ true) × (modes_of (in_places five_letters m) ≡ m)
unfolding is_again
modes_again m h =
    let e = below is_again 64 all_again m ((known_is m).0 h).0 in
    let g = rw h at e in
    let i = and_both (in_own_places five_letters (in_places five_letters m)) (eqb (modes_of (in_places five_letters m)) m) g in
    (i.0, eqb-true _ _ i.1)

-- ---- the place of a label

-- a label without a blank is what its place holds
label-spaces : (n : ℕ) → place_label (spaces n) ≡ []
unfolding place_label
label-spaces zero = refl
label-spaces (suc n) = refl

label-ends : (l : List ℕ) (n : ℕ) → all (λ (b : ℕ). not (is_blank b)) l ≡ true → place_label (l ++ spaces n) ≡ l
unfolding place_label all is_blank
label-ends [] n e = label-spaces n
label-ends (b ∷ bs) n e =
    let h = and_both (not (is_blank b)) (all (λ (x : ℕ). not (is_blank x)) bs) e in
    rw (by-test (eqb b space) h.0, label-ends bs n h.1)
  where
    by-test : (t : Bool) → not (t || eqb b 9) ≡ true → t ≡ false
    by-test true q = absurd (no q)
    by-test false q = refl

place-label : (l : List ℕ) → well_formed l ≡ true → place_label (filled l) ≡ l
unfolding filled
place-label l e = label-ends l (label_place - length l) (label_word l e).unblank

filled-place : (l : List ℕ) → well_formed l ≡ true → length l ≤ record_label → is_place (filled l) ≡ true
unfolding is_place
filled-place l e h = rw (place-label l e, le-leb 1 (length l) (formed-is l e).0, le-leb (length l) record_label h) (same_refl (filled l))

-- ---- a closing newline

one_newline : (l : List ℕ) → without_newline (l ++ (newline ∷ [])) ≡ l
unfolding without_newline
one_newline l =
    let n : length (l ++ (newline ∷ [])) - 1 ≡ length l = simp length-append (omega arith) in
    rw (n, get_or_at l newline [] 0 (length l) refl) (take_at l (newline ∷ []) (length l) refl)

no_newline : (l : List ℕ) (b : ℕ) → is_newline b ≡ false → without_newline (l ++ (b ∷ [])) ≡ l ++ (b ∷ [])
unfolding without_newline
no_newline l b e =
    let n : length (l ++ (b ∷ [])) - 1 ≡ length l = simp length-append (omega arith) in
    rw (n, get_or_at l b [] 0 (length l) refl, e)

-- a text that is bytes without a newline, and then one, is one line
lines-one : (kept l : List ℕ) → all no_newlines l ≡ true → lines_from kept (l ++ (newline ∷ [])) ≡ (kept ++ l) ∷ []
unfolding all
lines-one kept [] e = ap (λ (x : List ℕ). x ∷ []) (sym (append-nil kept))
lines-one kept (b ∷ bs) e =
    let h = and_both (no_newlines b) (all no_newlines bs) e in
    rw (not-true (is_newline b) h.0) (lines-one (kept ++ (b ∷ [])) bs h.1 ∙ ap (λ (x : List ℕ). x ∷ []) (append_assoc kept (b ∷ []) bs))

-- ---- an accepted record

abbrev subject_in : List ℕ → List ℕ
subject_in r = place_label (subject_place r)

abbrev object_in : List ℕ → List ℕ
object_in r = place_label (object_place r)

abbrev modes_in : List ℕ → ℕ
modes_in r = modes_of (access_bytes r)

-- two labels and access bytes of which a line is made
record Made (s o a t : List ℕ) : Type 0 where
  taken : Taken s o
  own : in_own_places five_letters a ≡ true
  says : said_by s o a ≡ rule s o (modes_of a)
  made : t ≡ text_of s o (modes_text (modes_of a))

made_of : (s o a t : List ℕ) → as_line (said_by s o a) ≡ text t → Made s o a t
made_of s o a t = by-test (well_formed s) refl (well_formed o) refl (in_own_places five_letters a) refl
  where
    by-test :
        (x : Bool) →
        well_formed s ≡ x →
        (y : Bool) →
        well_formed o ≡ y →
        (z : Bool) →
        in_own_places five_letters a ≡ z →
        as_line (cond (x && y) (rule_with s o (cond z (Some (modes_of a)) None)) (said.refused bad_label)) ≡ text t →
        Made s o a t
    by-test true p true q true i e = by-same (same_bytes s o) refl e
      where
        stored : stored_modes (modes_of a) ≡ modes_of a
        stored = known-stored (modes_of a) (own-modes a i)

        by-same : (w : Bool) → same_bytes s o ≡ w → as_line (cond w (said.refused same_labels) (rule s o (stored_modes (modes_of a)))) ≡ text t → Made s o a t
        by-same true k e = let z : ◌≡◌ {A = ℕ} 0 1 = cc in absurd (omega arith)
        by-same false k e =
            let z : text_of s o (modes_text (stored_modes (modes_of a))) ≡ t = cc in
            record { taken = record { subject = p; object = q; apart = k }; own = i; says = rw (p, q, i, k, stored); made = sym z ∙ rw stored }
    by-test true p true q false i e = let z : ◌≡◌ {A = ℕ} 0 1 = cc in absurd (omega arith)
    by-test true p false q z i e = let z : ◌≡◌ {A = ℕ} 0 1 = cc in absurd (omega arith)
    by-test false p y q z i e = let z : ◌≡◌ {A = ℕ} 0 1 = cc in absurd (omega arith)

-- and the record that holds them
record Accepted (r t : List ℕ) : Type 0 where
  whole : is_record r ≡ true
  made : Made (subject_in r) (object_in r) (access_bytes r) t
  says : record_says r ≡ rule (subject_in r) (object_in r) (modes_in r)

accepted : (r t : List ℕ) → line_from r ≡ text t → Accepted r t
unfolding line_from record_says
accepted r t e = by-test (is_record r) refl e
  where
    by-test : (x : Bool) → is_record r ≡ x → as_line (cond x (said_by (subject_in r) (object_in r) (access_bytes r)) (said.refused bad_record)) ≡ text t → Accepted r t
    by-test true q e = let m = made_of (subject_in r) (object_in r) (access_bytes r) t e in record { whole = q; made = m; says = rw q m.says }
    by-test false q e = let z : ◌≡◌ {A = ℕ} 0 1 = cc in absurd (omega arith)

-- it has 53 bytes, and its places are its labels, filled
record Whole (r : List ℕ) : Type 0 where
  long : length r ≡ record_size
  subject : Place (subject_place r)
  object : Place (object_place r)

whole_is : (r : List ℕ) → is_record r ≡ true → Whole r
unfolding is_record
whole_is r e =
    let h = and_both (eqb (length r) record_size) (is_place (subject_place r) && is_place (object_place r)) e in
    let i = and_both (is_place (subject_place r)) (is_place (object_place r)) h.1 in
    record { long = eqb-true (length r) record_size h.0; subject = place_is (subject_place r) i.0; object = place_is (object_place r) i.1 }

-- its line: one, at most 54 bytes long, which says the rule
module _ (r t : List ℕ) (e : line_from r ≡ text t) where
  this : Accepted r t
  this = accepted r t e

  whole : Whole r
  whole = whole_is r this.whole

  known : known_modes (modes_in r) ≡ true
  known = own-modes (access_bytes r) this.made.own

  again : in_places five_letters (modes_in r) ≡ map lower_case (access_bytes r)
  again = access_again (access_bytes r) (omega (arith, length-drop access_from r, whole.long)) this.made.own

  line : List ℕ
  line = line_of (subject_in r) (object_in r) (modes_text (modes_in r))

  ended : t ≡ line ++ (newline ∷ [])
  unfolding line text_of
  ended = this.made.made

  one_line : OneLine t (record_says r)
  unfolding line
  one_line =
      record {
        line = line;
        one = rw ended (lines-one [] line (text-plain (subject_in r) (object_in r) (modes_in r) this.made.taken known));
        ended = ended;
        rule = text_says_lem (subject_in r) (object_in r) (modes_in r) this.made.taken known ∙ sym this.says;
      }

  line_bytes : length t ≤ 54
  unfolding line
  line_bytes = rw ended (simp length-append (omega (arith, whole.subject.short, whole.object.short, text-long (modes_in r))))

  -- and the record of that rule: the same in lower case
  fits : fits_a_record (subject_in r) (object_in r) ≡ true
  unfolding fits_a_record
  fits = rw (le-leb (length (subject_in r)) record_label whole.subject.short, le-leb (length (object_in r)) record_label whole.object.short)

  lower_again : record_of (subject_in r) (object_in r) (modes_in r) ≡ lowered r
  unfolding record_of
  lower_again =
      rw (← whole.subject.is, ← whole.object.is, again)
      (sym (append_assoc (subject_place r) (object_place r) (map lower_case (access_bytes r))) ∙ ap (λ (x : List ℕ). x ++ map lower_case (access_bytes r)) (sym (take-add label_place label_place r)))

  record_and_back : record_from t ≡ text (lowered r)
  unfolding record_from line
  record_and_back =
      ap (λ (x : List ℕ). of_rule if_it_fits (rule_of (without_newline x))) ended
      ∙ ap (λ (x : List ℕ). of_rule if_it_fits (rule_of x)) (one_newline line)
      ∙ ap (of_rule if_it_fits) (text_says_lem (subject_in r) (object_in r) (modes_in r) this.made.taken known)
      ∙ rw fits (ap text lower_again)

-- what it says is the rule whose record it is, in lower case
says_record : (r s o : List ℕ) (m : ℕ) → record_says r ≡ said.rule s o m → lowered r ≡ record_of s o m
unfolding line_from
says_record r s o m e =
    let q : line_from r ≡ text (text_of s o (modes_text m)) = ap as_line e in
    let same : said.rule s o m ≡ rule (subject_in r) (object_in r) (modes_in r) = sym e ∙ (accepted r (text_of s o (modes_text m)) q).says in
    let a : s ≡ subject_in r = cc in
    let b : o ≡ object_in r = cc in
    let c : m ≡ modes_in r = cc in
    rw (a, b, c) (sym (lower_again r (text_of s o (modes_text m)) q))

-- ---- a rule's record

-- of a rule that fits: 53 bytes, which say the rule
module _ (s o : List ℕ) (m : ℕ) (taken : Taken s o) (known : known_modes m ≡ true) (fit : fits_a_record s o ≡ true) where
  fit_is : (length s ≤ record_label) × (length o ≤ record_label)
  unfolding fits_a_record
  fit_is =
      let h = and_both (leb (length s) record_label) (leb (length o) record_label) fit in
      (leb-true (length s) record_label h.0, leb-true (length o) record_label h.1)

  long-subject : length (filled s) ≡ label_place
  long-subject = filled-length s fit_is.0

  long-object : length (filled o) ≡ label_place
  long-object = filled-length o fit_is.1

  record_long : length (record_of s o m) ≡ record_size
  unfolding record_of
  record_long = omega (arith, length-append (filled s) (filled o ++ in_places five_letters m), length-append (filled o) (in_places five_letters m), long-subject, long-object)

  -- its parts, and so what it says
  subject-part : subject_place (record_of s o m) ≡ filled s
  unfolding record_of
  subject-part = take_at (filled s) _ label_place long-subject

  behind : drop label_place (record_of s o m) ≡ filled o ++ in_places five_letters m
  unfolding record_of
  behind = drop_at (filled s) _ label_place long-subject

  object-part : object_place (record_of s o m) ≡ filled o
  object-part = ap (take label_place) behind ∙ take_at (filled o) _ label_place long-object

  access-part : access_bytes (record_of s o m) ≡ in_places five_letters m
  access-part = sym (drop-drop label_place label_place (record_of s o m)) ∙ ap (drop label_place) behind ∙ drop_at (filled o) _ label_place long-object

  whole_again : is_record (record_of s o m) ≡ true
  unfolding is_record
  whole_again = rw (record_long, subject-part, object-part, filled-place s taken.subject fit_is.0, filled-place o taken.object fit_is.1)

  says_again : record_says (record_of s o m) ≡ rule s o m
  unfolding record_says
  says_again =
      let a = modes_again m known in
      rw (whole_again, subject-part, object-part, access-part, place-label s taken.subject, place-label o taken.object, taken.subject, taken.object, a.0, a.1, taken.apart, known-stored m known)

-- ---- an accepted line

-- its record has 53 bytes, and says what the line says
record Fitted (x : Said) (t : List ℕ) : Type 0 where
  long : length t ≡ record_size
  says : record_says t ≡ x

fitted : (x : Said) (t : List ℕ) → Sound x → of_rule if_it_fits x ≡ text t → Fitted x t
fitted said.skipped t h e = let z : ◌≡◌ {A = ℕ} 0 1 = cc in absurd (omega arith)
fitted (said.refused n) t h e = let z : ◌≡◌ {A = ℕ} 0 1 = cc in absurd (omega arith)
fitted (said.change s o a d) t h e = let z : ◌≡◌ {A = ℕ} 0 1 = cc in absurd (omega arith)
fitted (said.rule s o m) t h e = by-test (fits_a_record s o) refl e
  where
    by-test : (b : Bool) → fits_a_record s o ≡ b → cond b (text (record_of s o m)) (refused not_in_a_record) ≡ text t → Fitted (rule s o m) t
    by-test true q e = let z : record_of s o m ≡ t = cc in rw (← z) record { long = record_long s o m h.0 h.1 q; says = says_again s o m h.0 h.1 q }
    by-test false q e = let z : ◌≡◌ {A = ℕ} 0 1 = cc in absurd (omega arith)

line_fitted : (l t : List ℕ) → record_from l ≡ text t → Fitted (rule_of (without_newline l)) t
unfolding record_from
line_fitted l t e = fitted (rule_of (without_newline l)) t (rule-sound (without_newline l)) e

-- a text made of what is said is made of a rule
in_form :
    (made : List ℕ → List ℕ → ℕ → Text) (form : List ℕ → List ℕ → ℕ → List ℕ) (x : Said) (t : List ℕ) →
    ((s o : List ℕ) (m : ℕ) → made s o m ≡ text t → text t ≡ text (form s o m)) →
    of_rule made x ≡ text t →
    InForm form x (text t)
in_form made form said.skipped t f e = let z : ◌≡◌ {A = ℕ} 0 1 = cc in absurd (omega arith)
in_form made form (said.refused n) t f e = let z : ◌≡◌ {A = ℕ} 0 1 = cc in absurd (omega arith)
in_form made form (said.change s o a d) t f e = let z : ◌≡◌ {A = ℕ} 0 1 = cc in absurd (omega arith)
in_form made form (said.rule s o m) t f e = record { subject = s; object = o; modes = m; rule = refl; written = f s o m e }

line_form : (r t : List ℕ) → line_from r ≡ text t → InForm listing_line (record_says r) (text t)
unfolding line_from
line_form r t e = in_form (λ s o m. text (listing_line s o m)) listing_line (record_says r) t (λ s o m q. sym q) e

record_form : (l t : List ℕ) → record_from l ≡ text t → InForm record_of (rule_of (without_newline l)) (text t)
unfolding record_from
record_form l t e = in_form if_it_fits record_of (rule_of (without_newline l)) t (λ s o m q. by-test s o m (fits_a_record s o) q) e
  where
    by-test : (s o : List ℕ) (m : ℕ) (b : Bool) → cond b (text (record_of s o m)) (refused not_in_a_record) ≡ text t → text t ≡ text (record_of s o m)
    by-test s o m true q = sym q
    by-test s o m false q = let z : ◌≡◌ {A = ℕ} 0 1 = cc in absurd (omega arith)

line_and_back : (l t : List ℕ) → record_from l ≡ text t → InForm listing_line (rule_of (without_newline l)) (line_from t)
unfolding line_from
line_and_back l t e =
    let f = record_form l t e in
    record { subject = f.subject; object = f.object; modes = f.modes; rule = f.rule; written = ap as_line ((line_fitted l t e).says ∙ f.rule) }

-- ---- the same by calls

back_by_calls : (r out back : List ℕ) (n : ℕ) → text_answer (line_from r) out ≡ Ok n → record_size ≤ length back → BackByCalls r out back n
back_by_calls r out back n e h =
    let w = length-answered.written (line_from r) out n e in
    let front : take n (text_out (line_from r) out) ≡ w.bytes = ap (take n) w.front ∙ take_at w.bytes (drop n out) n w.long in
    let made : record_from (take n (text_out (line_from r) out)) ≡ text (lowered r) = ap record_from front ∙ record_and_back r w.bytes w.is in
    let long : length (lowered r) ≡ record_size = (line_fitted w.bytes (lowered r) (record_and_back r w.bytes w.is)).long in
    let answered : text_answer (text (lowered r)) back ≡ Ok record_size = length-answered.enough (lowered r) back (omega arith) ∙ ap Ok long in
    let v = length-answered.written (text (lowered r)) back record_size answered in
    let same : v.bytes ≡ lowered r = cc in
    (ap (λ (x : Text). text_answer x back) made ∙ answered, ap (λ (x : Text). text_out x back) made ∙ v.front ∙ ap (λ (x : List ℕ). x ++ drop record_size back) same)

-- ---- what stands where in a record

parts : (s o a : List ℕ) → length s ≡ label_place → length o ≡ label_place → length a ≡ 5 → Parts (s ++ (o ++ a)) s o a
parts s o a h i j =
    let r = s ++ (o ++ a) in
    let behind : drop label_place r ≡ o ++ a = drop_at s (o ++ a) label_place h in
    let first : subject_place r ≡ s = take_at s (o ++ a) label_place h in
    let second : object_place r ≡ o = ap (take label_place) behind ∙ take_at o a label_place i in
    let third : access_bytes r ≡ a = sym (drop-drop label_place label_place r) ∙ ap (drop label_place) behind ∙ drop_at o a label_place i in
    let front : take access_from r ≡ s ++ o = take-add label_place label_place r ∙ ap (λ (x : List ℕ). x ++ object_place r) first ∙ ap (λ (x : List ℕ). s ++ x) second in
    record {
      subject = first;
      object = second;
      access = third;
      lower = ap (λ (x : List ℕ). x ++ map lower_case (access_bytes r)) front ∙ ap (λ (x : List ℕ). (s ++ o) ++ map lower_case x) third ∙ append_assoc s o (map lower_case a);
    }

-- ---- THE CLAIM

-- the examples are computed
pub old_records : OldRecords
unfolding line_from record_says is_record is_place place_label filled in_own_places record_from without_newline record_of fits_a_record same_bytes all well_formed label_byte is_blank fields allowed_byte bit_of modes_of read_modes modes_text rule_of rule_by text_of
old_records =
    record {
      parts = parts;
      letters = refl;
      says = says_record;
      line_form = line_form;
      record_form = record_form;
      record_and_back = record_and_back;
      by_calls = back_by_calls;
      line_and_back = line_and_back;
      loaded = one_line;
      record_bytes = λ l t e. (line_fitted l t e).long;
      line_bytes = line_bytes;
      one_newline = one_newline;
      no_newline = no_newline;
      no_byte = refl;
      another = (refl, refl);
      counted = (refl, refl);
      example = refl;
      example_back = refl;
      b_dropped = refl;
    }

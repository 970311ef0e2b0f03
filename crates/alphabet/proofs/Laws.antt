-- Laws of the definitions of specs/. Assumes nothing.
use mathlib.Core.Path.{◌≡◌, refl, sym, ap, ◌∙◌}
use mathlib.Core.Bool.{Bool, true, false, cond, not, ◌&&◌, ◌||◌, beq, and-false}
use mathlib.Core.List.{List, [], ◌∷◌}
use mathlib.Core.Logic.{◌↔◌, ⊎_elim}
use Prim.Native.Nat.{ℕ, zero, suc, ◌+◌, ◌-◌, ◌<◌, ◌≤◌, suc-le-suc}
use native.Mathlib.Numerals.{add-one}
use native.Mathlib.Omega.{arith}
use lib.Dec.{eqb, leb, ltb}
use lib.ListN.{length, take, drop, get_or, length-take, length-drop, drop_of_length-le}
use lib.Seq.{drop-cons, drop-drop, take_all, get_or-take}
use borrow.Author.Tests.{eqb-false, eq-eqb, ne_eqb, leb-true, le-leb, lt-leb, lt-ltb, le-ltb, ltb-true, ltb-false, not-true, not-false}
use Rattle.search.specs.Search.{first, all, those, later}
use Rattle.std.proofs.Common.{Option, Some, None}
use Rattle.search.proofs.Laws.{no, and_both, eqb_is, or_is, not_is, number_is, all-at, all-by, first-at, first-none, entries-length, entries_at}
use Rattle.alphabet.specs.Alphabet.{is_newline, is_blank, label_byte, class_by, class_of, LabelByte, Blank, ByteClass, ByteClasses, well_formed, LabelForm, onto, parts, has_byte, fields, label_longest, fault_of, or_too_long}
use Rattle.alphabet.specs.Within.{class_table, run, start_of, end_of, field_at, part, with_form, label_field_at}
use Rattle.alphabet.specs.declared.Field.{Field}
use Rattle.alphabet.specs.declared.Field.TheVariants.{Part, End}
use Rattle.alphabet.specs.declared.LabelField.TheVariants as label_field

-- ---- the classes

neither : (a b : Bool) → (a || b) ≡ false → (a ≡ false) × (b ≡ false)
neither true b e = absurd (no (sym e))
neither false b e = (refl, e)

-- the two tests of a byte say what 01 says
pub label_is : (b : ℕ) → (label_byte b ≡ true) ↔ LabelByte b
unfolding label_byte
label_is b = (there, back)
  where
    there : label_byte b ≡ true → LabelByte b
    there e =
        let h = and_both (leb 33 b) (leb b 126 && not (eqb b 47 || (eqb b 92 || (eqb b 39 || eqb b 34)))) e in
        let i = and_both (leb b 126) (not (eqb b 47 || (eqb b 92 || (eqb b 39 || eqb b 34)))) h.1 in
        let j = neither (eqb b 47) (eqb b 92 || (eqb b 39 || eqb b 34)) (not-true _ i.1) in
        let k = neither (eqb b 92) (eqb b 39 || eqb b 34) j.1 in
        let l = neither (eqb b 39) (eqb b 34) k.1 in
        (leb-true 33 b h.0, leb-true b 126 i.0, eqb-false b 47 j.0, eqb-false b 92 k.0, eqb-false b 39 l.0, eqb-false b 34 l.1)

    back : LabelByte b → label_byte b ≡ true
    back x = rw (le-leb 33 b x.0, le-leb b 126 x.1, ne_eqb b 47 x.2, ne_eqb b 92 x.3, ne_eqb b 39 x.4, ne_eqb b 34 x.5)

pub blank-is : (b : ℕ) → (is_blank b ≡ true) ↔ Blank b
unfolding is_blank
blank-is b = or_is (eqb b 32) (eqb b 9) (eqb_is b 32) (eqb_is b 9)

-- a label byte is no blank
pub label-unblank : (b : ℕ) → label_byte b ≡ true → is_blank b ≡ false
unfolding is_blank
label-unblank b e =
    let h = ((label_is b).0 e).0 in
    rw (ne_eqb b 32 (λ q. omega arith), ne_eqb b 9 (λ q. omega arith))

-- a byte's class tells whether it is a label byte, and whether it is a blank
pub class_label : (b : ℕ) → eqb (class_of b) 0 ≡ label_byte b
unfolding class_of
class_label b = by-test (label_byte b) (is_blank b) (is_newline b)
  where
    by-test : (l k n : Bool) → eqb (class_by l k n) 0 ≡ l
    by-test true k n = refl
    by-test false true n = refl
    by-test false false true = refl
    by-test false false false = refl

pub class_blank : (b : ℕ) → eqb (class_of b) 1 ≡ is_blank b
unfolding class_of
class_blank b = by-test (label_byte b) (is_blank b) (is_newline b) (label-unblank b)
  where
    by-test : (l k n : Bool) → (l ≡ true → k ≡ false) → eqb (class_by l k n) 1 ≡ k
    by-test true k n h = sym (h refl)
    by-test false true n h = refl
    by-test false false true h = refl
    by-test false false false h = refl

-- neither a label byte nor a blank is a newline
pub label_no_newline : (b : ℕ) → label_byte b ≡ true → is_newline b ≡ false
label_no_newline b e = let h = ((label_is b).0 e).0 in ne_eqb b 10 (λ q. omega arith)

blank_no_newline : (b : ℕ) → is_blank b ≡ true → is_newline b ≡ false
blank_no_newline b e = ne_eqb b 10 (λ q. ⊎_elim (λ h. omega arith) (λ h. omega arith) ((blank-is b).0 e))

-- a byte is in one of the other two classes, too, by its tests
class_newline : (b : ℕ) → eqb (class_of b) 2 ≡ is_newline b
unfolding class_of
class_newline b = by-test (label_byte b) (is_blank b) (is_newline b) (label_no_newline b) (blank_no_newline b)
  where
    by-test : (l k n : Bool) → (l ≡ true → n ≡ false) → (k ≡ true → n ≡ false) → eqb (class_by l k n) 2 ≡ n
    by-test true k n h i = sym (h refl)
    by-test false true n h i = sym (i refl)
    by-test false false true h i = refl
    by-test false false false h i = refl

class_other : (b : ℕ) → eqb (class_of b) 3 ≡ not (label_byte b || (is_blank b || is_newline b))
unfolding class_of
class_other b = by-test (label_byte b) (is_blank b) (is_newline b)
  where
    by-test : (l k n : Bool) → eqb (class_by l k n) 3 ≡ not (l || (k || n))
    by-test true k n = refl
    by-test false true n = refl
    by-test false false true = refl
    by-test false false false = refl

-- the class of each byte is the one that 01 gives it
pub byte_class : (b : ℕ) → ByteClass b (class_of b)
byte_class b =
    record {
      label = number_is (class_of b) 0 (label_byte b) (class_label b) (label_is b);
      blank = number_is (class_of b) 1 (is_blank b) (class_blank b) (blank-is b);
      ends_a_line = number_is (class_of b) 2 (is_newline b) (class_newline b) (eqb_is b 10);
      other =
          number_is (class_of b) 3 _ (class_other b)
          (not_is (label_byte b || (is_blank b || is_newline b)) (or_is (label_byte b) _ (label_is b) (or_is (is_blank b) _ (blank-is b) (eqb_is b 10))));
    }

-- the table of the classes, and a table that is it
pub class_count : length class_table ≡ 256
unfolding class_table
class_count = entries-length class_of 256

pub class_at : (b : ℕ) → b < 256 → get_or class_table b 0 ≡ class_of b
unfolding class_table
class_at b h = entries_at class_of 0 256 b h

pub table-says : (t : List ℕ) → t ≡ class_table → (t ≡ class_table) × ByteClasses (λ b. get_or t b 0)
table-says t e = (e, λ b h. rw (e, class_at b h) (byte_class b))

-- the same of a class r that was read from the table
pub blank_told : (b r : ℕ) → r ≡ class_of b → eqb r 1 ≡ is_blank b
blank_told b r e = rw e (class_blank b)

pub label_told : (b r : ℕ) → r ≡ class_of b → r ≡ 0 → label_byte b ≡ true
label_told b r e z = sym (class_label b) ∙ eq-eqb (class_of b) 0 (sym e ∙ z)

pub other_told : (b r : ℕ) → r ≡ class_of b → (r ≡ 0 → ⊥) → label_byte b ≡ false
other_told b r e z = sym (class_label b) ∙ ne_eqb (class_of b) 0 (λ q. z (e ∙ q))

-- ---- a label and its first fault

pub fault-empty : (l : List ℕ) → length l ≡ 0 → fault_of l ≡ Some 0
unfolding fault_of
fault-empty l e = rw (eq-eqb (length l) 0 e)

pub fault-dash : (l : List ℕ) → (length l ≡ 0 → ⊥) → get_or l 0 0 ≡ 45 → fault_of l ≡ Some 0
unfolding fault_of
fault-dash l some e = rw (ne_eqb (length l) 0 some, eq-eqb (get_or l 0 0) 45 e)

-- a label that has a byte and does not begin with a dash
module _ (l : List ℕ) (some : length l ≡ 0 → ⊥) (plain : get_or l 0 0 ≡ 45 → ⊥) where
  fault-by : (f : Option ℕ) → first (λ (b : ℕ). not (label_byte b)) (take label_longest l) ≡ f → fault_of l ≡ or_too_long f (length l)
  unfolding fault_of
  fault-by f e = rw (ne_eqb (length l) 0 some, ne_eqb (get_or l 0 0) 45 plain, e)

  passed : (n : ℕ) → ((k : ℕ) → k < n → label_byte (get_or l k 0) ≡ true) → n ≤ label_longest → (k : ℕ) → k < n → not (label_byte (get_or (take label_longest l) k 0)) ≡ false
  passed n fine h k i =
      let j : k < label_longest = omega arith in
      rw (get_or-take label_longest l k 0 j, fine k i)

  pub fault-at :
      (i : ℕ) →
      i < length l →
      i < label_longest →
      ((k : ℕ) → k < i → label_byte (get_or l k 0) ≡ true) →
      label_byte (get_or l i 0) ≡ false →
      fault_of l ≡ Some i
  fault-at i h j fine here =
      fault-by (Some i)
      (first-at (λ (b : ℕ). not (label_byte b)) 0 (take label_longest l) i (rw length-take (omega arith)) (passed i fine (omega arith)) (rw (get_or-take label_longest l i 0 j, here)))

  pub fault-long : label_longest < length l → ((k : ℕ) → k < label_longest → label_byte (get_or l k 0) ≡ true) → fault_of l ≡ Some label_longest
  fault-long h fine =
      fault-by None
      (first-none (λ (b : ℕ). not (label_byte b)) 0 (take label_longest l) (λ k i. passed label_longest fine (omega arith) k (omega (arith, rw length-take at i))))
      ∙ rw (lt-leb (length l) label_longest h)

  pub fault-none : length l ≤ label_longest → ((k : ℕ) → k < length l → label_byte (get_or l k 0) ≡ true) → fault_of l ≡ None
  fault-none h fine =
      fault-by None
      (first-none (λ (b : ℕ). not (label_byte b)) 0 (take label_longest l) (λ k i. passed (length l) fine h k (omega (arith, rw length-take at i))))
      ∙ rw (le-leb (length l) label_longest h)

-- whether a search found nothing
abbrev pub missing : Option ℕ → Bool
missing (Some k) = false
missing None = true

missing_later : (f : Option ℕ) → missing (later f) ≡ missing f
missing_later (Some k) = refl
missing_later None = refl

-- every entry passes a test exactly where a search finds none that fails it
pub all_missing : {A : Type 0} (p : A → Bool) (l : List A) → all p l ≡ missing (first (λ (x : A). not (p x)) l)
unfolding all first
all_missing p [] = refl
all_missing {A} p (x ∷ xs) = by-test (p x) (first (λ (y : A). not (p y)) xs) (all_missing p xs)
  where
    by-test : (b : Bool) (f : Option ℕ) → all p xs ≡ missing f → (b && all p xs) ≡ missing (cond (not b) (Some zero) (later f))
    by-test true f ih = ih ∙ sym (missing_later f)
    by-test false f ih = refl

some_leb : (n : ℕ) → leb 1 n ≡ not (eqb n 0)
some_leb zero = refl
some_leb (suc n) = rw (le-leb 1 (suc n) (omega arith), ne_eqb (suc n) 0 (λ q. omega arith))

-- a label is well formed exactly where it has no fault
pub formed_missing : (l : List ℕ) → well_formed l ≡ missing (fault_of l)
unfolding well_formed fault_of
formed_missing l =
    rw (some_leb (length l)) (by-test (eqb (length l) 0) (eqb (get_or l 0 0) 45) (leb (length l) label_longest) refl (first (λ (b : ℕ). not (label_byte b)) (take label_longest l)) (all label_byte l) searched)
  where
    searched : leb (length l) label_longest ≡ true → all label_byte l ≡ missing (first (λ (b : ℕ). not (label_byte b)) (take label_longest l))
    searched e = rw (take_all label_longest l (leb-true (length l) label_longest e)) (all_missing label_byte l)

    by-test :
        (empty dash short : Bool) →
        leb (length l) label_longest ≡ short →
        (f : Option ℕ) (w : Bool) →
        (short ≡ true → w ≡ missing f) →
        (not empty && (short && (w && not dash))) ≡ missing (cond empty (Some 0) (cond dash (Some 0) (or_too_long f (length l))))
    by-test true dash short e f w h = refl
    by-test false true true e f w h = and-false w
    by-test false true false e f w h = refl
    by-test false false true e (Some k) w h = rw (h refl)
    by-test false false true e None w h = rw (h refl, e)
    by-test false false false e (Some k) w h = refl
    by-test false false false e None w h = rw e

pub fault-formed : (l : List ℕ) → fault_of l ≡ None → well_formed l ≡ true
fault-formed l e = formed_missing l ∙ ap missing e

pub fault_unformed : (l : List ℕ) (k : ℕ) → fault_of l ≡ Some k → well_formed l ≡ false
fault_unformed l k e = formed_missing l ∙ ap missing e

-- what a well-formed label is: it has a byte, it has at most 255, each is a label byte, and the first is no dash
pub formed-is :
    (l : List ℕ) →
    well_formed l ≡ true →
    (1 ≤ length l) × (length l ≤ label_longest) × ((k : ℕ) → k < length l → label_byte (get_or l k 0) ≡ true) × (get_or l 0 0 ≡ 45 → ⊥)
unfolding well_formed
formed-is l e =
    let h = and_both (leb 1 (length l)) (leb (length l) label_longest && (all label_byte l && not (eqb (get_or l 0 0) 45))) e in
    let i = and_both (leb (length l) label_longest) (all label_byte l && not (eqb (get_or l 0 0) 45)) h.1 in
    let j = and_both (all label_byte l) (not (eqb (get_or l 0 0) 45)) i.1 in (
      leb-true 1 (length l) h.0,
      leb-true (length l) label_longest i.0,
      all-at label_byte 0 l j.0,
      eqb-false (get_or l 0 0) 45 (not-true (eqb (get_or l 0 0) 45) j.1),
    )

-- a label passes the test exactly where it is as 01 says
pub label_form : LabelForm
unfolding well_formed
label_form l = (
  λ e. let f = formed-is l e in record { some = f.0; few = f.1; bytes = λ k h. (label_is (get_or l k 0)).0 (f.2 k h); no_dash = f.3 },
  λ w.
      rw (
        le-leb 1 (length l) w.some,
        le-leb (length l) label_longest w.few,
        all-by label_byte 0 l (λ k h. (label_is (get_or l k 0)).1 (w.bytes k h)),
        ne_eqb (get_or l 0 0) 45 w.no_dash,
      ),
)

-- ---- runs of blanks and of other bytes

pub bools_differ : (a b : Bool) → not (beq a b) ≡ true → a ≡ not b
bools_differ true true e = absurd (no e)
bools_differ true false e = refl
bools_differ false true e = refl
bools_differ false false e = absurd (no e)

pub bools_agree : (a b : Bool) → not (beq a b) ≡ false → a ≡ b
bools_agree true true e = refl
bools_agree true false e = absurd (no (sym e))
bools_agree false true e = absurd (no (sym e))
bools_agree false false e = refl

pub run-stop : (blanks : Bool) (line : List ℕ) (i : ℕ) → i < length line → is_blank (get_or line i 0) ≡ not blanks → run blanks (drop i line) ≡ 0
unfolding run
run-stop true line i h e = rw (drop-cons line i 0 h, e)
run-stop false line i h e = rw (drop-cons line i 0 h, e)

pub run_more : (blanks : Bool) (line : List ℕ) (i : ℕ) → i < length line → is_blank (get_or line i 0) ≡ blanks → run blanks (drop i line) ≡ suc (run blanks (drop (i + 1) line))
unfolding run
run_more true line i h e = rw (add-one, drop-cons line i 0 h, e)
run_more false line i h e = rw (add-one, drop-cons line i 0 h, e)

pub run_past : (blanks : Bool) (line : List ℕ) (i : ℕ) → length line ≤ i → run blanks (drop i line) ≡ 0
unfolding run
run_past blanks line i h = rw (drop_of_length-le line {i = i} h)

pub run_le : (blanks : Bool) (l : List ℕ) → run blanks l ≤ length l
unfolding run
run_le blanks [] = omega arith
run_le true (b ∷ bs) = by-test (is_blank b) (run_le true bs)
  where
    by-test : (t : Bool) → run true bs ≤ length bs → cond t (suc (run true bs)) zero ≤ suc (length bs)
    by-test true ih = suc-le-suc ih
    by-test false ih = omega arith
run_le false (b ∷ bs) = by-test (is_blank b) (run_le false bs)
  where
    by-test : (t : Bool) → run false bs ≤ length bs → cond t zero (suc (run false bs)) ≤ suc (length bs)
    by-test true ih = omega arith
    by-test false ih = suc-le-suc ih

-- ---- the fields of a line

pub no_fields : fields [] ≡ []
unfolding fields
no_fields = refl

-- whether a line begins with a field
abbrev pub opens : List ℕ → Bool
opens [] = false
opens (b ∷ bs) = not (is_blank b)

-- the fields by the line's first byte: a blank is passed, and any other byte joins the field that follows at once, or is one by itself
pub fields_cons : (b : ℕ) (bs : List ℕ) → fields (b ∷ bs) ≡ cond (is_blank b) (fields bs) (cond (opens bs) (onto b (fields bs)) ((b ∷ []) ∷ fields bs))
unfolding fields
fields_cons b bs = by-test (is_blank b) bs
  where
    joins : (b : ℕ) (bs : List ℕ) → those has_byte (onto b (parts bs)) ≡ cond (opens bs) (onto b (those has_byte (parts bs))) ((b ∷ []) ∷ those has_byte (parts bs))
    joins b [] = refl
    joins b (x ∷ xs) = by-blank (is_blank x)
      where
        by-blank : (t : Bool) → those has_byte (onto b (cond t ([] ∷ parts xs) (onto x (parts xs)))) ≡ cond (not t) (onto b (those has_byte (cond t ([] ∷ parts xs) (onto x (parts xs))))) ((b ∷ []) ∷ those has_byte (cond t ([] ∷ parts xs) (onto x (parts xs))))
        by-blank true = refl
        by-blank false = by_parts (parts xs)
          where
            by_parts : (ps : List (List ℕ)) → those has_byte (onto b (onto x ps)) ≡ onto b (those has_byte (onto x ps))
            by_parts [] = refl
            by_parts (p ∷ ps) = refl

    by-test : (t : Bool) (bs : List ℕ) → those has_byte (cond t ([] ∷ parts bs) (onto b (parts bs))) ≡ cond t (those has_byte (parts bs)) (cond (opens bs) (onto b (those has_byte (parts bs))) ((b ∷ []) ∷ those has_byte (parts bs)))
    by-test true bs = refl
    by-test false bs = joins b bs

-- blanks in front do not matter
fields_skip : (l : List ℕ) → fields l ≡ fields (drop (run true l) l)
unfolding run
fields_skip [] = refl
fields_skip (b ∷ bs) = by-test (is_blank b) refl (fields_skip bs)
  where
    by-test : (t : Bool) → is_blank b ≡ t → fields bs ≡ fields (drop (run true bs) bs) → fields (b ∷ bs) ≡ fields (drop (cond t (suc (run true bs)) zero) (b ∷ bs))
    by-test true e ih = fields_cons b bs ∙ rw e ih
    by-test false e ih = refl

-- past the blanks, what is left begins with another byte
opens_skip : (l : List ℕ) → run true l < length l → opens (drop (run true l) l) ≡ true
unfolding run
opens_skip [] h = absurd (omega arith)
opens_skip (b ∷ bs) h = by-test (is_blank b) refl h (opens_skip bs)
  where
    by-test : (t : Bool) → is_blank b ≡ t → cond t (suc (run true bs)) zero < suc (length bs) → (run true bs < length bs → opens (drop (run true bs) bs) ≡ true) → opens (drop (cond t (suc (run true bs)) zero) (b ∷ bs)) ≡ true
    by-test true e h ih = ih (omega arith)
    by-test false e h ih = rw e

-- a line that begins with a field: the field is the run up to the next blank
fields_cut : (l : List ℕ) → opens l ≡ true → (0 < run false l) × (fields l ≡ take (run false l) l ∷ fields (drop (run false l) l))
unfolding run
fields_cut [] o = absurd (no o)
fields_cut (b ∷ bs) o = rw (fields_cons b bs, not-true (is_blank b) o) (omega arith, rest bs (opens bs) refl (fields_cut bs))
  where
    rest :
        (bs : List ℕ) (t : Bool) →
        opens bs ≡ t →
        (opens bs ≡ true → (0 < run false bs) × (fields bs ≡ take (run false bs) bs ∷ fields (drop (run false bs) bs))) →
        cond t (onto b (fields bs)) ((b ∷ []) ∷ fields bs) ≡ (b ∷ take (run false bs) bs) ∷ fields (drop (run false bs) bs)
    rest bs true e ih = ap (onto b) (ih e).1
    rest [] false e ih = rw no_fields
    rest (x ∷ xs) false e ih = rw (not-false (is_blank x) e)

-- where the reader starts: no earlier than it was told to, and past blanks alone
start_after : (line : List ℕ) (from : ℕ) → from ≤ start_of line from
unfolding start_of
start_after line from = omega arith

start_drop : (line : List ℕ) (from : ℕ) → drop (run true (drop from line)) (drop from line) ≡ drop (start_of line from) line
unfolding start_of
start_drop line from = drop-drop (run true (drop from line)) from line

start_skip : (line : List ℕ) (from : ℕ) → fields (drop from line) ≡ fields (drop (start_of line from) line)
start_skip line from = fields_skip (drop from line) ∙ ap fields (start_drop line from)

start_opens : (line : List ℕ) (from : ℕ) → start_of line from < length line → opens (drop (start_of line from) line) ≡ true
unfolding start_of
start_opens line from h =
    let i : run true (drop from line) < length (drop from line) = rw length-drop (omega arith) in
    ap opens (sym (start_drop line from)) ∙ opens_skip (drop from line) i

-- a field from start to end is the first of those from an index on, and the others are those from its end on
pub record FieldFrom (line : List ℕ) (from start end : ℕ) : Type 0 where
  pub after : from ≤ start
  pub starts : start < end
  pub ends : end ≤ length line
  pub first_of : fields (drop from line) ≡ part line start end ∷ fields (drop end line)

from_at : (line : List ℕ) (from start : ℕ) → from ≤ start → opens (drop start line) ≡ true → fields (drop from line) ≡ fields (drop start line) → start < length line → FieldFrom line from start (end_of line start)
unfolding end_of
from_at line from start after o skips h =
    let r = run false (drop start line) in
    let cut = fields_cut (drop start line) o in
    let le = run_le false (drop start line) in
    let long = length-drop start line in
    let size : start + r - start ≡ r = omega arith in
    record {
      after = after;
      starts = omega (arith, cut.0);
      ends = omega arith;
      first_of = skips ∙ cut.1 ∙ rw (size, drop-drop r start line);
    }

-- the reader's answers, of any line and from any index on
pub field-some : (line : List ℕ) (from start end : ℕ) → field_at line from ≡ Part start end → FieldFrom line from start end
unfolding field_at
field-some line from start end e = by-test (ltb (start_of line from) (length line)) refl e
  where
    by-test : (t : Bool) → ltb (start_of line from) (length line) ≡ t → cond t (Part (start_of line from) (end_of line (start_of line from))) End ≡ Part start end → FieldFrom line from start end
    by-test true h q =
        let s : start_of line from ≡ start = cc in
        let z : end_of line (start_of line from) ≡ end = cc in
        let i = ltb-true (start_of line from) (length line) h in
        rw (← z, ← s) (from_at line from (start_of line from) (start_after line from) (start_opens line from i) (start_skip line from) i)
    by-test false h q = let z : ◌≡◌ {A = ℕ} 0 1 = cc in absurd (omega arith)

pub field-none : (line : List ℕ) (from : ℕ) → field_at line from ≡ End → fields (drop from line) ≡ []
unfolding field_at
field-none line from e = by-test (ltb (start_of line from) (length line)) refl e
  where
    by-test : (t : Bool) → ltb (start_of line from) (length line) ≡ t → cond t (Part (start_of line from) (end_of line (start_of line from))) End ≡ End → fields (drop from line) ≡ []
    by-test true h q = let z : ◌≡◌ {A = ℕ} 0 1 = cc in absurd (omega arith)
    by-test false h q = start_skip line from ∙ ap fields (drop_of_length-le line {i = start_of line from} (ltb-false (start_of line from) (length line) h)) ∙ no_fields

-- what the reader answers, by where the two runs end
pub reader_ends : (line : List ℕ) (from start : ℕ) → start ≡ from + run true (drop from line) → length line ≤ start → field_at line from ≡ End
unfolding field_at start_of
reader_ends line from start e h = rw (← e, le-ltb start (length line) h)

pub reader_finds :
    (line : List ℕ) (from start end : ℕ) →
    start ≡ from + run true (drop from line) →
    end ≡ start + run false (drop start line) →
    start < length line →
    field_at line from ≡ Part start end
unfolding field_at start_of end_of
reader_finds line from start end e z h = rw (← e, lt-ltb start (length line) h, ← z)

-- what the reader of words answers: the field that the other reader answers, with whether it is a label; and no word where there is no field
pub label-field-some :
    (line : List ℕ) (from start end : ℕ) (formed : Bool) →
    label_field_at line from ≡ label_field.Part start end formed →
    (field_at line from ≡ Part start end) × (well_formed (part line start end) ≡ formed)
label-field-some line from start end formed e = by_answer (field_at line from) e
  where
    by_answer : (f : Field) → with_form line f ≡ label_field.Part start end formed → (f ≡ Part start end) × (well_formed (part line start end) ≡ formed)
    by_answer (Part a b) q =
        let s : a ≡ start = cc in
        let z : b ≡ end = cc in
        let t : well_formed (part line a b) ≡ formed = cc in
        rw (← s, ← z) (refl, t)
    by_answer End q = let z : ◌≡◌ {A = ℕ} 0 1 = cc in absurd (omega arith)

pub label-field-none : (line : List ℕ) (from : ℕ) → label_field_at line from ≡ label_field.End → field_at line from ≡ End
label-field-none line from e = by_answer (field_at line from) e
  where
    by_answer : (f : Field) → with_form line f ≡ label_field.End → f ≡ End
    by_answer (Part a b) q = let z : ◌≡◌ {A = ℕ} 0 1 = cc in absurd (omega arith)
    by_answer End q = refl

-- Fields in a row, of any number: `answer` goes by what the reader answers and `said` by the fields that are left. They fit together
-- where they do so at the line's end, and behind each field.
pub in_a_row :
    {R S : Type 0} (Fits : R → S → Type 0) (line : List ℕ) (from : ℕ) (answer : Field → R) (said : List (List ℕ) → S) →
    Fits (answer End) (said []) →
    ((start end : ℕ) → FieldFrom line from start end → Fits (answer (Part start end)) (said (part line start end ∷ fields (drop end line)))) →
    Fits (answer (field_at line from)) (said (fields (drop from line)))
in_a_row Fits line from answer said none some = by_answer (field_at line from) refl
  where
    by_answer : (f : Field) → field_at line from ≡ f → Fits (answer f) (said (fields (drop from line)))
    by_answer (Part start end) e = let w = field-some line from start end e in rw w.first_of (some start end w)
    by_answer End e = rw (field-none line from e) none

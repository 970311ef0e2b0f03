-- 01, Labels 1 and 4, and the fields of 'Rule text': the class of a byte, a well-formed label, and the fields of a line; 02, Three: where the first bad byte is.
-- The alphabet is that of the kernel's Smack text (source documents 000, 001 and 004); the 23-character limit of the
-- first version (source document 003) is overruled. Assumes nothing.
use Rattle.std.specs.Prelude.{ℕ, ◌+◌, ◌<◌, ◌≤◌, ◌≡◌, ◌↔◌, ◌≢◌, ◌⊎◌, Bool, true, false, cond, not, ◌&&◌, ◌||◌, List, [], ◌∷◌, ◌++◌, length, take, get_or, eqb, leb, Option, Some, None}
use Rattle.search.specs.Search.{first, all, those, place_of}

-- ---- bytes

-- the bytes that have a part of their own
abbrev pub tab : ℕ
tab = 9

abbrev pub newline : ℕ
newline = 10

abbrev pub space : ℕ
space = 32

abbrev pub dash : ℕ
dash = 45

-- a newline ends a line
abbrev pub is_newline : ℕ → Bool
is_newline b = eqb b newline

-- blanks are space and tab
unfoldable pub is_blank : ℕ → Bool
is_blank b = eqb b space || eqb b tab

-- the bytes of a label: 33 to 126, none of / (47) \ (92) ' (39) " (34)
unfoldable pub label_byte : ℕ → Bool
label_byte b = leb 33 b && (leb b 126 && not (eqb b 47 || (eqb b 92 || (eqb b 39 || eqb b 34))))

-- the class of a byte, by whether it is a label byte, a blank, a newline: label byte 0, blank 1, newline 2, other 3
abbrev pub class_by : Bool → Bool → Bool → ℕ
class_by true blank ends = 0
class_by false true ends = 1
class_by false false true = 2
class_by false false false = 3

unfoldable pub class_of : ℕ → ℕ
unfolding is_blank label_byte
class_of b = class_by (label_byte b) (is_blank b) (is_newline b)

-- What 01 says of a byte and its class, without the tests above: 0 exactly where the byte is 33 to 126 and none of / \ ' ", 1 exactly where it is
-- space or tab, 2 exactly where it is newline, 3 exactly where it is none of these.
abbrev pub LabelByte : ℕ → Type 0
LabelByte b = (33 ≤ b) × (b ≤ 126) × (b ≢ 47) × (b ≢ 92) × (b ≢ 39) × (b ≢ 34)

abbrev pub Blank : ℕ → Type 0
Blank b = (b ≡ 32) ⊎ (b ≡ 9)

pub record ByteClass (b class : ℕ) : Type 0 where
  pub label : (class ≡ 0) ↔ LabelByte b
  pub blank : (class ≡ 1) ↔ Blank b
  pub ends_a_line : (class ≡ 2) ↔ (b ≡ 10)
  pub other : (class ≡ 3) ↔ (LabelByte b ⊎ Blank b ⊎ (b ≡ 10) → ⊥)

-- so it is said of the 256 byte values
abbrev pub ByteClasses : (ℕ → ℕ) → Type 0
ByteClasses class = (b : ℕ) → b < 256 → ByteClass b (class b)

-- ---- labels

-- the most bytes of a label
abbrev pub label_longest : ℕ
label_longest = 255

-- a label has 1 to 255 bytes, each a label byte, and doesn't begin with a dash
unfoldable pub well_formed : List ℕ → Bool
unfolding label_byte
well_formed l = leb 1 (length l) && (leb (length l) label_longest && (all label_byte l && not (eqb (get_or l 0 0) dash)))

-- What 01 says of a label, without the test above.
pub record WellFormed (l : List ℕ) : Type 0 where
  pub some : 1 ≤ length l
  pub few : length l ≤ 255
  pub bytes : (k : ℕ) → k < length l → LabelByte (get_or l k 0)
  pub no_dash : get_or l 0 0 ≢ 45

abbrev pub LabelForm : Type 0
LabelForm = (l : List ℕ) → (well_formed l ≡ true) ↔ WellFormed l

-- ---- 02, Three: the place of a label's first bad byte

-- 0 where the label is empty or begins with a dash, the first byte that is no label byte, or 255 where it is too long and has no earlier fault; nothing
-- where it is well formed
abbrev pub or_too_long : Option ℕ → ℕ → Option ℕ
or_too_long (Some k) n = Some k
or_too_long None n = cond (leb n label_longest) None (Some label_longest)

unfoldable pub fault_of : List ℕ → Option ℕ
unfolding label_byte
fault_of l =
    cond (eqb (length l) 0)
    (Some 0)
    (cond (eqb (get_or l 0 0) dash)
    (Some 0)
    (or_too_long (first (λ (b : ℕ). not (label_byte b)) (take label_longest l)) (length l)))

-- the same as a number, of a label that is not well formed
abbrev pub bad_byte : List ℕ → ℕ
bad_byte l = place_of (fault_of l) 0

-- What 02 says of that place, without the search above. What can stand there: nothing, since the label is empty; a leading dash; a byte that is no label
-- byte; the byte 255 of a label that is too long
pub data BadAt : List ℕ → ℕ → Type 0 where
  empty : BadAt [] 0
  leading_dash : (l : List ℕ) → get_or l 0 0 ≡ 45 → BadAt l 0
  no_label_byte : (l : List ℕ) (k : ℕ) → k < length l → k < 255 → (LabelByte (get_or l k 0) → ⊥) → BadAt l k
  too_long : (l : List ℕ) → 255 < length l → BadAt l 255

-- and there is no earlier fault: every byte before it is a label byte, and where there is one the first is no dash
pub record FirstBad (l : List ℕ) (place : ℕ) : Type 0 where
  pub fault : BadAt l place
  pub before : (k : ℕ) → k < place → LabelByte (get_or l k 0)
  pub no_dash : 0 < place → get_or l 0 0 ≢ 45

-- of two labels, in the first that is not well formed
abbrev pub bad_byte_of_two : List ℕ → List ℕ → ℕ
bad_byte_of_two s o = cond (well_formed s) (bad_byte o) (bad_byte s)

-- ---- lines

-- a line, and every single write but a mapping, has at most 600 bytes
abbrev pub line_limit : ℕ
line_limit = 600

-- a line cut at each of its blanks
abbrev pub onto : ℕ → List (List ℕ) → List (List ℕ)
onto b [] = (b ∷ []) ∷ []
onto b (p ∷ ps) = (b ∷ p) ∷ ps

abbrev pub parts : List ℕ → List (List ℕ)
parts [] = [] ∷ []
parts (b ∷ bs) = cond (is_blank b) ([] ∷ parts bs) (onto b (parts bs))

-- the fields of a line: those parts that have a byte
abbrev pub has_byte : List ℕ → Bool
has_byte [] = false
has_byte (b ∷ bs) = true

unfoldable pub fields : List ℕ → List (List ℕ)
fields line = those has_byte (parts line)

-- 02, Three: the place in a line or a write of the first bad byte of its first field that is no label, by the parts that the blanks leave and the index at
-- which the first of them begins. Where a line or a write is refused with 3 that field is the first bad label in order, since its labels stand before its
-- other fields
abbrev pub is_bad : List ℕ → Bool
is_bad p = has_byte p && not (well_formed p)

abbrev pub bad_byte_from : ℕ → List (List ℕ) → ℕ
bad_byte_from start [] = 0
bad_byte_from start (p ∷ ps) = cond (is_bad p) (start + bad_byte p) (bad_byte_from (start + (length p + 1)) ps)

unfoldable pub bad_byte_in : List ℕ → ℕ
bad_byte_in text = bad_byte_from 0 (parts text)

-- What 01 says of the fields, without the parts above. Every byte is a blank, and no byte is one:
abbrev pub Blanks : List ℕ → Type 0
Blanks bs = (k : ℕ) → k < length bs → Blank (get_or bs k 0)

abbrev pub NoBlanks : List ℕ → Type 0
NoBlanks f = (k : ℕ) → k < length f → Blank (get_or f k 0) → ⊥

-- the fields that a line is cut into: none where it is blanks alone; or else, past blanks, a field that has bytes and no blank among them and is followed
-- by a blank or by nothing, and then the fields of what is left
pub data Cut : List ℕ → List (List ℕ) → Type 0 where
  blanks : (bs : List ℕ) → Blanks bs → Cut bs []
  field :
      (bs f rest : List ℕ) (fs : List (List ℕ)) →
      Blanks bs →
      1 ≤ length f →
      NoBlanks f →
      (1 ≤ length rest → Blank (get_or rest 0 0)) →
      Cut rest fs →
      Cut (bs ++ (f ++ rest)) (f ∷ fs)

-- these are the fields of a line, and no others
abbrev pub FieldsOfALine : Type 0
FieldsOfALine = (line : List ℕ) (fs : List (List ℕ)) → (fields line ≡ fs) ↔ Cut line fs

-- What 02 says of a place in a text, without the parts above: past blanks stands a field, as above; where it is no label the place is that of its first bad
-- byte, counted from the beginning of the text, and where it is one the place stands in the rest. (`start` is the index at which this part of the text begins)
pub data BadIn : ℕ → List ℕ → ℕ → Type 0 where
  here :
      (start : ℕ) (bs f rest : List ℕ) (k : ℕ) →
      Blanks bs →
      1 ≤ length f →
      NoBlanks f →
      (1 ≤ length rest → Blank (get_or rest 0 0)) →
      FirstBad f k →
      BadIn start (bs ++ (f ++ rest)) (start + (length bs + k))
  behind :
      (start : ℕ) (bs f rest : List ℕ) (place : ℕ) →
      Blanks bs →
      NoBlanks f →
      (1 ≤ length rest → Blank (get_or rest 0 0)) →
      WellFormed f →
      BadIn (start + (length bs + length f)) rest place →
      BadIn start (bs ++ (f ++ rest)) place

-- so it is of every label, and of every text with a field that is no label; and there is no other such place
pub record FirstBadByte : Type 0 where
  pub label : (l : List ℕ) (k : ℕ) → (fault_of l ≡ Some k) ↔ FirstBad l k
  pub well_formed_is : (l : List ℕ) → (fault_of l ≡ None) ↔ WellFormed l
  pub text : (text : List ℕ) → all well_formed (fields text) ≡ false → BadIn 0 text (bad_byte_in text)
  pub no_other : (text : List ℕ) (place : ℕ) → BadIn 0 text place → bad_byte_in text ≡ place

-- Laws of classes that are joined by or. Assumes nothing.
use mathlib.Core.Path.{◌≡◌, refl, sym, ap, ◌∙◌}
use mathlib.Core.Bool.{Bool, true, false, not, ◌&&◌}
use mathlib.Core.List.{List, [], ◌∷◌, ◌++◌}
use Prim.Native.Nat.{ℕ, zero, suc, ◌+◌, ◌-◌, ◌<◌, ◌≤◌}
use native.Mathlib.Omega.{arith}
use lib.Bits.{bit_or, or_zero_l, or_add_and, and_le_r}
use lib.Dec.{eqb, leb}
use lib.ListN.{length, take, drop, get_or, length-drop}
use lib.Seq.{take-suc, take-length, get_or-take, get_or-drop, length-take-le}
use borrow.Author.Tests.{le-leb, ne_eqb}
use Rattle.search.specs.Search.{all}
use Rattle.search.proofs.Laws.{all_snoc}
use Rattle.alphabet.specs.Alphabet.{label_byte, class_of, well_formed, label_longest, dash}
use Rattle.alphabet.specs.Within.{run, part, with_form, label_field_at}
use Rattle.alphabet.specs.declared.LabelField.TheVariants as label_field
use Rattle.alphabet.proofs.Laws.{class_label, reader_ends, reader_finds, field-some}

-- what is joined is 0 exactly where both are
or_none : (a b : ℕ) → eqb (bit_or a b) 0 ≡ (eqb a 0 && eqb b 0)
or_none zero b = rw (or_zero_l b)
or_none (suc a) b =
    let sum = or_add_and (suc a) b in
    let le = and_le_r (suc a) b in
    rw (ne_eqb (bit_or (suc a) b) 0 (λ e. omega (arith, sum, le)), ne_eqb (suc a) 0 (λ e. omega arith))

-- ---- a field, byte by byte

part-more : (line : List ℕ) (start i : ℕ) → start ≤ i → i < length line → part line start (i + 1) ≡ part line start i ++ (get_or line i 0 ∷ [])
part-more line start i h j =
    let size : i + 1 - start ≡ suc (i - start) = omega arith in
    let place : start + (i - start) ≡ i = omega arith in
    rw size
    (take-suc (drop start line) (i - start) 0 (rw length-drop (omega arith)) ∙ rw (get_or-drop start line (i - start) 0, place))

-- the classes of a field's bytes so far, joined, are 0 exactly where each byte is a label byte; and with the next byte
pub items-length : (line : List ℕ) (start : ℕ) → length (take (length line - start) (drop start line)) ≡ length line - start
items-length line start = let e : length (drop start line) ≡ length line - start = length-drop start line in rw (← e, take-length)

pub item-at : (line : List ℕ) (start i end : ℕ) → start + i ≡ end → get_or (take (length line - start) (drop start line)) i 0 ≡ get_or line end 0
item-at line start i end z = let e : length (drop start line) ≡ length line - start = length-drop start line in rw (← e, take-length, ← z) (get_or-drop start line i 0)

pub joined-none : (line : List ℕ) (start : ℕ) → true ≡ all label_byte (part line start start)
unfolding all
joined-none line start = let z : start - start ≡ 0 = omega arith in rw z

pub joined-more :
    (line : List ℕ) (start i joined class : ℕ) →
    start ≤ i →
    i < length line →
    eqb joined 0 ≡ all label_byte (part line start i) →
    class ≡ class_of (get_or line i 0) →
    eqb (bit_or joined class) 0 ≡ all label_byte (part line start (i + 1))
joined-more line start i joined class h j so e =
    or_none joined class
    ∙ rw (so, e, class_label (get_or line i 0), part-more line start i h j, all_snoc label_byte (part line start i) (get_or line i 0))

-- whether a field is a label, by the joined classes of its bytes, its length and its first byte
formed-by :
    (line : List ℕ) (start end joined : ℕ) →
    start < end →
    end ≤ length line →
    eqb joined 0 ≡ all label_byte (part line start end) →
    ((eqb joined 0 && leb (end - start) label_longest) && not (eqb (get_or line start 0) dash)) ≡ well_formed (part line start end)
unfolding well_formed
formed-by line start end joined h i so =
    let long : length (part line start end) ≡ end - start = length-take-le (end - start) (drop start line) (rw length-drop (omega arith)) in
    let place : start + 0 ≡ start = omega arith in
    let front : get_or (part line start end) 0 0 ≡ get_or line start 0 =
    get_or-take (end - start) (drop start line) 0 0 (omega arith) ∙ get_or-drop start line 0 0 ∙ rw place in
    rw (so, long, front, le-leb 1 (end - start) (omega arith)) (by-test (all label_byte (part line start end)) (leb (end - start) label_longest) _)
  where
    by-test : (a b c : Bool) → ((a && b) && c) ≡ (b && (a && c))
    by-test true b c = refl
    by-test false true c = refl
    by-test false false c = refl

-- what the reader of label fields answers, by where the two runs end
pub label-field-ends : (line : List ℕ) (from start : ℕ) → start ≡ from + run true (drop from line) → length line ≤ start → label_field_at line from ≡ label_field.End
label-field-ends line from start e h = ap (with_form line) (reader_ends line from start e h)

pub label-field_finds :
    (line : List ℕ) (from start end joined : ℕ) →
    start ≡ from + run true (drop from line) →
    end ≡ start + run false (drop start line) →
    start < length line →
    eqb joined 0 ≡ all label_byte (part line start end) →
    label_field_at line from ≡ label_field.Part start end ((eqb joined 0 && leb (end - start) label_longest) && not (eqb (get_or line start 0) dash))
label-field_finds line from start end joined e z h so =
    let found = reader_finds line from start end e z h in
    let field = field-some line from start end found in
    ap (with_form line) found ∙ ap (label_field.Part start end) (sym (formed-by line start end joined field.starts field.ends so))

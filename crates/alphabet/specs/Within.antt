-- What only contracts inside the library and proofs speak of: the table of the byte classes, whether a part of a label is label bytes, and where in a line its
-- fields stand. Nobody has to believe it: what it says of lines is held to `fields` by the laws. Assumes nothing.
use Rattle.std.specs.Prelude.{ℕ, zero, suc, ◌+◌, ◌-◌, Bool, true, false, cond, List, [], ◌∷◌, length, take, drop, ltb}
use Rattle.search.specs.Search.{all, entries}
use Rattle.alphabet.specs.Alphabet.{is_blank, class_of, label_byte, well_formed}
use Rattle.alphabet.specs.declared.Field.{Field}
use Rattle.alphabet.specs.declared.Field.TheVariants.{Part, End}
use Rattle.alphabet.specs.declared.LabelField.{LabelField}
use Rattle.alphabet.specs.declared.LabelField.TheVariants as label_field

-- the classes of the 256 byte values, in order
unfoldable pub class_table : List ℕ
unfolding class_of
class_table = entries class_of 256

-- the most bytes of a text in which the place of a bad byte is told: a mapping write's, the longest of all (`mapping_longest` of cipso)
abbrev pub text_longest : ℕ
text_longest = 1000

-- how many bytes at the front of a line are blanks (true), or are not (false)
unfoldable pub run : Bool → List ℕ → ℕ
unfolding is_blank
run blanks [] = zero
run true (b ∷ bs) = cond (is_blank b) (suc (run true bs)) zero
run false (b ∷ bs) = cond (is_blank b) zero (suc (run false bs))

-- the next field of a line from an index on: where it starts, past the blanks, and where it ends, before the next blank or with the line
unfoldable pub start_of : List ℕ → ℕ → ℕ
unfolding run
start_of line from = from + run true (drop from line)

unfoldable pub end_of : List ℕ → ℕ → ℕ
unfolding run
end_of line start = start + run false (drop start line)

unfoldable pub field_at : List ℕ → ℕ → Field
unfolding start_of end_of
field_at line from =
    cond (ltb (start_of line from) (length line))
    (Part (start_of line from) (end_of line (start_of line from)))
    End

-- the bytes of a line from start to end
abbrev pub part : List ℕ → ℕ → ℕ → List ℕ
part line start end = take (end - start) (drop start line)

-- a field with whether its bytes are a well-formed label, and the next one of a line from an index on
abbrev pub with_form : List ℕ → Field → LabelField
with_form line (Part start end) = label_field.Part start end (well_formed (part line start end))
with_form line End = label_field.End

abbrev pub label_field_at : List ℕ → ℕ → LabelField
label_field_at line from = with_form line (field_at line from)

-- whether the bytes of a label from start to end are label bytes
unfoldable pub label_bytes : List ℕ → ℕ → ℕ → Bool
unfolding label_byte
label_bytes l start end = all label_byte (part l start end)

-- whether the number that tells of a byte, or of a part of a label, says yes: it has the bit 128
abbrev pub high_bit : ℕ → Bool
high_bit r = ltb 127 r

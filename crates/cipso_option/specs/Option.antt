-- 02, Five: the packet option (CIPSO, FIPS 188), written for a label and read back to one. Refusals of the writer: 0, 3, 19 and 12; of the reader: 0, 16, 17,
-- 18, then 3 or 21. Nothing is stored. How bits are categories stands in the crate set_bytes. Assumes nothing.
use Rattle.std.specs.Prelude.{ℕ, ◌+◌, Bool, true, false, cond, ◌&&◌, List, [], ◌∷◌, ◌++◌, length, take, drop, get_or, eqb, leb, Option, Some, None, Result, Ok, Err}
use Rattle.refusals.specs.Refusals.{number_of, damaged, bad_label, bad_option, other_doi, bad_option_category, not_in_an_option, no_such_mapping}
use Rattle.search.specs.Search.{entries}
use Rattle.search.specs.Bytes.{same_bytes, written}
use Rattle.alphabet.specs.Alphabet.{well_formed, label_longest}
use Rattle.numbers.specs.Categories.{own_level}
use Rattle.numbers.specs.declared.CategorySet.{CategorySet}
use Rattle.set_bytes.specs.SetBytes.{bitmap_bytes, set_of_bitmap, only_categories, own_bytes, set_of_own}
use Rattle.store.specs.Table.{Table, label_numbered}
use Rattle.store.specs.Layout.{Store, table_of, undamaged_of}
use Rattle.lookups.specs.Lookups.{label_lookup, level_lookup}
use Rattle.refusals.specs.declared.Refusal.{Refusal}
use Rattle.lookups.specs.declared.Cipso.{Cipso}
use Rattle.output.specs.Output.{Text, text, refused, text_answer, text_out}
use Rattle.cipso_option.specs.declared.PeerLabel.{PeerLabel}

-- ---- its bytes

-- 'one tag of type 1: byte 134, total length, four bytes of DOI, 1, tag length, 0, level, bitmap'
abbrev pub option_bytes : List ℕ → ℕ → List ℕ → List ℕ
option_bytes doi level bitmap = 134 ∷ (10 + length bitmap) ∷ (doi ++ (1 ∷ (4 + length bitmap) ∷ 0 ∷ level ∷ bitmap))

-- 'DOI (always 3, high byte first)'
abbrev pub our_doi : List ℕ
our_doi = 0 ∷ 0 ∷ 0 ∷ 3 ∷ []

-- a byte in front of bytes that end in no zero byte: a zero byte goes where nothing is behind it
abbrev pub until_last : ℕ → List ℕ → List ℕ
until_last b [] = cond (eqb b 0) [] (b ∷ [])
until_last b (c ∷ rest) = b ∷ c ∷ rest

-- bytes without the zero bytes behind the last other one
unfoldable pub trimmed : List ℕ → List ℕ
trimmed [] = []
trimmed (b ∷ bytes) = until_last b (trimmed bytes)

-- ---- the writer

-- 'we write no trailing zero bytes'
unfoldable pub option_of : ℕ → CategorySet → List ℕ
option_of level s = option_bytes our_doi level (trimmed (bitmap_bytes s))

-- the most bytes of a label that goes as its own bits
abbrev pub own_longest : ℕ
own_longest = 23

-- 'A mapped label uses its mapping. An unmapped label of at most 23 bytes goes at level 250 as its own bits'; 19 it has over 23
abbrev pub option_by : List ℕ → Result (Option Cipso) Refusal → Text
option_by l (Ok (Some m)) = text (option_of m.level m.set)
option_by l (Ok None) = cond (leb (length l) own_longest) (text (option_of own_level (set_of_own l))) (refused not_in_an_option)
option_by l (Err r) = refused r

-- 3 the label is not well formed, as the look-up by label says
unfoldable pub label_option : Table → List ℕ → Text
label_option t l = option_by l (label_lookup t l)

-- of a lent state: 0 before every other where it is damaged. Last comes 12, where the lent output is too short
unfoldable pub option_given : Store → List ℕ → Text
option_given st l = cond (undamaged_of st) (label_option (table_of st) l) (refused damaged)

-- the answer, and the lent output afterwards
unfoldable pub option_answer : Store → List ℕ → List ℕ → Result ℕ Refusal
option_answer st l out = text_answer (option_given st l) out

unfoldable pub option_out : Store → List ℕ → List ℕ → List ℕ
option_out st l out = text_out (option_given st l) out

-- ---- the reader

-- 'the reader takes them, up to 30 bitmap bytes'
abbrev pub bitmap_limit : ℕ
bitmap_limit = 30

-- what an option has in its places: the DOI in bytes 2 to 5, the level in byte 9, the bitmap behind it
abbrev pub doi_in : List ℕ → List ℕ
doi_in option = take 4 (drop 2 option)

abbrev pub level_in : List ℕ → ℕ
level_in option = get_or option 9 0

abbrev pub bitmap_in : List ℕ → List ℕ
bitmap_in option = drop 10 option

-- bytes are an option where they are those that its DOI, its level and its bitmap make
unfoldable pub is_option : List ℕ → Bool
is_option option = leb (length (bitmap_in option)) bitmap_limit && same_bytes option (option_bytes (doi_in option) (level_in option) (bitmap_in option))

-- what an option says: the label of the packet; or a refusal
pub data Peer : Type 0 where
  label : List ℕ → Peer
  not_read : Refusal → Peer

-- at level 250: 3 where the bytes are no label
abbrev pub own_peer : List ℕ → Peer
own_peer l = cond (well_formed l) (label l) (not_read bad_label)

-- at another level: 21 where no mapping matches. (A byte and a set of categories can always be looked up: the last does not come)
abbrev pub mapped_peer : Table → Result (Option ℕ) Refusal → Peer
mapped_peer t (Ok (Some n)) = label (label_numbered t n)
mapped_peer t (Ok None) = not_read no_such_mapping
mapped_peer t (Err r) = not_read r

-- 'At level 250 the reader rebuilds the label, dropping trailing zero bytes'; at any other it is the label that the look-up by level and set finds
unfoldable pub peer_at : Table → ℕ → CategorySet → Peer
peer_at t level s = cond (eqb level own_level) (own_peer (trimmed (own_bytes s))) (mapped_peer t (level_lookup t level s))

-- 16 any other layout, then 17 another DOI, then 18 category 0 or above 184
unfoldable pub peer_of : Table → List ℕ → Peer
peer_of t option =
    cond (is_option option)
    (cond (same_bytes (doi_in option) our_doi)
    (cond (only_categories (bitmap_in option)) (peer_at t (level_in option) (set_of_bitmap (bitmap_in option))) (not_read bad_option_category))
    (not_read other_doi))
    (not_read bad_option)

-- of a lent state: 0 before every other where it is damaged
unfoldable pub peer_given : Store → List ℕ → Peer
peer_given st option = cond (undamaged_of st) (peer_of (table_of st) option) (not_read damaged)

-- k zero bytes
abbrev pub zero_bytes : ℕ → List ℕ
zero_bytes k = entries (λ (i : ℕ). 0) k

-- ---- 'It answers by value': the label in front of 255 bytes, those behind it 0; on a refusal its number, and no label

abbrev pub room : List ℕ
room = zero_bytes label_longest

abbrev pub peer_shown : Peer → PeerLabel
peer_shown (label l) = record { refused = false; number = 0; length = length l; bytes = written room 0 l }
peer_shown (not_read r) = record { refused = true; number = number_of r; length = 0; bytes = room }

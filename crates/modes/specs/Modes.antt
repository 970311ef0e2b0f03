-- 01, Modes, and 02, Six: a set of the letters r w x a t, its bits, and how it is read and written; and b, the retired letter, which a line may
-- still have. One table of letters and bits serves reading and writing. The letters are those of the kernel's Smack text; the four of the first version
-- (source document 003) are overruled. Assumes nothing.
use Rattle.std.specs.Prelude.{ℕ, ◌+◌, ◌-◌, ◌%◌, ◌<◌, ◌≡◌, Bool, true, false, cond, not, ◌&&◌, ◌||◌, ◌↔◌, ◌⊎◌, eqb, Option, Some, None}
use mathlib.Core.List.{List, [], ◌∷◌, foldl}
use Rattle.std.specs.Int.Bits.{bit_and, bit_or}
use Rattle.search.specs.Bytes.{ascii}
use Rattle.search.specs.Search.{all, those}
use Rattle.alphabet.specs.Alphabet.{dash}
use Rattle.modes.specs.declared.Letter.{Letter}

abbrev entry : ℕ → ℕ → Letter
entry l b = record { letter = l; bit = b }

-- the letters and their bits, in the fixed order: read r (114), write w (119), execute x (120), append a (97), transmute t (116)
abbrev pub letters : List Letter
letters = entry 114 32 ∷ entry 119 16 ∷ entry 120 8 ∷ entry 97 4 ∷ entry 116 2 ∷ []

-- 02, Six: b (98), bring-up, is retired. In a line's access field it is a placeholder, as a dash is; its bit, 64, which no stored modes have, tells that a
-- line held it. (Until then it was stored, as 1)
abbrev pub bring_up : Letter
bring_up = entry 98 64

-- the bit of a letter in either case (a capital letter is 32 below the small one), or 0 for any other byte
abbrev pub bit_among : List Letter → ℕ → ℕ
bit_among [] b = 0
bit_among (l ∷ ls) b = cond (eqb b l.letter || eqb b (l.letter - 32)) l.bit (bit_among ls b)

unfoldable pub bit_of : ℕ → ℕ
bit_of b = bit_among (bring_up ∷ letters) b

-- whether a byte may stand in an access field: a letter of `allowed`, or a dash where `dashes` says so
unfoldable pub allowed_byte : ℕ → Bool → ℕ → Bool
allowed_byte allowed dashes b = not (eqb (bit_and (bit_of b) allowed) 0) || (dashes && eqb b dash)

-- the letters of a field; a dash is a placeholder
unfoldable pub modes_of : List ℕ → ℕ
modes_of field = foldl (λ (m b : ℕ). bit_or m (bit_of b)) 0 field

unfoldable pub read_modes : ℕ → Bool → List ℕ → Option ℕ
read_modes allowed dashes field = cond (all (allowed_byte allowed dashes) field) (Some (modes_of field)) None

-- whether modes hold a bit
abbrev pub has : ℕ → ℕ → Bool
has m bit = not (eqb (bit_and m bit) 0)

-- modes as text: their letters in the fixed order, or a dash where there are none
abbrev pub letters_in : List Letter → ℕ → List ℕ
letters_in [] m = []
letters_in (l ∷ ls) m = cond (has m l.bit) (l.letter ∷ letters_in ls m) (letters_in ls m)

unfoldable pub modes_text : ℕ → List ℕ
modes_text m = cond (eqb m 0) (dash ∷ []) (letters_in letters m)

-- the letters that a stored rule may have: r w x a t
abbrev pub rule_letters : ℕ
rule_letters = 62

-- the letters that each place allows: a line's those of a rule and b, a change's those of a rule, a request's r w x a
abbrev pub line_letters : ℕ
line_letters = rule_letters + bring_up.bit

abbrev pub change_letters : ℕ
change_letters = rule_letters

abbrev pub request_letters : ℕ
request_letters = 60

-- r and x, which rules 2 and 3 grant
abbrev pub read_execute : ℕ
read_execute = 40

-- w alone, and t: the label of a new object goes by these (02, Seven)
abbrev pub write_letter : ℕ
write_letter = 16

abbrev pub transmute_letter : ℕ
transmute_letter = 2

-- the modes that a table may store: no other bit than those of a rule's letters (01: an unknown mode bit is damage; and by 02, Six, 1, which stored b, is one)
unfoldable pub known_modes : ℕ → Bool
known_modes m = eqb (bit_and m rule_letters) m

-- what is stored of the letters of a line (02, Six: not b), and whether b is among them
abbrev pub stored_modes : ℕ → ℕ
stored_modes m = bit_and m rule_letters

abbrev pub has_bring_up : ℕ → Bool
has_bring_up m = has m bring_up.bit

-- ---- what 01 and 02 say of the letters, byte by byte and without the table above

-- a byte is a letter, small or capital
abbrev pub Is : ℕ → ℕ → ℕ → Type 0
Is b small capital = (b ≡ small) ⊎ (b ≡ capital)

-- each letter has its own bit, and any other byte has none
pub record LetterBit (b bit : ℕ) : Type 0 where
  pub read : (bit ≡ 32) ↔ Is b 114 82
  pub write : (bit ≡ 16) ↔ Is b 119 87
  pub execute : (bit ≡ 8) ↔ Is b 120 88
  pub append : (bit ≡ 4) ↔ Is b 97 65
  pub transmute : (bit ≡ 2) ↔ Is b 116 84
  pub bring_up_is : (bit ≡ 64) ↔ Is b 98 66
  pub none : (bit ≡ 0) ↔ (Is b 114 82 ⊎ Is b 119 87 ⊎ Is b 120 88 ⊎ Is b 97 65 ⊎ Is b 116 84 ⊎ Is b 98 66 → ⊥)

-- whether any byte of a text passes a test; and whether a byte is one of a text's
abbrev pub any : (ℕ → Bool) → List ℕ → Bool
any p [] = false
any p (b ∷ bs) = p b || any p bs

abbrev pub one_of : List ℕ → ℕ → Bool
one_of text b = any (eqb b) text

-- so it is of all 256 bytes; each place allows its letters in either case, and a dash in a line and in a change; a field is read exactly where each of its
-- bytes is allowed, and then as what it has: a letter exactly where one of its bytes is that letter, and nothing else; modes are written as their letters
-- in the order r w x a t, or as a dash; which letters the sets named above are; which modes a table may store; and what is stored of a line's letters: each
-- one but b, and no other
pub record LettersAndBits : Type 0 where
  pub bits : (b : ℕ) → b < 256 → LetterBit b (bit_of b)
  pub line_bytes : (b : ℕ) → b < 256 → allowed_byte line_letters true b ≡ one_of (ascii "rwxatbRWXATB-") b
  pub change_bytes : (b : ℕ) → b < 256 → allowed_byte change_letters true b ≡ one_of (ascii "rwxatRWXAT-") b
  pub request_bytes : (b : ℕ) → b < 256 → allowed_byte request_letters false b ≡ one_of (ascii "rwxaRWXA") b
  pub read_as :
      (allowed : ℕ) (dashes : Bool) (field : List ℕ) (m : ℕ) →
      (read_modes allowed dashes field ≡ Some m) ↔ ((all (allowed_byte allowed dashes) field ≡ true) × (modes_of field ≡ m))
  pub read : (field : List ℕ) (l : ℕ) → one_of (ascii "rwxatb") l ≡ true → has (modes_of field) (bit_of l) ≡ any (λ (b : ℕ). eqb (bit_of b) (bit_of l)) field
  pub no_other : (field : List ℕ) → (modes_of field < 128) × (modes_of field % 2 ≡ 0)
  pub written : (m : ℕ) → modes_text m ≡ cond (eqb m 0) (ascii "-") (those (λ (l : ℕ). has m (bit_of l)) (ascii "rwxat"))
  pub in_a_rule : modes_text rule_letters ≡ ascii "rwxat"
  pub in_a_request : modes_text request_letters ≡ ascii "rwxa"
  pub read_execute_is : modes_text read_execute ≡ ascii "rx"
  pub write_letter_is : modes_of (ascii "w") ≡ write_letter
  pub transmute_letter_is : modes_of (ascii "t") ≡ transmute_letter
  pub known : (m : ℕ) → (known_modes m ≡ true) ↔ ((m < 64) × (m % 2 ≡ 0))
  pub stored : (m l : ℕ) → one_of (ascii "rwxat") l ≡ true → has (stored_modes m) (bit_of l) ≡ has m (bit_of l)
  pub stored_known : (m : ℕ) → known_modes (stored_modes m) ≡ true
  pub held : (field : List ℕ) → has_bring_up (modes_of field) ≡ any (one_of (ascii "bB")) field

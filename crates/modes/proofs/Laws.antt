-- Laws of the definitions of specs/Modes.antt: the table of letters, a field read from some byte on, and modes as text. Assumes nothing.
use mathlib.Core.Path.{◌≡◌, refl, sym, ap, ◌∙◌, subst}
use mathlib.Core.Bool.{Bool, true, false, cond, not, ◌&&◌, ◌||◌, beq, or-true, or-false, or_assoc, and-true, and-false}
use mathlib.Core.Logic.{◌↔◌, ◌⊎◌}
use mathlib.Core.List.{List, [], ◌∷◌, foldl, append_assoc}
use Prim.Native.Nat.{ℕ, zero, suc, ◌+◌, ◌-◌, ◌%◌, ◌<◌, ◌≤◌}
use native.Mathlib.Numerals.{add-one}
use native.Mathlib.Omega.{arith}
use lib.Dec.{eqb, leb, ltb}
use lib.Bits.{bit_and, bit_or, or_lt, or_mod, and_mod, and_zero_l, and_zero_r, and_le_l, and_le_r, or_add_and, and_shifted}
use borrow.Author.Tests.{not-true, eqb-true, eq-eqb, ne_eqb, ltb-true, lt-ltb, leb-true}
use lib.ListN.{length, take, drop, get_or, set, length-set, drop_of_length-le}
use lib.Seq.{drop-cons, drop-nil, take-length, set_split, paste, paste-zero, paste-suc}
use Rattle.search.specs.Search.{all, entries}
use Rattle.search.specs.Bytes.{ascii, written}
use Rattle.search.proofs.Laws.{no, and_both, eqb_is, or_is, not_is, number_is, all-at, entries_at, entries-length}
use Rattle.modes.specs.Modes.{letters, bring_up, bit_among, bit_of, allowed_byte, modes_of, read_modes, has, letters_in, modes_text, line_letters, change_letters, request_letters, known_modes, stored_modes, has_bring_up, Is, LetterBit, any, one_of, LettersAndBits}
use Rattle.modes.specs.Within.{bit_where}
use Rattle.modes.proofs.Bits.{single, has_or, has_and, six, five}
use Rattle.modes.specs.declared.Letter.{Letter}
use Rattle.std.proofs.Common.{Option, Some, None}

-- ---- the table of letters

-- the rule of the letters, computed once over all of them and b: each letter is a small one, and each bit is even and below 128
abbrev pub sound_letter : Letter → Bool
sound_letter l = leb 97 l.letter && leb l.letter 122 && eqb (l.bit % 2) 0 && ltb l.bit 128

letters-sound : all sound_letter (bring_up ∷ letters) ≡ true
unfolding all
letters-sound = refl

-- what stands past the table's end
abbrev pub no_letter : Letter
no_letter = record { letter = 0; bit = 0 }

abbrev pub letter_at : ℕ → Letter
letter_at i = get_or letters i no_letter

-- what the rule says of one letter, as facts
pub sound-parts : (l : Letter) → sound_letter l ≡ true → (97 ≤ l.letter) × (l.letter ≤ 122) × (l.bit % 2 ≡ 0) × (l.bit < 128)
sound-parts l e =
    let h₁ = and_both _ _ e in
    let h₂ = and_both _ _ h₁.0 in
    let h₃ = and_both _ _ h₂.0 in
    (leb-true _ _ h₃.0, leb-true _ _ h₃.1, eqb-true _ _ h₂.1, ltb-true _ _ h₁.1)

-- ---- the bit of a byte

-- what a byte adds to modes: an even number below 128
abbrev pub Read : ℕ → Type 0
Read m = (m < 128) × (m % 2 ≡ 0)

bit_or_lem : (t : Bool) (l : Letter) (n : ℕ) → sound_letter l ≡ true → Read n → Read (cond t l.bit n)
bit_or_lem true l n e h = ((sound-parts l e).3, (sound-parts l e).2)
bit_or_lem false l n e h = h

among-read : (ls : List Letter) (b : ℕ) → all sound_letter ls ≡ true → Read (bit_among ls b)
unfolding all
among-read [] b e = (omega arith, refl)
among-read (l ∷ ls) b e =
    let h = and_both (sound_letter l) (all sound_letter ls) e in
    bit_or_lem (eqb b l.letter || eqb b (l.letter - 32)) l (bit_among ls b) h.0 (among-read ls b h.1)

bit_read : (b : ℕ) → Read (bit_of b)
unfolding bit_of
bit_read b = among-read (bring_up ∷ letters) b letters-sound

-- ---- the bit of each byte, as 01 says it

-- what is true of each number below n by one test, computed at all of them
pub below : (p : ℕ → Bool) (n : ℕ) → all p (entries (λ (k : ℕ). k) n) ≡ true → (k : ℕ) → k < n → p k ≡ true
below p n e k h = rw (← entries_at (λ (j : ℕ). j) 0 n k h) (all-at p 0 (entries (λ (j : ℕ). j) n) e k (rw (entries-length (λ (j : ℕ). j) n) h))

-- a bit k is that of the letter s and its capital c, computed at all 256 bytes
abbrev either : ℕ → ℕ → ℕ → Bool
either b s c = eqb b s || eqb b c

bit_test : ℕ → ℕ → ℕ → ℕ → Bool
bit_test k s c b = beq (eqb (bit_of b) k) (either b s c)

beq_same : (s t : Bool) → beq s t ≡ true → s ≡ t
beq_same true true e = refl
beq_same true false e = absurd (no e)
beq_same false true e = absurd (no e)
beq_same false false e = refl

is-letter : (b s c : ℕ) → (either b s c ≡ true) ↔ Is b s c
is-letter b s c = or_is (eqb b s) (eqb b c) (eqb_is b s) (eqb_is b c)

bit_is : (k s c : ℕ) → all (bit_test k s c) (entries (λ (j : ℕ). j) 256) ≡ true → (b : ℕ) → b < 256 → (bit_of b ≡ k) ↔ Is b s c
unfolding bit_test
bit_is k s c e b h = number_is (bit_of b) k (either b s c) (beq_same _ _ (below (bit_test k s c) 256 e b h)) (is-letter b s c)

-- and a byte has no bit where it is no letter
abbrev any_letter : ℕ → Bool
any_letter b = either b 114 82 || (either b 119 87 || (either b 120 88 || (either b 97 65 || (either b 116 84 || either b 98 66))))

none_test : ℕ → Bool
none_test b = beq (eqb (bit_of b) 0) (not (any_letter b))

none_right : all none_test (entries (λ (j : ℕ). j) 256) ≡ true
unfolding all entries none_test bit_of
none_right = refl

no_letter-is : (b : ℕ) → b < 256 → (bit_of b ≡ 0) ↔ (Is b 114 82 ⊎ Is b 119 87 ⊎ Is b 120 88 ⊎ Is b 97 65 ⊎ Is b 116 84 ⊎ Is b 98 66 → ⊥)
unfolding none_test
no_letter-is b h =
    number_is (bit_of b) 0 (not (any_letter b)) (beq_same _ _ (below none_test 256 none_right b h))
    (not_is (any_letter b)
    (or_is (either b 114 82) _ (is-letter b 114 82) (or_is (either b 119 87) _ (is-letter b 119 87) (or_is (either b 120 88) _ (is-letter b 120 88) (or_is (either b 97 65) _ (is-letter b 97 65) (or_is (either b 116 84) _ (is-letter b 116 84) (is-letter b 98 66)))))))

letter_bit : (b : ℕ) → b < 256 → LetterBit b (bit_of b)
unfolding all entries bit_test bit_of
letter_bit b h =
    record {
      read = bit_is 32 114 82 refl b h;
      write = bit_is 16 119 87 refl b h;
      execute = bit_is 8 120 88 refl b h;
      append = bit_is 4 97 65 refl b h;
      transmute = bit_is 2 116 84 refl b h;
      bring_up_is = bit_is 64 98 66 refl b h;
      none = no_letter-is b h;
    }

-- ---- the bit of a byte as what each letter picks, joined: computed at all 256

abbrev pub picked : ℕ → ℕ → Letter → ℕ
picked small m l = bit_or m (bit_where small l)

picked_test : ℕ → Bool
picked_test b = eqb (foldl (picked (bit_or b 32)) (bit_where (bit_or b 32) bring_up) letters) (bit_of b)

picked_right : all picked_test (entries (λ (j : ℕ). j) 256) ≡ true
unfolding all entries picked_test bit_of
picked_right = refl

pub picked_all : (b : ℕ) → b < 256 → foldl (picked (bit_or b 32)) (bit_where (bit_or b 32) bring_up) letters ≡ bit_of b
unfolding picked_test
picked_all b h = eqb-true (foldl (picked (bit_or b 32)) (bit_where (bit_or b 32) bring_up) letters) (bit_of b) (below picked_test 256 picked_right b h)

pub picked_next : (small m i : ℕ) → i < 5 → foldl (picked small) m (drop i letters) ≡ foldl (picked small) (picked small m (letter_at i)) (drop (i + 1) letters)
picked_next small m i h = rw (add-one i, drop-cons letters i no_letter h)

-- ---- the bytes that each place allows, computed at all 256

allowed_test : ℕ → Bool → List ℕ → ℕ → Bool
allowed_test allowed dashes text b = beq (allowed_byte allowed dashes b) (one_of text b)

allowed_is :
    (allowed : ℕ) (dashes : Bool) (text : List ℕ) →
    all (allowed_test allowed dashes text) (entries (λ (j : ℕ). j) 256) ≡ true → (b : ℕ) → b < 256 → allowed_byte allowed dashes b ≡ one_of text b
unfolding allowed_test
allowed_is allowed dashes text e b h = beq_same _ _ (below (allowed_test allowed dashes text) 256 e b h)

-- ---- the letters of a field

abbrev pub joined : ℕ → ℕ → ℕ
joined m b = bit_or m (bit_of b)

-- the bytes' bits are single: one has the bit k where it is k
bit_alone : (k : ℕ) → all (λ (l : Letter). beq (has l.bit k) (eqb l.bit k)) (bring_up ∷ letters) ≡ true → has 0 k ≡ eqb 0 k → (b : ℕ) → has (bit_of b) k ≡ eqb (bit_of b) k
unfolding bit_of all
bit_alone k e z b = among (bring_up ∷ letters) e
  where
    by-test : (l : Letter) (n : ℕ) (t : Bool) → has l.bit k ≡ eqb l.bit k → has n k ≡ eqb n k → has (cond t l.bit n) k ≡ eqb (cond t l.bit n) k
    by-test l n true p q = p
    by-test l n false p q = q

    among : (ls : List Letter) → all (λ (l : Letter). beq (has l.bit k) (eqb l.bit k)) ls ≡ true → has (bit_among ls b) k ≡ eqb (bit_among ls b) k
    among [] e = z
    among (l ∷ ls) e =
        let h = and_both _ _ e in
        by-test l (bit_among ls b) (eqb b l.letter || eqb b (l.letter - 32)) (beq_same _ _ h.0) (among ls h.1)

-- with the modes m of the bytes before, a field has a letter where m or one of its bytes does
joined-has :
    (k : ℕ) → ((b : ℕ) → has (bit_of b) (single k) ≡ eqb (bit_of b) (single k)) → (field : List ℕ) (m : ℕ) →
    has (foldl joined m field) (single k) ≡ (has m (single k) || any (λ (b : ℕ). eqb (bit_of b) (single k)) field)
joined-has k alone [] m = sym (or-false (has m (single k)))
joined-has k alone (b ∷ bs) m =
    joined-has k alone bs (joined m b)
    ∙ rw (has_or k m (bit_of b), alone b) (or_assoc (has m (single k)) (eqb (bit_of b) (single k)) (any (λ (x : ℕ). eqb (bit_of x) (single k)) bs))

field-has : (field : List ℕ) (l : ℕ) → one_of (ascii "rwxatb") l ≡ true → has (modes_of field) (bit_of l) ≡ any (λ (b : ℕ). eqb (bit_of b) (bit_of l)) field
unfolding modes_of bit_of all
field-has field l =
    six (λ (x : ℕ). has (modes_of field) (bit_of x) ≡ any (λ (b : ℕ). eqb (bit_of b) (bit_of x)) field) l
    (joined-has 5 (bit_alone 32 refl refl) field _)
    (joined-has 4 (bit_alone 16 refl refl) field _)
    (joined-has 3 (bit_alone 8 refl refl) field _)
    (joined-has 2 (bit_alone 4 refl refl) field _)
    (joined-has 1 (bit_alone 2 refl refl) field _)
    (joined-has 6 (bit_alone 64 refl refl) field _)

-- modes that were read are even and below 128
or_read : (a b : ℕ) → Read a → Read b → Read (bit_or a b)
or_read a b h i = (or_lt 7 a b h.0 i.0, or_mod a b 1 ∙ rw (h.1, i.1))

modes-read : (field : List ℕ) (m : ℕ) → Read m → Read (foldl joined m field)
modes-read [] m h = h
modes-read (b ∷ bs) m h = modes-read bs (joined m b) (or_read m (bit_of b) h (bit_read b))

field-read : (field : List ℕ) → Read (modes_of field)
unfolding modes_of
field-read field = modes-read field _ (omega arith, refl)

-- ---- the modes that a table may store

known_test : ℕ → Bool
known_test m = not (eqb (m % 2) 0) || known_modes m

known-right : all known_test (entries (λ (j : ℕ). j) 64) ≡ true
unfolding all entries known_test known_modes
known-right = refl

-- what is known is stored as it is
pub known-stored : (m : ℕ) → known_modes m ≡ true → stored_modes m ≡ m
unfolding known_modes
known-stored m e = eqb-true (bit_and m 62) m e

known-below : (m : ℕ) → (m < 64) × (m % 2 ≡ 0) → known_modes m ≡ true
unfolding known_test
known-below m h = let e = below known_test 64 known-right m h.0 in rw h.1 at e

pub known_is : (m : ℕ) → (known_modes m ≡ true) ↔ ((m < 64) × (m % 2 ≡ 0))
known_is m = (
  λ e.
      let q = known-stored m e in
      (omega (arith, and_le_r m 62), ap (λ (x : ℕ). x % 2) (sym q) ∙ and_mod m 62 1 ∙ and_zero_r (m % 2)),
  known-below m,
)

-- they stay such where they are joined, and where some are taken away
pub known_or : (a b : ℕ) → known_modes a ≡ true → known_modes b ≡ true → known_modes (bit_or a b) ≡ true
known_or a b h i =
    let p = (known_is a).0 h in
    let q = (known_is b).0 i in
    (known_is (bit_or a b)).1 (or_lt 6 a b p.0 q.0, or_mod a b 1 ∙ rw (p.1, q.1))

-- and where they are such when joined, each of them is
module _ (a b : ℕ) (h : known_modes (bit_or a b) ≡ true) where
  pub known_of_or : (known_modes a ≡ true) × (known_modes b ≡ true)
  known_of_or =
      let p = (known_is (bit_or a b)).0 h in
      let e : bit_or (a % 2) (b % 2) ≡ 0 = sym (or_mod a b 1) ∙ p.1 in (
        (known_is a).1 (omega (arith, p.0, or_add_and a b, and_le_r a b), omega (arith, e, or_add_and (a % 2) (b % 2), and_le_r (a % 2) (b % 2))),
        (known_is b).1 (omega (arith, p.0, or_add_and a b, and_le_l a b), omega (arith, e, or_add_and (a % 2) (b % 2), and_le_l (a % 2) (b % 2))),
      )

pub known_and : (a b : ℕ) → known_modes a ≡ true → known_modes (bit_and a b) ≡ true
known_and a b h =
    let p = (known_is a).0 h in
    (known_is (bit_and a b)).1 (omega (arith, and_le_l a b, p.0), and_mod a b 1 ∙ rw p.1 (and_zero_l (b % 2)))

pub stored_known : (m : ℕ) → known_modes (stored_modes m) ≡ true
stored_known m = (known_is (bit_and m 62)).1 (omega (arith, and_le_r m 62), and_mod m 62 1 ∙ and_zero_r (m % 2))

stored-has : (m l : ℕ) → one_of (ascii "rwxat") l ≡ true → has (stored_modes m) (bit_of l) ≡ has m (bit_of l)
unfolding bit_of
stored-has m l =
    five (λ (x : ℕ). has (stored_modes m) (bit_of x) ≡ has m (bit_of x)) l (at 5 refl) (at 4 refl) (at 3 refl) (at 2 refl) (at 1 refl)
  where
    at : (k : ℕ) → has 62 (single k) ≡ true → has (bit_and m 62) (single k) ≡ has m (single k)
    at k e = has_and k m 62 ∙ rw e (and-true (has m (single k)))

-- b is in a field where one of its bytes is b or B: no other letter has its bit
rule_bit : (b : ℕ) → bit_among letters b < 64
rule_bit b =
    by-test (eqb b 114 || eqb b 82) 32 _ (omega arith) (by-test (eqb b 119 || eqb b 87) 16 _ (omega arith) (by-test (eqb b 120 || eqb b 88) 8 _ (omega arith)
    (by-test (eqb b 97 || eqb b 65) 4 _ (omega arith) (by-test (eqb b 116 || eqb b 84) 2 _ (omega arith) (omega arith)))))
  where
    by-test : (t : Bool) (k n : ℕ) → k < 64 → n < 64 → cond t k n < 64
    by-test true k n h i = h
    by-test false k n h i = i

is_b : (b : ℕ) → eqb (bit_of b) 64 ≡ one_of (ascii "bB") b
unfolding bit_of
is_b b = by-test (eqb b 98) (eqb b 66) (rule_bit b)
  where
    by-test : (s t : Bool) {n : ℕ} → n < 64 → eqb (cond (s || t) 64 n) 64 ≡ (s || (t || false))
    by-test true t h = refl
    by-test false true h = refl
    by-test false false {n} h = ne_eqb n 64 (λ e. omega arith)

any_same : (p q : ℕ → Bool) → ((b : ℕ) → p b ≡ q b) → (bs : List ℕ) → any p bs ≡ any q bs
any_same p q e [] = refl
any_same p q e (b ∷ bs) = rw (e b, any_same p q e bs)

held_b : (field : List ℕ) → has_bring_up (modes_of field) ≡ any (one_of (ascii "bB")) field
unfolding modes_of bit_of all
held_b field = joined-has 6 (bit_alone 64 refl refl) field _ ∙ any_same (λ (b : ℕ). eqb (bit_of b) 64) (one_of (ascii "bB")) is_b field

-- a field whose bytes are allowed is read as what it has
read_as :
    (allowed : ℕ) (dashes : Bool) (field : List ℕ) (m : ℕ) →
    (read_modes allowed dashes field ≡ Some m) ↔ ((all (allowed_byte allowed dashes) field ≡ true) × (modes_of field ≡ m))
unfolding read_modes
read_as allowed dashes field m = by-test (all (allowed_byte allowed dashes) field)
  where
    by-test : (b : Bool) → (cond b (Some (modes_of field)) None ≡ Some m) ↔ ((b ≡ true) × (modes_of field ≡ m))
    by-test true = (λ e. (refl, cc), λ e. ap Some e.1)
    by-test false = (λ e. let z : ◌≡◌ {A = ℕ} 0 1 = cc in absurd (omega arith), λ e. absurd (no e.0))

-- ---- THE LETTERS as 01 and 02 say them

pub letters_and_bits : LettersAndBits
unfolding modes_of modes_text allowed_byte allowed_test bit_of all entries
letters_and_bits =
    record {
      bits = letter_bit;
      line_bytes = allowed_is line_letters true (ascii "rwxatbRWXATB-") refl;
      change_bytes = allowed_is change_letters true (ascii "rwxatRWXAT-") refl;
      request_bytes = allowed_is request_letters false (ascii "rwxaRWXA") refl;
      read_as = read_as;
      read = field-has;
      no_other = field-read;
      written = λ m. refl;
      in_a_rule = refl;
      in_a_request = refl;
      read_execute_is = refl;
      write_letter_is = refl;
      transmute_letter_is = refl;
      known = known_is;
      stored = stored-has;
      stored_known = stored_known;
      held = held_b;
    }

-- ---- a field read from some byte on, with the modes m of the bytes before

unfoldable pub read_from : ℕ → Bool → ℕ → List ℕ → Option ℕ
read_from allowed dashes m rest = cond (all (allowed_byte allowed dashes) rest) (Some (foldl joined m rest)) None

pub read_all : (allowed : ℕ) (dashes : Bool) (field : List ℕ) → read_modes allowed dashes field ≡ read_from allowed dashes 0 field
unfolding read_modes modes_of read_from
read_all allowed dashes field = refl

pub read_none : (allowed : ℕ) (dashes : Bool) (m : ℕ) → read_from allowed dashes m [] ≡ Some m
unfolding read_from all
read_none allowed dashes m = refl

-- one byte of it, whose bit is `bit`, by the tests in their order
module _ (allowed : ℕ) (dashes : Bool) (m : ℕ) (field : List ℕ) (i : ℕ) (h : i < length field) (bit : ℕ) (is : bit ≡ bit_of (get_or field i 0)) where
  read-stop : allowed_byte allowed dashes (get_or field i 0) ≡ false → read_from allowed dashes m (drop i field) ≡ None
  unfolding read_from all
  read-stop e = rw (drop-cons field i 0 h, e)

  read_more : allowed_byte allowed dashes (get_or field i 0) ≡ true → read_from allowed dashes m (drop i field) ≡ read_from allowed dashes (bit_or m bit) (drop (i + 1) field)
  unfolding read_from all
  read_more e = rw (add-one i, drop-cons field i 0 h, e, is)

  pub read-letter : (bit_and bit allowed ≡ 0 → ⊥) → read_from allowed dashes m (drop i field) ≡ read_from allowed dashes (bit_or m bit) (drop (i + 1) field)
  unfolding allowed_byte
  read-letter n = read_more (rw (← is, ne_eqb (bit_and bit allowed) 0 n))

  pub read-dash : dashes ≡ true → get_or field i 0 ≡ 45 → read_from allowed dashes m (drop i field) ≡ read_from allowed dashes (bit_or m bit) (drop (i + 1) field)
  unfolding allowed_byte
  read-dash d e = read_more (rw (d, eq-eqb (get_or field i 0) 45 e) (or-true (not (eqb (bit_and (bit_of (get_or field i 0)) allowed) 0))))

  pub read_no_dash : bit_and bit allowed ≡ 0 → dashes ≡ false → read_from allowed dashes m (drop i field) ≡ None
  unfolding allowed_byte
  read_no_dash z d = read-stop (rw (← is, eq-eqb (bit_and bit allowed) 0 z, d))

  pub read-other : bit_and bit allowed ≡ 0 → (get_or field i 0 ≡ 45 → ⊥) → read_from allowed dashes m (drop i field) ≡ None
  unfolding allowed_byte
  read-other z n = read-stop (rw (← is, eq-eqb (bit_and bit allowed) 0 z, ne_eqb (get_or field i 0) 45 n) (and-false dashes))

-- modes that were read of a field in which only a rule's letters are allowed are those that a table may store
module _ (allowed : ℕ) (dashes : Bool) (few : known_modes allowed ≡ true) where
  pub byte-known : (b : ℕ) → allowed_byte allowed dashes b ≡ true → known_modes (bit_of b) ≡ true
  unfolding bit_of allowed_byte all
  byte-known b = by-test (eqb b 98) (eqb b 66) (eqb-true b 98) (eqb-true b 66)
    where
      none : bit_and 64 allowed ≡ 0
      none = and_shifted 1 6 allowed ((known_is allowed).0 few).0

      no-letter : (k : ℕ) → b ≡ k → eqb k 45 ≡ false → (not (eqb (bit_and 64 allowed) 0) || (dashes && eqb b 45)) ≡ true → {P : Type 0} → P
      no-letter k e other h = absurd (no (sym (rw (none, e, other) (and-false dashes)) ∙ h))

      by-test :
          (s t : Bool) → (s ≡ true → b ≡ 98) → (t ≡ true → b ≡ 66) →
          (not (eqb (bit_and (cond (s || t) 64 (bit_among letters b)) allowed) 0) || (dashes && eqb b 45)) ≡ true →
          known_modes (cond (s || t) 64 (bit_among letters b)) ≡ true
      by-test true t is-s is_t h = no-letter 98 (is-s refl) refl h
      by-test false true is-s is_t h = no-letter 66 (is_t refl) refl h
      by-test false false is-s is_t h = (known_is (bit_among letters b)).1 (rule_bit b, (among-read letters b (and_both (sound_letter bring_up) (all sound_letter letters) letters-sound).1).1)

  joined-known : (field : List ℕ) (m : ℕ) → all (allowed_byte allowed dashes) field ≡ true → known_modes m ≡ true → known_modes (foldl joined m field) ≡ true
  unfolding all
  joined-known [] m e h = h
  joined-known (b ∷ bs) m e h =
      let g = and_both (allowed_byte allowed dashes b) (all (allowed_byte allowed dashes) bs) e in
      joined-known bs (joined m b) g.1 (known_or m (bit_of b) h (byte-known b g.0))

  pub read_known : (field : List ℕ) (m : ℕ) → read_modes allowed dashes field ≡ Some m → known_modes m ≡ true
  unfolding read_modes modes_of known_modes
  read_known field m e = by-test (all (allowed_byte allowed dashes) field) refl e
    where
      by-test : (t : Bool) → all (allowed_byte allowed dashes) field ≡ t → cond t (Some (foldl joined 0 field)) None ≡ Some m → known_modes m ≡ true
      by-test true h q =
          let z : foldl joined 0 field ≡ m = cc in
          subst (λ (x : ℕ). known_modes x ≡ true) z (joined-known field 0 h refl)
      by-test false h q = let z : ◌≡◌ {A = ℕ} 0 1 = cc in absurd (omega arith)

-- ---- modes as text

-- whether a field was read as m
abbrev is_modes : ℕ → Option ℕ → Bool
is_modes m (Some n) = eqb n m
is_modes m None = false

reads_back : ℕ → Bool
reads_back m = not (known_modes m) || (is_modes m (read_modes line_letters true (modes_text m)) && (ltb 0 (length (modes_text m)) && not (has_bring_up (modes_of (modes_text m)))))

all-read_back : all reads_back (entries (λ (k : ℕ). k) 64) ≡ true
unfolding all entries reads_back read_modes allowed_byte modes_of bit_of modes_text known_modes
all-read_back = refl

is-modes : (m : ℕ) (a : Option ℕ) → is_modes m a ≡ true → a ≡ Some m
is-modes m (Some n) e = ap Some (eqb-true n m e)
is-modes m None e = absurd (no e)

-- modes written out are read back, and hold no b
module _ (m : ℕ) (h : known_modes m ≡ true) where
  known_back : (is_modes m (read_modes line_letters true (modes_text m)) && (ltb 0 (length (modes_text m)) && not (has_bring_up (modes_of (modes_text m))))) ≡ true
  unfolding reads_back
  known_back = let e = below reads_back 64 all-read_back m ((known_is m).0 h).0 in rw h at e

  rest_back : (ltb 0 (length (modes_text m)) && not (has_bring_up (modes_of (modes_text m)))) ≡ true
  rest_back = (and_both (is_modes m (read_modes line_letters true (modes_text m))) _ known_back).1

  pub text-read : read_modes line_letters true (modes_text m) ≡ Some m
  text-read = is-modes m (read_modes line_letters true (modes_text m)) (and_both _ _ known_back).0

  pub text-some : 1 ≤ length (modes_text m)
  text-some = ltb-true _ _ (and_both (ltb 0 (length (modes_text m))) _ rest_back).0

  pub text_no_b : has_bring_up (modes_of (modes_text m)) ≡ false
  text_no_b = not-true _ (and_both (ltb 0 (length (modes_text m))) _ rest_back).1

among-long : (ls : List Letter) (m : ℕ) → length (letters_in ls m) ≤ length ls
among-long [] m = omega arith
among-long (l ∷ ls) m = by-test (has m l.bit) (among-long ls m)
  where
    by-test : (t : Bool) → length (letters_in ls m) ≤ length ls → length (cond t (l.letter ∷ letters_in ls m) (letters_in ls m)) ≤ suc (length ls)
    by-test true h = omega arith
    by-test false h = omega arith

pub text-long : (m : ℕ) → length (modes_text m) ≤ 5
unfolding modes_text
text-long m = by-test (eqb m 0)
  where
    by-test : (t : Bool) → length (cond t (45 ∷ []) (letters_in letters m)) ≤ 5
    by-test true = omega arith
    by-test false = among-long letters m

-- a byte of modes as text: neither a blank nor a newline, and printable
abbrev pub text_byte : ℕ → Bool
text_byte b = ltb 32 b && ltb b 127

among-bytes : (ls : List Letter) (m : ℕ) → all sound_letter ls ≡ true → all text_byte (letters_in ls m) ≡ true
unfolding all
among-bytes [] m e = refl
among-bytes (l ∷ ls) m e = let h = and_both (sound_letter l) (all sound_letter ls) e in by-test (has m l.bit) (sound-parts l h.0) (among-bytes ls m h.1)
  where
    by-test : (t : Bool) → (97 ≤ l.letter) × (l.letter ≤ 122) × (l.bit % 2 ≡ 0) × (l.bit < 128) → all text_byte (letters_in ls m) ≡ true → all text_byte (cond t (l.letter ∷ letters_in ls m) (letters_in ls m)) ≡ true
    by-test true p h = rw (lt-ltb 32 l.letter (omega arith), lt-ltb l.letter 127 (omega arith)) h
    by-test false p h = h

pub text-bytes : (m : ℕ) → all text_byte (modes_text m) ≡ true
unfolding modes_text all
text-bytes m = by-test (eqb m 0)
  where
    by-test : (t : Bool) → all text_byte (cond t (45 ∷ []) (letters_in letters m)) ≡ true
    by-test true = refl
    by-test false = among-bytes letters m (and_both (sound_letter bring_up) (all sound_letter letters) letters-sound).1

pub text-byte : (m k : ℕ) → k < length (modes_text m) → (32 < get_or (modes_text m) k 0) × (get_or (modes_text m) k 0 < 127)
text-byte m k h =
    let e = and_both _ _ (all-at text_byte 0 (modes_text m) (text-bytes m) k h) in
    (ltb-true _ _ e.0, ltb-true _ _ e.1)

-- ---- the letters written from the letter i on

-- a list whose rest from n on begins with x
pub rest_some : (l : List ℕ) (n x : ℕ) (xs : List ℕ) → drop n l ≡ x ∷ xs → (n < length l) × (get_or l n 0 ≡ x) × (drop (n + 1) l ≡ xs)
rest_some l n x xs e = rw (add-one n) (by_length l n e)
  where
    by_length : (l : List ℕ) (n : ℕ) → drop n l ≡ x ∷ xs → (n < length l) × (get_or l n 0 ≡ x) × (drop (suc n) l ≡ xs)
    by_length [] n e = let q : [] ≡ x ∷ xs = sym (drop-nil n) ∙ e in let z : ◌≡◌ {A = ℕ} 0 1 = cc in absurd (omega arith)
    by_length (y ∷ ys) zero e = (omega arith, (cc), (cc))
    by_length (y ∷ ys) (suc n) e = let h = by_length ys n e in (omega arith, h.1, h.2)

pub rest-none : (l : List ℕ) (n : ℕ) → drop n l ≡ [] → length l ≤ n
rest-none [] n e = omega arith
rest-none (y ∷ ys) zero e = let z : ◌≡◌ {A = ℕ} 0 1 = cc in absurd (omega arith)
rest-none (y ∷ ys) (suc n) e = let h = rest-none ys n e in omega arith

pub text-none : modes_text 0 ≡ 45 ∷ []
unfolding modes_text
text-none = refl

pub text-letters : (m : ℕ) → (m ≡ 0 → ⊥) → modes_text m ≡ letters_in (drop 0 letters) m
unfolding modes_text
text-letters m n = rw (ne_eqb m 0 n)

module _ (m i : ℕ) (h : i < 5) where
  pub letter_in : (bit_and m (letter_at i).bit ≡ 0 → ⊥) → letters_in (drop i letters) m ≡ (letter_at i).letter ∷ letters_in (drop (i + 1) letters) m
  letter_in n = rw (add-one i, drop-cons letters i no_letter h, ne_eqb (bit_and m (letter_at i).bit) 0 n)

  pub letter_out : bit_and m (letter_at i).bit ≡ 0 → letters_in (drop i letters) m ≡ letters_in (drop (i + 1) letters) m
  letter_out e = rw (add-one i, drop-cons letters i no_letter h, eq-eqb (bit_and m (letter_at i).bit) 0 e)

-- with i letters passed and n bytes written from `at` on, out is out₀ with the first n bytes of the text, and the letters from i on are left
pub record Wrote (out₀ : List ℕ) (at m : ℕ) (out : List ℕ) (n i : ℕ) : Type 0 where
  pub passed : n ≤ i
  pub within : n ≤ length (modes_text m)
  pub kept : length out ≡ length out₀
  pub left : drop n (modes_text m) ≡ letters_in (drop i letters) m
  pub written_so_far : out ≡ paste out₀ at (modes_text m) n

module _ (out₀ : List ℕ) (at m : ℕ) where
  pub wrote_none : (m ≡ 0 → ⊥) → Wrote out₀ at m out₀ 0 0
  wrote_none h = record { passed = omega arith; within = omega arith; kept = refl; left = text-letters m h; written_so_far = paste-zero out₀ at (modes_text m) }

  module _ (room : at + 5 ≤ length out₀) (out : List ℕ) (n i : ℕ) (so_far : Wrote out₀ at m out n i) (h : i < 5) (out' : List ℕ) (n' : ℕ) where
    pub wrote-letter : (bit_and m (letter_at i).bit ≡ 0 → ⊥) → out' ≡ set out (at + n) (letter_at i).letter → n' ≡ n + 1 → Wrote out₀ at m out' n' (i + 1)
    wrote-letter has-it p q =
        let r = rest_some (modes_text m) n (letter_at i).letter (letters_in (drop (i + 1) letters) m) (so_far.left ∙ letter_in m i h has-it) in
        let fits : at + n < length out₀ = omega (arith, so_far.passed) in
        rw (p, q)
        record {
          passed = omega (arith, so_far.passed);
          within = omega (arith, r.0);
          kept = simp length-set so_far.kept;
          left = r.2;
          written_so_far = rw (so_far.written_so_far, ← r.1, add-one n) (paste-suc out₀ at (modes_text m) n 0 fits r.0);
        }

    pub wrote-other : bit_and m (letter_at i).bit ≡ 0 → out' ≡ out → n' ≡ n → Wrote out₀ at m out' n' (i + 1)
    wrote-other not-it p q =
        rw (p, q)
        record {
          passed = omega (arith, so_far.passed);
          within = so_far.within;
          kept = so_far.kept;
          left = so_far.left ∙ letter_out m i h not-it;
          written_so_far = so_far.written_so_far;
        }

  pub wrote-all : (out : List ℕ) (n i : ℕ) → 5 ≤ i → Wrote out₀ at m out n i → (n ≡ length (modes_text m)) × (out ≡ written out₀ at (modes_text m))
  unfolding written
  wrote-all out n i h w =
      let none_left = rest-none (modes_text m) n (w.left ∙ rw (drop_of_length-le letters {i = i} h)) in
      let e : n ≡ length (modes_text m) = omega (arith, w.within) in
      (e, rw (w.written_so_far, e, take-length) (append_assoc (take at out₀) (modes_text m) (drop (at + length (modes_text m)) out₀)))

  pub wrote-dash : m ≡ 0 → at < length out₀ → (1 ≡ length (modes_text m)) × (set out₀ at 45 ≡ written out₀ at (modes_text m))
  unfolding written
  wrote-dash e h = rw (e, text-none) (refl, rw (add-one at) (set_split out₀ at 45 h))

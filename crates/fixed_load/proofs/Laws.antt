-- Laws of the label places and the access bytes of a record, as the functions read and write them. Assumes nothing.
use mathlib.Core.Path.{◌≡◌, refl, sym, ap, ◌∙◌, subst}
use mathlib.Core.Bool.{Bool, true, false, cond, ◌&&◌, and-true}
use mathlib.Core.List.{List, [], ◌∷◌, ◌++◌, foldl, append_assoc, append-nil}
use Prim.Native.Nat.{ℕ, zero, suc, ◌+◌, ◌-◌, ◌/◌, ◌^◌, ◌<◌, ◌≤◌}
use native.Mathlib.Nat.{sub-zero, suc-sub-suc}
use native.Mathlib.Numerals.{add-one}
use native.Mathlib.Omega.{arith}
use lib.Bits.{bit_and, bit_or, or_zero_l}
use lib.Dec.{eqb}
use borrow.Author.Count.{below_more}
use borrow.Author.Tests.{eqb-true, eq-eqb, ne_eqb, le-leb, lt-leb, leb-true}
use lib.ListN.{length, take, drop, get_or, length-append, length-drop, take-append-drop, drop_of_length-le}
use lib.Seq.{length-take-le, get_or-append-add, get_or-drop, drop-cons, take-length, take-take, take_at, drop-append-le, drop-append-add, paste, paste-zero, paste-suc, length-paste}
use Rattle.search.specs.Search.{all, entries}
use Rattle.search.specs.Bytes.{same_bytes, written}
use Rattle.std.proofs.Common.{Some, None, Option}
use Rattle.search.proofs.Laws.{no, and_both, same_refl, same-equal, all-at, written_one, not_so}
use Rattle.refusals.specs.Refusals.{bad_label, bad_access, same_labels, bad_record, not_in_a_record}
use Rattle.alphabet.specs.Alphabet.{space, dash, well_formed}
use Rattle.modes.specs.Modes.{bit_of, allowed_byte, modes_of, read_modes, has, modes_text, known_modes}
use Rattle.modes.specs.declared.Letter.{Letter}
use Rattle.modes.proofs.Laws.{no_letter, below, joined, known_is, known_or, known-stored, byte-known}
use Rattle.fixed_load.specs.Records.{record_label, label_place, spaces, filled, place_label, is_place, five_letters, in_own_places, record_access, without_newline, in_places, record_size, record_of, fits_a_record, if_it_fits, subject_place, object_place, access_bytes, is_record, said_by, record_says, of_rule, as_line, line_from, record_from}
use Rattle.lines.specs.Lines as said
use Rattle.lines.specs.Lines.{Said, rule_of}
use Rattle.output.specs.Output.{Text, text, refused, text_answer, text_out}
use Rattle.fixed_load.specs.Within.{placed}

-- ---- spaces

pub spaces-length : (n : ℕ) → length (spaces n) ≡ n
spaces-length zero = refl
spaces-length (suc n) = ap suc (spaces-length n)

spaces-at : (n k : ℕ) → k < n → get_or (spaces n) k 0 ≡ space
spaces-at zero k h = absurd (omega arith)
spaces-at (suc n) zero h = refl
spaces-at (suc n) (suc k) h = spaces-at n k (omega arith)

spaces_are : (l : List ℕ) → ((k : ℕ) → k < length l → get_or l k 0 ≡ space) → l ≡ spaces (length l)
spaces_are [] f = refl
spaces_are (b ∷ bs) f =
    let e : b ≡ space = f 0 (omega arith) in
    let r : bs ≡ spaces (length bs) = spaces_are bs (λ k h. f (suc k) (omega arith)) in
    rw (e, ← r)

-- ---- a place and its label

-- the bytes before the first space, which stands at n
label-before :
    (p : List ℕ) (n : ℕ) → n ≤ length p → ((k : ℕ) → k < n → get_or p k 0 ≡ space → ⊥) → (n < length p → get_or p n 0 ≡ space) → place_label p ≡ take n p
unfolding place_label
label-before [] zero h f g = refl
label-before [] (suc n) h f g = absurd (omega arith)
label-before (b ∷ bs) zero h f g = rw (eq-eqb b space (g (omega arith)))
label-before (b ∷ bs) (suc n) h f g =
    rw (ne_eqb b space (f 0 (omega arith)))
    (ap (λ (x : List ℕ). b ∷ x) (label-before bs n (omega arith) (λ k i. f (suc k) (omega arith)) (λ i. g (omega arith))))

-- the label is the place's front
pub label-front : (p : List ℕ) → take (length (place_label p)) p ≡ place_label p
unfolding place_label
label-front [] = refl
label-front (b ∷ bs) = by-test (eqb b space) (label-front bs)
  where
    by-test : (t : Bool) → take (length (place_label bs)) bs ≡ place_label bs → take (length (cond t [] (b ∷ place_label bs))) (b ∷ bs) ≡ cond t [] (b ∷ place_label bs)
    by-test true e = refl
    by-test false e = ap (λ (x : List ℕ). b ∷ x) e

-- what a place that holds a label is
pub record Place (p : List ℕ) : Type 0 where
  pub some : 1 ≤ length (place_label p)
  pub short : length (place_label p) ≤ record_label
  pub is : p ≡ filled (place_label p)

pub place_is : (p : List ℕ) → is_place p ≡ true → Place p
unfolding is_place
place_is p e =
    let u = and_both _ _ e in
    let v = and_both _ _ u.1 in
    record { some = leb-true _ _ u.0; short = leb-true _ _ v.0; is = same-equal p (filled (place_label p)) v.1 }

-- behind the label stand spaces
second-part : (l x : List ℕ) (j k : ℕ) → length l + j ≡ k → get_or (l ++ x) k 0 ≡ get_or x j 0
second-part l x j k e = rw (← e) (get_or-append-add l x j 0)

filled-rest : (l : List ℕ) (k : ℕ) → length l ≤ k → k < label_place → get_or (filled l) k 0 ≡ space
unfolding filled
filled-rest l k h i = second-part l (spaces (label_place - length l)) (k - length l) k (omega arith) ∙ spaces-at (label_place - length l) (k - length l) (omega arith)

-- ---- a place read byte by byte: of its first i bytes the first n are no spaces, and the others are

pub record Scanned (p : List ℕ) (n i : ℕ) : Type 0 where
  pub few : n ≤ i
  pub label : (k : ℕ) → k < n → get_or p k 0 ≡ space → ⊥
  pub rest : (k : ℕ) → n ≤ k → k < i → get_or p k 0 ≡ space

module _ (p : List ℕ) where
  pub scanned_none : Scanned p 0 0
  scanned_none = record { few = omega arith; label = λ k h. absurd (omega arith); rest = λ k g h. absurd (omega arith) }

  module _ (n i : ℕ) (so_far : Scanned p n i) where
    pub scanned-byte : (m : ℕ) → n ≡ i → (get_or p i 0 ≡ space → ⊥) → m ≡ i + 1 → Scanned p m (i + 1)
    scanned-byte m e f q =
        rw q
        record {
          few = omega arith;
          label = below_more (λ (k : ℕ). get_or p k 0 ≡ space → ⊥) i (λ k h. so_far.label k (omega arith)) f;
          rest = λ k g h. absurd (omega arith);
        }

    pub scanned-space : (m : ℕ) → get_or p i 0 ≡ space → m ≡ n → Scanned p m (i + 1)
    scanned-space m e q =
        rw q
        record {
          few = omega (arith, so_far.few);
          label = so_far.label;
          rest = λ k g h. below_more (λ (k : ℕ). n ≤ k → get_or p k 0 ≡ space) i (λ j h g. so_far.rest j g h) (λ g. e) k h g;
        }

  module _ (long : length p ≡ label_place) where
    -- what holds of a place that isn't one can't be
    no_place : (Place p → ⊥) → None ≡ placed p
    no_place f = rw (not_so (is_place p) (λ e. f (place_is p e)))

    module _ (n i : ℕ) (so_far : Scanned p n i) where
      counted : (n < label_place → n < i) → n ≤ label_place → place_label p ≡ take n p
      counted f h = label-before p n (omega arith) so_far.label (λ g. so_far.rest n (omega arith) (f (omega arith)))

      counts : (n < label_place → n < i) → n ≤ label_place → length (place_label p) ≡ n
      counts f h = ap length (counted f h) ∙ length-take-le n p (omega arith)

      -- another byte after a space
      pub later-byte : i < label_place → (get_or p i 0 ≡ space → ⊥) → (n ≡ i → ⊥) → None ≡ placed p
      later-byte h f g =
          no_place (λ q.
          let c = counts (λ x. omega (arith, so_far.few, g)) (omega (arith, so_far.few)) in
          f (ap (λ (x : List ℕ). get_or x i 0) q.is ∙ filled-rest (place_label p) i (omega (arith, so_far.few)) h))

      module _ (all_read : label_place ≤ i) where
        -- all spaces
        pub only-spaces : n ≡ 0 → None ≡ placed p
        only-spaces e = no_place (λ q. let c = counts (λ x. omega arith) (omega arith) in absurd (omega (arith, q.some)))

        -- no space at the end
        pub too_many : n ≤ label_place → record_label < n → None ≡ placed p
        too_many m h = no_place (λ q. let c = counts (λ x. omega arith) m in absurd (omega (arith, q.short)))

        -- a label
        pub label-found : (n ≡ 0 → ⊥) → n ≤ record_label → Some n ≡ placed p
        unfolding is_place filled
        label-found f h =
            let c = counts (λ x. omega arith) (omega arith) in
            let some : 1 ≤ n = omega arith in
            let left : length (drop n p) ≡ label_place - n = length-drop n p ∙ ap (λ (x : ℕ). x - n) long in
            let rest : drop n p ≡ spaces (label_place - n) =
            spaces_are (drop n p) (λ k g. get_or-drop n p k 0 ∙ so_far.rest (n + k) (omega arith) (omega (arith, left))) ∙ ap spaces left in
            let whole : p ≡ place_label p ++ spaces (label_place - length (place_label p)) =
            sym (take-append-drop n p) ∙ rw (rest, c, counted (λ x. omega arith) (omega arith)) in
            let same : same_bytes p (place_label p ++ spaces (label_place - length (place_label p))) ≡ true = rw (← whole) (same_refl p) in
            rw (same, c, le-leb 1 n some, le-leb n record_label h)

-- ---- a line's closing newline

pub closed_none : (line : List ℕ) → length line ≡ 0 → line ≡ without_newline line
unfolding without_newline
closed_none [] e = refl
closed_none (b ∷ bs) e = absurd (omega arith)

module _ (line : List ℕ) where
  pub closed_other : (get_or line (length line - 1) 0 ≡ 10 → ⊥) → line ≡ without_newline line
  unfolding without_newline
  closed_other f = rw (ne_eqb (get_or line (length line - 1) 0) 10 f)

  pub closed_newline : (n : ℕ) → get_or line (length line - 1) 0 ≡ 10 → n ≡ length line - 1 → take n line ≡ without_newline line
  unfolding without_newline
  closed_newline n e q = rw (eq-eqb (get_or line (length line - 1) 0) 10 e, q)

-- ---- the access bytes: with i places passed, what is left is read with the modes m so far

-- the bit of place i: half of the one before, from that of r on
abbrev pub place_bit : ℕ → ℕ
place_bit i = 32 / 2 ^ i

half_test : ℕ → Bool
half_test i = eqb (place_bit i / 2) (place_bit (i + 1)) && eqb (get_or five_letters i no_letter).bit (place_bit i)

halves : all half_test (entries (λ (k : ℕ). k) 5) ≡ true
unfolding all entries half_test
halves = refl

module _ (i : ℕ) (h : i < 5) where
  pub half_bit : place_bit i / 2 ≡ place_bit (i + 1)
  unfolding half_test
  half_bit = eqb-true _ _ (and_both _ _ (below half_test 5 halves i h)).0

  five_bit : (get_or five_letters i no_letter).bit ≡ place_bit i
  unfolding half_test
  five_bit = eqb-true _ _ (and_both (eqb (place_bit i / 2) (place_bit (i + 1))) _ (below half_test 5 halves i h)).1

pub one_byte : (l : List ℕ) (i : ℕ) → i < length l → take (i + 1 - i) (drop i l) ≡ get_or l i 0 ∷ []
one_byte l i h = let e : i + 1 - i ≡ 1 = omega arith in rw (e, drop-cons l i 0 h)

-- one byte, read where only one letter is allowed
one-read : (bit b : ℕ) → read_modes bit true (b ∷ []) ≡ cond (allowed_byte bit true b) (Some (bit_of b)) None
unfolding read_modes all modes_of
one-read bit b = rw (and-true (allowed_byte bit true b), or_zero_l (bit_of b))

unfoldable pub own_from : ℕ → List Letter → List ℕ → Option ℕ
own_from m ls bs = cond (in_own_places ls bs) (Some (foldl joined m bs)) None

pub own-all : (access : List ℕ) → record_access access ≡ own_from 0 (drop 0 five_letters) (drop 0 access)
unfolding own_from modes_of
own-all access = refl

module _ (access : List ℕ) (long : length access ≡ 5) where
  pub own-end : (m : ℕ) (i : ℕ) → 5 ≤ i → own_from m (drop i five_letters) (drop i access) ≡ Some m
  unfolding own_from in_own_places
  own-end m i h = rw (drop_of_length-le access {i = i} (omega arith))

  module _ (m i : ℕ) (h : i < 5) where
    own-test : own_from m (drop i five_letters) (drop i access) ≡ cond (allowed_byte (place_bit i) true (get_or access i 0)) (own_from (joined m (get_or access i 0)) (drop (i + 1) five_letters) (drop (i + 1) access)) None
    unfolding own_from in_own_places
    own-test =
        rw (add-one i, drop-cons access i 0 (omega arith), drop-cons five_letters i no_letter h, five_bit i h)
        (by-test (allowed_byte (place_bit i) true (get_or access i 0)) (in_own_places (drop (suc i) five_letters) (drop (suc i) access)) (Some (foldl joined (joined m (get_or access i 0)) (drop (suc i) access))))
      where
        by-test : (s t : Bool) (x : Option ℕ) → cond (s && t) x None ≡ cond s (cond t x None) None
        by-test true t x = refl
        by-test false t x = refl

    module _ (bit : ℕ) (its : bit ≡ place_bit i) where
      pub own-stop : read_modes bit true (get_or access i 0 ∷ []) ≡ None → own_from m (drop i five_letters) (drop i access) ≡ None
      own-stop e =
          own-test ∙ by-test (allowed_byte (place_bit i) true (get_or access i 0)) (rw its at (sym (one-read bit (get_or access i 0)) ∙ e))
        where
          by-test : (s : Bool) → cond s (Some (bit_of (get_or access i 0))) None ≡ None → cond s (own_from (joined m (get_or access i 0)) (drop (i + 1) five_letters) (drop (i + 1) access)) None ≡ None
          by-test true q = let z : ◌≡◌ {A = ℕ} 0 1 = cc in absurd (omega arith)
          by-test false q = refl

      pub own-more : (x : ℕ) → read_modes bit true (get_or access i 0 ∷ []) ≡ Some x → own_from m (drop i five_letters) (drop i access) ≡ own_from (bit_or m x) (drop (i + 1) five_letters) (drop (i + 1) access)
      own-more x e =
          own-test ∙ by-test (allowed_byte (place_bit i) true (get_or access i 0)) (rw its at (sym (one-read bit (get_or access i 0)) ∙ e))
        where
          by-test :
              (s : Bool) → cond s (Some (bit_of (get_or access i 0))) None ≡ Some x →
              cond s (own_from (joined m (get_or access i 0)) (drop (i + 1) five_letters) (drop (i + 1) access)) None ≡ own_from (bit_or m x) (drop (i + 1) five_letters) (drop (i + 1) access)
          by-test true q = let z : bit_of (get_or access i 0) ≡ x = cc in rw (← z)
          by-test false q = let z : ◌≡◌ {A = ℕ} 0 1 = cc in absurd (omega arith)

-- ---- the access bytes written: with i places passed, i bytes of the text of the places

-- modes that hold at most the letter of one place, as text: that letter, or a dash
abbrev place_byte : ℕ → Letter → ℕ
place_byte m l = cond (has m l.bit) l.letter dash

place_test : ℕ → Bool
place_test m = all (λ (l : Letter). same_bytes (modes_text (bit_and m l.bit)) (place_byte m l ∷ [])) five_letters

all-places : all place_test (entries (λ (k : ℕ). k) 64) ≡ true
unfolding all entries place_test same_bytes modes_text
all-places = refl

pub one_place : (m i : ℕ) → m < 64 → i < 5 → modes_text (bit_and m (place_bit i)) ≡ place_byte m (get_or five_letters i no_letter) ∷ []
unfolding place_test
one_place m i h g =
    rw (← five_bit i g)
    (same-equal _ _ (all-at (λ (l : Letter). same_bytes (modes_text (bit_and m l.bit)) (place_byte m l ∷ [])) no_letter five_letters (below place_test 64 all-places m h) i g))

places-length : (ls : List Letter) (m : ℕ) → length (in_places ls m) ≡ length ls
places-length [] m = refl
places-length (l ∷ ls) m = ap suc (places-length ls m)

places-at : (ls : List Letter) (m i : ℕ) → i < length ls → get_or (in_places ls m) i 0 ≡ place_byte m (get_or ls i no_letter)
places-at [] m i h = absurd (omega arith)
places-at (l ∷ ls) m zero h = refl
places-at (l ∷ ls) m (suc i) h = places-at ls m i (omega arith)

module _ (out₀ : List ℕ) (at m : ℕ) where
  pub placed-none : out₀ ≡ paste out₀ at (in_places five_letters m) 0
  placed-none = paste-zero out₀ at (in_places five_letters m)

  pub placed-more :
      (out : List ℕ) (i : ℕ) → i < 5 → at + 9 ≤ length out₀ → known_modes m ≡ true → out ≡ paste out₀ at (in_places five_letters m) i →
      written out (at + i) (modes_text (bit_and m (place_bit i))) ≡ paste out₀ at (in_places five_letters m) (i + 1)
  placed-more out i h room known e =
      let long = places-length five_letters m in
      let kept : length out ≡ length out₀ = ap length e ∙ length-paste out₀ at (in_places five_letters m) i (omega arith) (omega (arith, long)) in
      let byte = one_place m i ((known_is m).0 known).0 h ∙ ap (λ (b : ℕ). b ∷ []) (sym (places-at five_letters m i h)) in
      rw byte
      (sym (written_one out (at + i) (get_or (in_places five_letters m) i 0) (omega (arith, kept)))
      ∙ rw (e, add-one i) (paste-suc out₀ at (in_places five_letters m) i 0 (omega arith) (omega (arith, long))))

  pub placed-all : (out : List ℕ) (i : ℕ) → 5 ≤ i → i ≤ 5 → out ≡ paste out₀ at (in_places five_letters m) i → out ≡ written out₀ at (in_places five_letters m)
  unfolding written
  placed-all out i h g e =
      let z : i ≡ length (in_places five_letters m) = omega (arith, places-length five_letters m) in
      rw (e, z, take-length) (append_assoc (take at out₀) (in_places five_letters m) (drop (at + length (in_places five_letters m)) out₀))

-- ---- a rule put into a record

module _ (s o : List ℕ) (m : ℕ) where
  pub long-subject : record_label < length s → if_it_fits s o m ≡ refused not_in_a_record
  unfolding fits_a_record
  long-subject h = rw (lt-leb (length s) record_label h)

  pub long-object : length s ≤ record_label → record_label < length o → if_it_fits s o m ≡ refused not_in_a_record
  unfolding fits_a_record
  long-object h i = rw (le-leb (length s) record_label h, lt-leb (length o) record_label i)

  pub it_fits : length s ≤ record_label → length o ≤ record_label → if_it_fits s o m ≡ text (record_of s o m)
  unfolding fits_a_record
  it_fits h i = rw (le-leb (length s) record_label h, le-leb (length o) record_label i)

-- one text written over the front of another, and behind a first part
spaces-drop : (n k : ℕ) → k ≤ n → drop k (spaces n) ≡ spaces (n - k)
spaces-drop n zero h = ap spaces (sym (sub-zero n))
spaces-drop zero (suc k) h = absurd (omega arith)
spaces-drop (suc n) (suc k) h = spaces-drop n k (omega arith) ∙ ap spaces (sym (suc-sub-suc n k))

written-front : (n : ℕ) (l rest : List ℕ) → length l ≤ n → written (spaces n ++ rest) 0 l ≡ (l ++ spaces (n - length l)) ++ rest
unfolding written
written-front n l rest h =
    let k : 0 + length l ≡ length l = omega arith in
    rw (k, drop-append-le (length l) (spaces n) rest (omega (arith, spaces-length n)), spaces-drop n (length l) h)
    (sym (append_assoc l (spaces (n - length l)) rest))

written_behind : (a b l : List ℕ) (n : ℕ) → length a ≡ n → written (a ++ b) n l ≡ a ++ written b 0 l
unfolding written
written_behind a b l n e =
    let k : 0 + length l ≡ length l = omega arith in
    rw (take_at a b n e, k) (ap (λ (x : List ℕ). a ++ (l ++ x)) (ap (λ (j : ℕ). drop (j + length l) (a ++ b)) (sym e) ∙ drop-append-add a b (length l)))

pub filled-length : (l : List ℕ) → length l ≤ record_label → length (filled l) ≡ label_place
unfolding filled
filled-length l h = simp length-append (omega (arith, spaces-length (label_place - length l)))

-- spaces with the two labels and the access bytes written over them
pub record_built :
    (s o : List ℕ) (m : ℕ) (x y z : List ℕ) →
    length s ≤ record_label →
    length o ≤ record_label →
    x ≡ written (spaces 57) 0 s →
    y ≡ written x label_place o →
    z ≡ written y 48 (in_places five_letters m) →
    take record_size z ≡ record_of s o m
unfolding record_of filled
record_built s o m x y z h i a b c =
    let p = in_places five_letters m in
    let five = places-length five_letters m in
    let x-is : x ≡ filled s ++ (spaces label_place ++ spaces 9) = a ∙ written-front label_place s (spaces label_place ++ spaces 9) (omega arith) in
    let y-is : y ≡ (filled s ++ filled o) ++ spaces 9 =
    b ∙ ap (λ (v : List ℕ). written v label_place o) x-is
    ∙ written_behind (filled s) (spaces label_place ++ spaces 9) o label_place (filled-length s h)
    ∙ ap (λ (v : List ℕ). filled s ++ v) (written-front label_place o (spaces 9) (omega arith))
    ∙ sym (append_assoc (filled s) (filled o) (spaces 9)) in
    let both : length (filled s ++ filled o) ≡ 48 = length-append (filled s) (filled o) ∙ omega (arith, filled-length s h, filled-length o i) in
    let z-is : z ≡ ((filled s ++ filled o) ++ p) ++ spaces (9 - length p) =
    c ∙ ap (λ (v : List ℕ). written v 48 p) y-is ∙ written_behind (filled s ++ filled o) (spaces 9) p 48 both
    ∙ ap (λ (v : List ℕ). (filled s ++ filled o) ++ v) (last-part p (omega (arith, five)))
    ∙ sym (append_assoc (filled s ++ filled o) p (spaces (9 - length p))) in
    let long : length ((filled s ++ filled o) ++ p) ≡ record_size = length-append (filled s ++ filled o) p ∙ omega (arith, both, five) in
    ap (take record_size) z-is ∙ take_at ((filled s ++ filled o) ++ p) (spaces (9 - length p)) record_size long ∙ append_assoc (filled s) (filled o) p
  where
    last-part : (l : List ℕ) → length l ≤ 9 → written (spaces 9) 0 l ≡ l ++ spaces (9 - length l)
    last-part l h = written-front 9 l [] h ∙ append-nil (l ++ spaces (9 - length l))

-- ---- what a line says, turned into a record

module _ (line text : List ℕ) (taken-off : text ≡ without_newline line) where
  pub from-line : (x : Said) → rule_of text ≡ x → record_from line ≡ of_rule if_it_fits x
  unfolding record_from
  from-line x e = ap (λ (l : List ℕ). of_rule if_it_fits (rule_of l)) (sym taken-off) ∙ ap (of_rule if_it_fits) e

-- a text of an answer, and of the output afterwards
pub as_answered : (x y : Text) (out : List ℕ) → x ≡ y → (text_answer y out ≡ text_answer x out) × (text_out y out ≡ text_out x out)
as_answered x y out e = (ap (λ (t : Text). text_answer t out) (sym e), ap (λ (t : Text). text_out t out) (sym e))

-- ---- the modes of access bytes in their own places are such as a table may store

own-known :
    (ls : List Letter) (a : List ℕ) (m : ℕ) →
    all (λ (l : Letter). known_modes l.bit) ls ≡ true → in_own_places ls a ≡ true → known_modes m ≡ true → known_modes (foldl joined m a) ≡ true
unfolding all in_own_places
own-known [] [] m k own h = h
own-known [] (b ∷ bs) m k own h = absurd (no own)
own-known (l ∷ ls) [] m k own h = h
own-known (l ∷ ls) (b ∷ bs) m k own h =
    let f = and_both (known_modes l.bit) (all (λ (x : Letter). known_modes x.bit) ls) k in
    let o = and_both (allowed_byte l.bit true b) (in_own_places ls bs) own in
    own-known ls bs (joined m b) f.1 o.1 (known_or m (bit_of b) h (byte-known l.bit true f.0 b o.0))

pub own-modes : (a : List ℕ) → in_own_places five_letters a ≡ true → known_modes (modes_of a) ≡ true
unfolding modes_of known_modes all
own-modes a own = own-known five_letters a 0 refl own refl

own-access : (a : List ℕ) (m : ℕ) → record_access a ≡ Some m → known_modes m ≡ true
own-access a m e = by-test (in_own_places five_letters a) refl e
  where
    by-test : (t : Bool) → in_own_places five_letters a ≡ t → cond t (Some (modes_of a)) None ≡ Some m → known_modes m ≡ true
    by-test true own q = let z : modes_of a ≡ m = cc in subst (λ (x : ℕ). known_modes x ≡ true) z (own-modes a own)
    by-test false own q = let z : ◌≡◌ {A = ℕ} 0 1 = cc in absurd (omega arith)

-- ---- what two labels and the access bytes say

module _ (s o access : List ℕ) where
  pub bad_subject : well_formed s ≡ false → said_by s o access ≡ said.refused bad_label
  bad_subject e = rw e

  module _ (f : well_formed s ≡ true) where
    pub bad-object : well_formed o ≡ false → said_by s o access ≡ said.refused bad_label
    bad-object e = rw (f, e)

    module _ (g : well_formed o ≡ true) where
      pub bad-access : record_access access ≡ None → said_by s o access ≡ said.refused bad_access
      bad-access e = rw (f, g, e)

      pub by-labels : (m : ℕ) → record_access access ≡ Some m → (t : Bool) → same_bytes s o ≡ t → said_by s o access ≡ cond t (said.refused same_labels) (said.rule s o m)
      by-labels m e t q = rw (f, g, e, q, known-stored m (own-access access m e))

-- ---- what a record says

module _ (r : List ℕ) where
  pub wrong_size : (length r ≡ record_size → ⊥) → line_from r ≡ refused bad_record
  unfolding line_from record_says is_record
  wrong_size f = rw (ne_eqb (length r) record_size f)

  unplaced : (p : List ℕ) → placed p ≡ None → is_place p ≡ false
  unplaced p = by-test (is_place p)
    where
      by-test : (t : Bool) → cond t (Some (length (place_label p))) None ≡ None → t ≡ false
      by-test true q = let z : ◌≡◌ {A = ℕ} 0 1 = cc in absurd (omega arith)
      by-test false q = refl

  is-placed : (p : List ℕ) (n : ℕ) → placed p ≡ Some n → (is_place p ≡ true) × (length (place_label p) ≡ n)
  is-placed p n = by-test (is_place p)
    where
      by-test : (t : Bool) → cond t (Some (length (place_label p))) None ≡ Some n → (t ≡ true) × (length (place_label p) ≡ n)
      by-test true q = (refl, (cc))
      by-test false q = let z : ◌≡◌ {A = ℕ} 0 1 = cc in absurd (omega arith)

  module _ (size : length r ≡ record_size) where
    pub no_subject : placed (subject_place r) ≡ None → line_from r ≡ refused bad_record
    unfolding line_from record_says is_record
    no_subject e = rw (eq-eqb (length r) record_size size, unplaced (subject_place r) e)

    module _ (n : ℕ) (at_n : placed (subject_place r) ≡ Some n) where
      pub no_object : placed (object_place r) ≡ None → line_from r ≡ refused bad_record
      unfolding line_from record_says is_record
      no_object e = rw (eq-eqb (length r) record_size size, (is-placed (subject_place r) n at_n).0, unplaced (object_place r) e)

      pub subject-short : n ≤ record_label
      subject-short =
          let h = is-placed (subject_place r) n at_n in
          let q = (place_is (subject_place r) h.0).short in
          omega (arith, h.1)

      module _ (k : ℕ) (at-k : placed (object_place r) ≡ Some k) where
        pub object-short : k ≤ record_label
        object-short =
            let h = is-placed (object_place r) k at-k in
            let q = (place_is (object_place r) h.0).short in
            omega (arith, h.1)

        -- the labels, as they stand in the record
        pub from_places :
            (s o access : List ℕ) → s ≡ take n r → o ≡ take k (drop label_place r) → access ≡ access_bytes r →
            line_from r ≡ as_line (said_by s o access)
        unfolding line_from record_says is_record
        from_places s o access a b c =
            let h = is-placed (subject_place r) n at_n in
            let i = is-placed (object_place r) k at-k in
            let u : place_label (subject_place r) ≡ s =
            sym (label-front (subject_place r)) ∙ ap (λ (j : ℕ). take j (subject_place r)) h.1 ∙ take-take n label_place r (omega (arith, subject-short)) ∙ sym a in
            let v : place_label (object_place r) ≡ o =
            sym (label-front (object_place r)) ∙ ap (λ (j : ℕ). take j (object_place r)) i.1
            ∙ take-take k label_place (drop label_place r) (omega (arith, object-short)) ∙ sym b in
            rw (eq-eqb (length r) record_size size, h.0, i.0, u, v, c)

-- The fields of a line are the longest runs of bytes that are no blanks. Assumes nothing.
use mathlib.Core.Path.{◌≡◌, refl, sym, ap, ◌∙◌, subst}
use mathlib.Core.Bool.{Bool, true, false, cond}
use mathlib.Core.List.{List, [], ◌∷◌, ◌++◌, append-nil}
use Prim.Native.Nat.{ℕ, zero, suc, ◌≤◌, suc-le-suc}
use native.Mathlib.Nat.{le_of_suc-le-suc}
use native.Mathlib.Omega.{arith}
use lib.ListN.{length, get_or}
use borrow.Author.Tests.{not-true, not-false}
use Rattle.search.proofs.Laws.{no, not_so}
use Rattle.alphabet.specs.Alphabet.{is_blank, Blank, onto, fields, Blanks, NoBlanks, Cut, FieldsOfALine}
use Rattle.alphabet.proofs.Laws.{blank-is, opens, no_fields, fields_cons}

is-blank : (b : ℕ) → is_blank b ≡ true → Blank b
is-blank b e = (blank-is b).0 e

no_blank : (b : ℕ) → is_blank b ≡ false → Blank b → ⊥
no_blank b e h = no (sym e ∙ (blank-is b).1 h)

pub unblank : (b : ℕ) → (Blank b → ⊥) → is_blank b ≡ false
unblank b h = not_so (is_blank b) (λ e. h (is-blank b e))

-- lists of blanks and of other bytes, by their first byte
no_bytes : Blanks []
no_bytes k h = absurd (omega arith)

blanks_cons : (b : ℕ) (bs : List ℕ) → Blank b → Blanks bs → Blanks (b ∷ bs)
blanks_cons b bs x h zero i = x
blanks_cons b bs x h (suc k) i = h k (le_of_suc-le-suc i)

bytes_cons : (b : ℕ) (bs : List ℕ) → (Blank b → ⊥) → NoBlanks bs → NoBlanks (b ∷ bs)
bytes_cons b bs x h zero i = x
bytes_cons b bs x h (suc k) i = h k (le_of_suc-le-suc i)

one_byte : (b : ℕ) → (Blank b → ⊥) → NoBlanks (b ∷ [])
one_byte b x = bytes_cons b [] x (λ k h. absurd (omega arith))

-- ---- the fields are a cut

-- a blank in front
cut_blank : (b : ℕ) {l : List ℕ} {fs : List (List ℕ)} → Blank b → Cut l fs → Cut (b ∷ l) fs
cut_blank b x (Cut.blanks bs h) = Cut.blanks (b ∷ bs) (blanks_cons b bs x h)
cut_blank b x (Cut.field bs f rest fs h some bytes ends c) = Cut.field (b ∷ bs) f rest fs (blanks_cons b bs x h) some bytes ends c

-- a byte in front of a line that begins with a field joins it
cut_joins : (b : ℕ) {l : List ℕ} {fs : List (List ℕ)} → (Blank b → ⊥) → opens l ≡ true → Cut l fs → Cut (b ∷ l) (onto b fs)
cut_joins b x o (Cut.blanks bs h) = none bs h o
  where
    none : (bs : List ℕ) → Blanks bs → opens bs ≡ true → Cut (b ∷ bs) (onto b [])
    none [] h o = absurd (no o)
    none (y ∷ ys) h o = absurd (no_blank y (not-true (is_blank y) o) (h zero (omega arith)))
cut_joins b x o (Cut.field bs f rest fs h some bytes ends c) = joined bs h o
  where
    joined : (bs : List ℕ) → Blanks bs → opens (bs ++ (f ++ rest)) ≡ true → Cut (b ∷ (bs ++ (f ++ rest))) ((b ∷ f) ∷ fs)
    joined [] h o = Cut.field [] (b ∷ f) rest fs no_bytes (omega arith) (bytes_cons b f x bytes) ends c
    joined (y ∷ ys) h o = absurd (no_blank y (not-true (is_blank y) o) (h zero (omega arith)))

-- a byte in front of any other line is a field
ends_with : (l : List ℕ) → opens l ≡ false → 1 ≤ length l → Blank (get_or l 0 0)
ends_with [] o h = absurd (omega arith)
ends_with (y ∷ ys) o h = is-blank y (not-false (is_blank y) o)

cut_begins : (b : ℕ) {l : List ℕ} {fs : List (List ℕ)} → (Blank b → ⊥) → opens l ≡ false → Cut l fs → Cut (b ∷ l) ((b ∷ []) ∷ fs)
cut_begins b {l} {fs} x o c = Cut.field [] (b ∷ []) l fs no_bytes (omega arith) (one_byte b x) (λ h. ends_with l o (omega arith)) c

pub fields_cut_line : (line : List ℕ) → Cut line (fields line)
fields_cut_line [] = rw no_fields (Cut.blanks [] no_bytes)
fields_cut_line (b ∷ bs) = rw (fields_cons b bs) (by-test (is_blank b) refl (opens bs) refl (fields_cut_line bs))
  where
    by-test :
        (t : Bool) →
        is_blank b ≡ t →
        (o : Bool) →
        opens bs ≡ o →
        Cut bs (fields bs) →
        Cut (b ∷ bs) (cond t (fields bs) (cond o (onto b (fields bs)) ((b ∷ []) ∷ fields bs)))
    by-test true e o q c = cut_blank b (is-blank b e) c
    by-test false e true q c = cut_joins b (no_blank b e) q c
    by-test false e false q c = cut_begins b (no_blank b e) q c

-- ---- there is no other cut

fields_of_blanks : (bs l : List ℕ) → Blanks bs → fields (bs ++ l) ≡ fields l
fields_of_blanks [] l h = refl
fields_of_blanks (b ∷ bs) l h =
    fields_cons b (bs ++ l)
    ∙ rw ((blank-is b).1 (h zero (omega arith))) (fields_of_blanks bs l (λ k i. h (suc k) (suc-le-suc i)))

pub closed : (rest : List ℕ) → (1 ≤ length rest → Blank (get_or rest 0 0)) → opens rest ≡ false
closed [] ends = refl
closed (y ∷ ys) ends = rw ((blank-is y).1 (ends (omega arith)))

fields_of_field :
    (f rest : List ℕ) →
    1 ≤ length f →
    NoBlanks f →
    (1 ≤ length rest → Blank (get_or rest 0 0)) →
    fields (f ++ rest) ≡ f ∷ fields rest
fields_of_field [] rest some h ends = absurd (omega arith)
fields_of_field (x ∷ []) rest some h ends = fields_cons x rest ∙ rw (unblank x (h zero (omega arith)), closed rest ends)
fields_of_field (x ∷ y ∷ f) rest some h ends =
    fields_cons x (y ∷ (f ++ rest))
    ∙ rw (unblank x (h zero (omega arith)), unblank y (h 1 (omega arith)))
    (ap (onto x) (fields_of_field (y ∷ f) rest (omega arith) (λ k i. h (suc k) (suc-le-suc i)) ends))

cut_is-fields : {line : List ℕ} {fs : List (List ℕ)} → Cut line fs → fields line ≡ fs
cut_is-fields (Cut.blanks bs h) = ap fields (sym (append-nil bs)) ∙ fields_of_blanks bs [] h ∙ no_fields
cut_is-fields (Cut.field bs f rest fs h some bytes ends c) =
    fields_of_blanks bs (f ++ rest) h ∙ fields_of_field f rest some bytes ends ∙ ap (λ (ps : List (List ℕ)). f ∷ ps) (cut_is-fields c)

pub fields_of_a_line : FieldsOfALine
fields_of_a_line line fs = (λ e. subst (λ (ps : List (List ℕ)). Cut line ps) e (fields_cut_line line), λ c. cut_is-fields c)

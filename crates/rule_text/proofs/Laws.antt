-- The text of a rule: written to the front of an output, and read again. Assumes nothing.
use mathlib.Core.Path.{◌≡◌, refl, sym, ap, ◌∙◌}
use mathlib.Core.Bool.{Bool, true, false, not}
use mathlib.Core.List.{List, [], ◌∷◌, ◌++◌, append_assoc}
use Prim.Native.Nat.{ℕ, ◌+◌, ◌<◌, ◌≤◌}
use native.Mathlib.Omega.{arith}
use borrow.Author.Tests.{ne_eqb, le-ltb, not-true}
use lib.ListN.{length, get_or, set, length-append}
use Rattle.refusals.specs.Refusals.{output_too_short}
use Rattle.search.specs.Search.{all, those}
use Rattle.search.specs.Bytes.{written}
use Rattle.search.proofs.Laws.{and_both, all_append, all-by}
use Rattle.alphabet.specs.Alphabet.{space, newline, is_newline, is_blank, well_formed, line_limit, onto, parts, has_byte, fields}
use Rattle.alphabet.proofs.Laws.{label-unblank, label_no_newline, formed-is}
use Rattle.modes.specs.Modes.{modes_text, known_modes}
use Rattle.modes.proofs.Laws.{known-stored, text-read, text-some, text-long, text-byte}
use Rattle.modes.proofs.Laws as modes
use Rattle.lines.specs.Lines.{rule, rule_by, rule_of, bring_up_in}
use Rattle.lines.proofs.Laws.{Taken}
use Rattle.output.specs.Output.{put_answer, put_out}
use Rattle.std.proofs.Common.{Ok, Err}
use Rattle.output.proofs.Laws.{fits-answer, fits_out, short-answer, short-out, Front, front-more, front-one}
use Rattle.rule_text.specs.RuleText.{line_of, text_of}

-- ---- a rule's text at the front of a buffer

text-length : (s o m : List ℕ) → length (text_of s o m) ≡ length s + 1 + length o + 1 + length m + 1
unfolding text_of
text-length s o m = simp length-append (omega arith)

module _ (out s o m : List ℕ) where
  pub put-short : length out < length s + 1 + length o + 1 + length m + 1 → (Err output_too_short ≡ put_answer (text_of s o m) out) × (out ≡ put_out (text_of s o m) out)
  put-short h =
      let i : length out < length (text_of s o m) = omega (arith, text-length s o m) in
      (sym (short-answer (text_of s o m) out i), sym (short-out (text_of s o m) out i))

  module _ (room : length s + 1 + length o + 1 + length m + 1 ≤ length out) where
    fits : length (text_of s o m) ≤ length out
    fits = omega (arith, text-length s o m)

    pub put-answer : Ok (length s + 1 + length o + 1 + length m + 1) ≡ put_answer (text_of s o m) out
    put-answer = ap Ok (sym (text-length s o m)) ∙ sym (fits-answer (text_of s o m) out fits)

    text-is : (((((s ++ (32 ∷ [])) ++ o) ++ (32 ∷ [])) ++ m) ++ (10 ∷ [])) ≡ text_of s o m
    unfolding text_of
    text-is = simp append_assoc

    -- the three parts, each behind the one before and its space, and the newline
    pub put-out :
        (x y z : List ℕ) →
        x ≡ written out 0 s →
        y ≡ written (set x (length s) 32) (length s + 1) o →
        z ≡ written (set y (length s + 1 + length o) 32) (length s + 1 + length o + 1) m →
        set z (length s + 1 + length o + 1 + length m) 10 ≡ put_out (text_of s o m) out
    put-out x y z a b c =
        let f₀ : Front out x s (length s) = record { same = a; long = refl } in
        let f₁ = front-one f₀ 32 (omega arith) in
        let f₂ = front-more f₁ y o b (omega arith) in
        let f₃ = front-one f₂ 32 (omega arith) in
        let f₄ = front-more f₃ z m c (omega arith) in
        (front-one f₄ 10 (omega arith)).same ∙ ap (written out 0) text-is ∙ sym (fits_out (text_of s o m) out fits)

-- ---- the fields of a rule's line

abbrev no_blank : ℕ → Bool
no_blank b = not (is_blank b)

abbrev pub no_newlines : ℕ → Bool
no_newlines b = not (is_newline b)

-- a word can stand as a field: it has a byte, and none of its bytes is a blank
pub record Word (w : List ℕ) : Type 0 where
  pub has_a_byte : 1 ≤ length w
  pub unblank : all no_blank w ≡ true

-- bytes that are no blanks, a space and a rest: cut at the space; and with no rest
cut_space : (w rest : List ℕ) → all no_blank w ≡ true → parts (w ++ (space ∷ rest)) ≡ w ∷ parts rest
unfolding all is_blank
cut_space [] rest e = refl
cut_space (b ∷ bs) rest e = let u = and_both (no_blank b) (all no_blank bs) e in rw (not-true (is_blank b) u.0) (ap (onto b) (cut_space bs rest u.1))

cut_last : (w : List ℕ) → all no_blank w ≡ true → parts w ≡ w ∷ []
unfolding all
cut_last [] e = refl
cut_last (b ∷ bs) e = let u = and_both (no_blank b) (all no_blank bs) e in rw (not-true (is_blank b) u.0) (ap (onto b) (cut_last bs u.1))

those_word : (w : List ℕ) (ps : List (List ℕ)) → 1 ≤ length w → those has_byte (w ∷ ps) ≡ w ∷ those has_byte ps
those_word [] ps h = absurd (omega arith)
those_word (b ∷ bs) ps h = refl

fields_word : (w rest : List ℕ) → Word w → fields (w ++ (space ∷ rest)) ≡ w ∷ fields rest
unfolding fields
fields_word w rest f = ap (those has_byte) (cut_space w rest f.unblank) ∙ those_word w (parts rest) f.has_a_byte

fields-last : (w : List ℕ) → Word w → fields w ≡ w ∷ []
unfolding fields
fields-last w f = ap (those has_byte) (cut_last w f.unblank) ∙ those_word w [] f.has_a_byte

pub line-fields : (s o m : List ℕ) → Word s → Word o → Word m → fields (line_of s o m) ≡ s ∷ o ∷ m ∷ []
line-fields s o m a b c = fields_word s (o ++ (space ∷ m)) a ∙ ap (λ (fs : List (List ℕ)). s ∷ fs) (fields_word o m b ∙ ap (λ (fs : List (List ℕ)). o ∷ fs) (fields-last m c))

-- a well-formed label is a word, and so are modes as text; neither has a newline
pub label_word : (l : List ℕ) → well_formed l ≡ true → Word l
label_word l e =
    let f = formed-is l e in
    record { has_a_byte = f.0; unblank = all-by no_blank 0 l (λ k h. ap not (label-unblank (get_or l k 0) (f.2 k h))) }

pub label-plain : (l : List ℕ) → well_formed l ≡ true → all no_newlines l ≡ true
label-plain l e = all-by no_newlines 0 l (λ k h. ap not (label_no_newline (get_or l k 0) ((formed-is l e).2 k h)))

pub modes_word : (m : ℕ) → known_modes m ≡ true → Word (modes_text m)
unfolding is_blank
modes_word m h = record { has_a_byte = text-some m h; unblank = all-by no_blank 0 (modes_text m) (λ k i. unblank (get_or (modes_text m) k 0) (text-byte m k i).0) }
  where
    unblank : (b : ℕ) → 32 < b → not (is_blank b) ≡ true
    unblank b q = rw (ne_eqb b 32 (λ z. omega arith), ne_eqb b 9 (λ z. omega arith))

pub modes-plain : (m : ℕ) → all no_newlines (modes_text m) ≡ true
modes-plain m = all-by no_newlines 0 (modes_text m) (λ k i. let h = (text-byte m k i).0 in ap not (ne_eqb (get_or (modes_text m) k 0) newline (λ z. omega arith)))

-- A RULE'S LINE, of two labels that a rule can have and of known modes
module _ (s o : List ℕ) (m : ℕ) (taken : Taken s o) (known : known_modes m ≡ true) where
  abbrev line : List ℕ
  line = line_of s o (modes_text m)

  -- it has no newline, and at most 517 bytes
  pub text-plain : all no_newlines line ≡ true
  unfolding all
  text-plain =
      all_append no_newlines s (space ∷ (o ++ (space ∷ modes_text m))) (label-plain s taken.subject)
      (all_append no_newlines o (space ∷ modes_text m) (label-plain o taken.object) (modes-plain m))

  pub text-short : length line ≤ 517
  text-short = simp length-append (omega (arith, (formed-is s taken.subject).1, (formed-is o taken.object).1, text-long m))

  -- and read again it says the rule
  pub text_says_lem : rule_of line ≡ rule s o m
  unfolding rule_of rule_by
  text_says_lem =
      rw (
        le-ltb line_limit (length line) (omega (arith, text-short)),
        line-fields s o (modes_text m) (label_word s taken.subject) (label_word o taken.object) (modes_word m known),
        taken.subject,
        taken.object,
        text-read m known,
        taken.apart,
        known-stored m known,
      )

  -- and holds no b
  pub text_no_b : bring_up_in line ≡ false
  unfolding bring_up_in
  text_no_b =
      rw (line-fields s o (modes_text m) (label_word s taken.subject) (label_word o taken.object) (modes_word m known)) (modes.text_no_b m known)

-- A question line by its fields, as the reader gives them. Assumes nothing.
use mathlib.Core.Path.{◌≡◌, sym, ap, ◌∙◌}
use mathlib.Core.Bool.{Bool, true, false, cond}
use mathlib.Core.List.{List, [], ◌∷◌}
use Prim.Native.Nat.{ℕ}
use lib.ListN.{drop}
use Rattle.search.specs.Bytes.{same_bytes}
use Rattle.refusals.specs.Refusals.{wrong_fields}
use Rattle.alphabet.specs.Alphabet.{fields}
use Rattle.alphabet.specs.Within.{field_at, part}
use Rattle.alphabet.specs.declared.Field.TheVariants.{Part, End}
use Rattle.alphabet.proofs.Laws.{field-some, field-none}
use Rattle.access.specs.declared.Answer.{Answer}
use Rattle.access.specs.declared.Answer.TheVariants.{Refused}
use Rattle.program.specs.Program.{asked}

module _ (ask : List ℕ → List ℕ → List ℕ → Bool → Answer) (line : List ℕ) where
  pub asks_none : field_at line 0 ≡ End → Refused wrong_fields ≡ asked ask (fields line)
  asks_none x = sym (ap (asked ask) (field-none line 0 x))

  module _ {a b : ℕ} (p : field_at line 0 ≡ Part a b) where
    one : fields line ≡ part line a b ∷ fields (drop b line)
    one = (field-some line 0 a b p).first_of

    pub asks-one : field_at line b ≡ End → Refused wrong_fields ≡ asked ask (fields line)
    asks-one x = sym (ap (asked ask) (one ∙ ap (λ (l : List (List ℕ)). part line a b ∷ l) (field-none line b x)))

    module _ {c d : ℕ} (q : field_at line b ≡ Part c d) where
      two : fields line ≡ part line a b ∷ part line c d ∷ fields (drop d line)
      two = one ∙ ap (λ (l : List (List ℕ)). part line a b ∷ l) (field-some line b c d q).first_of

      pub asks_two : field_at line d ≡ End → Refused wrong_fields ≡ asked ask (fields line)
      asks_two x = sym (ap (asked ask) (two ∙ ap (λ (l : List (List ℕ)). part line a b ∷ part line c d ∷ l) (field-none line d x)))

      module _ {e f : ℕ} (r : field_at line d ≡ Part e f) where
        abbrev before : List (List ℕ) → List (List ℕ)
        before l = part line a b ∷ part line c d ∷ part line e f ∷ l

        three : fields line ≡ before (fields (drop f line))
        three = two ∙ ap (λ (l : List (List ℕ)). part line a b ∷ part line c d ∷ l) (field-some line d e f r).first_of

        pub asks-three : field_at line f ≡ End → ask (part line a b) (part line c d) (part line e f) false ≡ asked ask (fields line)
        asks-three x = sym (ap (asked ask) (three ∙ ap before (field-none line f x)))

        module _ {g h : ℕ} (s : field_at line f ≡ Part g h) where
          four : fields line ≡ before (part line g h ∷ fields (drop h line))
          four = three ∙ ap before (field-some line f g h s).first_of

          pub asks-five : {i j : ℕ} → field_at line h ≡ Part i j → Refused wrong_fields ≡ asked ask (fields line)
          asks-five {i} {j} x = sym (ap (asked ask) (four ∙ ap (λ (l : List (List ℕ)). before (part line g h ∷ l)) (field-some line h i j x).first_of))

          pub asks-four :
              {t : Bool} →
              field_at line h ≡ End →
              same_bytes (part line g h) (111 ∷ []) ≡ t →
              cond t (ask (part line a b) (part line c d) (part line e f) true) (Refused wrong_fields) ≡ asked ask (fields line)
          asks-four x y =
              ap (λ (z : Bool). cond z (ask (part line a b) (part line c d) (part line e f) true) (Refused wrong_fields)) (sym y)
              ∙ sym (ap (asked ask) (four ∙ ap (λ (l : List (List ℕ)). before (part line g h ∷ l)) (field-none line h x)))

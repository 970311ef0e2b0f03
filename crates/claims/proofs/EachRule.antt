-- Each of the seven rules is as 01 says: the tests on modes are computed at all of them. Assumes nothing.
use Prim.Native.Nat.{ℕ, ◌+◌}
use mathlib.Core.Path.{◌≡◌, refl, subst, sym, ap, ◌∙◌}
use mathlib.Core.Bool.{Bool, true, false, cond, not, ◌&&◌, ◌||◌, beq}
use mathlib.Core.List.{List}
use mathlib.Core.Logic.{◌↔◌}
use lib.Bits.{bit_and}
use lib.Dec.{eqb}
use borrow.Author.Tests.{eqb-true, eq-eqb}
use Rattle.search.specs.Search.{all, entries}
use Rattle.search.specs.Bytes.{ascii, same_bytes}
use Rattle.search.proofs.Laws.{no, and_both, same_refl, same-equal}
use Rattle.modes.specs.Modes.{bit_of, has, known_modes, one_of}
use Rattle.modes.proofs.Bits.{has_and, five}
use Rattle.modes.proofs.Laws.{below, known_is, known_and}
use Rattle.access.specs.SevenRules.{holds, only_read_execute}
use Rattle.claims.specs.EachRule.{EachRule}

equal : (s t : Bool) → beq s t ≡ true → s ≡ t
equal true true e = refl
equal true false e = absurd (no e)
equal false true e = absurd (no e)
equal false false e = refl

same : (a b : List ℕ) → (same_bytes a b ≡ true) ↔ (a ≡ b)
same a b = (same-equal a b, λ e. subst (λ (x : List ℕ). same_bytes a x ≡ true) e (same_refl a))

only_test : ℕ → Bool
only_test wanted = not (known_modes wanted) || beq (only_read_execute wanted) (all (λ (l : ℕ). not (has wanted (bit_of l))) (ascii "wat"))

only : all only_test (entries (λ (k : ℕ). k) 64) ≡ true
unfolding all entries bit_of only_test known_modes
only = refl

only_r_x : (wanted : ℕ) → known_modes wanted ≡ true → only_read_execute wanted ≡ all (λ (l : ℕ). not (has wanted (bit_of l))) (ascii "wat")
unfolding only_test
only_r_x wanted h = let e = below only_test 64 only wanted ((known_is wanted).0 h).0 in equal _ _ (rw h at e)

-- known modes are made of their letters: computed at all of them
abbrev worth : Bool → ℕ → ℕ
worth b n = cond b n 0

made : ℕ → ℕ
made m = worth (has m 32) 32 + (worth (has m 16) 16 + (worth (has m 8) 8 + (worth (has m 4) 4 + worth (has m 2) 2)))

made_test : ℕ → Bool
made_test m = not (known_modes m) || eqb (made m) m

all_made : all made_test (entries (λ (k : ℕ). k) 64) ≡ true
unfolding all entries made made_test known_modes
all_made = refl

made-is : (m : ℕ) → known_modes m ≡ true → made m ≡ m
unfolding made_test
made-is m h = let e = below made_test 64 all_made m ((known_is m).0 h).0 in eqb-true (made m) m (rw h at e)

-- so two that have the same letters are equal
same-made : (a b : ℕ) → ((l : ℕ) → one_of (ascii "rwxat") l ≡ true → has a (bit_of l) ≡ has b (bit_of l)) → made a ≡ made b
unfolding made bit_of
same-made a b h = rw (h 114 refl, h 119 refl, h 120 refl, h 97 refl, h 116 refl)

-- a letter of what two have in common
common : (a b l : ℕ) → one_of (ascii "rwxat") l ≡ true → has (bit_and a b) (bit_of l) ≡ (has a (bit_of l) && has b (bit_of l))
unfolding bit_of
common a b l =
    five (λ (x : ℕ). has (bit_and a b) (bit_of x) ≡ (has a (bit_of x) && has b (bit_of x))) l
    (has_and 5 a b) (has_and 4 a b) (has_and 3 a b) (has_and 2 a b) (has_and 1 a b)

every_letter :
    (wanted m : ℕ) → known_modes wanted ≡ true →
    (holds wanted m ≡ true) ↔ ((l : ℕ) → one_of (ascii "rwxat") l ≡ true → has wanted (bit_of l) ≡ true → has m (bit_of l) ≡ true)
every_letter wanted m h = (
  λ e l p q.
      let z : has wanted (bit_of l) ≡ (has wanted (bit_of l) && has m (bit_of l)) =
      ap (λ (x : ℕ). has x (bit_of l)) (sym (eqb-true (bit_and wanted m) wanted e)) ∙ common wanted m l p in
      (and_both (has wanted (bit_of l)) (has m (bit_of l)) (sym z ∙ q)).1,
  λ f.
      eq-eqb (bit_and wanted m) wanted
      (sym (made-is (bit_and wanted m) (known_and wanted m h))
      ∙ same-made (bit_and wanted m) wanted (λ l p. common wanted m l p ∙ both (has wanted (bit_of l)) (has m (bit_of l)) (f l p))
      ∙ made-is wanted h),
)
  where
    both : (a b : Bool) → (a ≡ true → b ≡ true) → (a && b) ≡ a
    both true b g = g refl
    both false b g = refl

pub each-rule : EachRule
each-rule =
    record {
      same = same;
      only_r_x = only_r_x;
      every_letter = every_letter;
      first = λ s. refl;
      second = λ s wanted. refl;
      third = λ o wanted. refl;
      fourth = λ o. refl;
      fifth = λ s o. refl;
      sixth = λ m wanted. refl;
      sixth_none = λ wanted. refl;
      seventh = refl;
      seven = λ s o pair wanted. refl;
      of_a_table = λ t s o wanted. refl;
    }

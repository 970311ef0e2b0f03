-- What an option says, of every table. Assumes nothing.
use mathlib.Core.Path.{◌≡◌, refl, sym, ap, ◌∙◌}
use mathlib.Core.Bool.{Bool, true, false, cond}
use mathlib.Core.List.{List}
use Prim.Native.Nat.{ℕ, ◌+◌, ◌*◌, ◌≤◌}
use native.Mathlib.Omega.{arith}
use borrow.Author.Tests.{eq-eqb, ne_eqb, le-leb}
use lib.ListN.{length, get_or, drop}
use Rattle.refusals.specs.Refusals.{bad_label, bad_option, bad_option_category, other_doi}
use Rattle.search.specs.Bytes.{same_bytes}
use Rattle.alphabet.specs.Alphabet.{well_formed}
use Rattle.numbers.specs.declared.CategorySet.{CategorySet}
use Rattle.numbers.proofs.Sets.{category_is}
use Rattle.set_bytes.specs.SetBytes.{bit_at, own_bytes, set_of_bitmap, set_of_own, only_categories}
use Rattle.set_bytes.proofs.Laws.{own-length, bits_and_categories, own_bits}
use Rattle.output.specs.Output.{text}
use Rattle.store.specs.Table.{Table}
use Rattle.std.proofs.Common.{Option, Some, None, Result, Ok, Err}
use Rattle.refusals.specs.declared.Refusal.{Refusal}
use Rattle.lookups.specs.Lookups.{mapped, label_lookup, level_lookup}
use Rattle.cipso_option.specs.Option.{our_doi, doi_in, is_option, trimmed, option_of, label_option, label, not_read, own_peer, mapped_peer, peer_at, peer_of}
use Rattle.cipso_option.proofs.Laws.{trimmed-short}
use Rattle.option_laws.specs.Says.{OwnBits, FoundLabel, OptionSays}
use Rattle.option_laws.proofs.Bitmap.{bits-same, trimmed-at}

no_label : {n : Refusal} {l : List ℕ} {A : Type 0} → not_read n ≡ label l → A
no_label e = let z : ◌≡◌ {A = ℕ} 0 1 = cc in absurd (omega arith)

-- an option that says a label has passed the tests
says_at : (t : Table) (option l : List ℕ) → peer_of t option ≡ label l → peer_at t (get_or option 9 0) (set_of_bitmap (drop 10 option)) ≡ label l
unfolding peer_of
says_at t option l e = by_tests (is_option option) (same_bytes (doi_in option) our_doi) (only_categories (drop 10 option)) e
  where
    by_tests : (a b c : Bool)
        → cond a (cond b (cond c (peer_at t (get_or option 9 0) (set_of_bitmap (drop 10 option))) (not_read bad_option_category)) (not_read other_doi)) (not_read bad_option) ≡ label l
        → peer_at t (get_or option 9 0) (set_of_bitmap (drop 10 option)) ≡ label l
    by_tests true true true q = q
    by_tests true true false q = no_label q
    by_tests true false c q = no_label q
    by_tests false b c q = no_label q

own-says : (t : Table) (option l : List ℕ) → get_or option 9 0 ≡ 250 → peer_of t option ≡ label l → OwnBits (drop 10 option) l
unfolding peer_at
own-says t option l h e =
    let q : own_peer (trimmed bytes) ≡ label l = sym (rw (eq-eqb (get_or option 9 0) 250 h)) ∙ says_at t option l e in
    let is = rebuilt (well_formed (trimmed bytes)) q in
    record {
      short = omega (arith, ap length is, trimmed-short bytes, own-length (set_of_bitmap (drop 10 option)));
      bits = λ i j hi hj.
          ap (λ (x : List ℕ). bit_at x (8 * i + j)) (sym is)
          ∙ bits-same (trimmed bytes) bytes (trimmed-at bytes) (8 * i + j)
          ∙ own_bits (set_of_bitmap (drop 10 option)) (8 * i + j) (omega arith)
          ∙ bits_and_categories.bitmap_set (drop 10 option) (8 * i + j + 1) (category_is (8 * i + j + 1) (omega arith, omega arith));
    }
  where
    bytes : List ℕ
    bytes = own_bytes (set_of_bitmap (drop 10 option))

    rebuilt : (b : Bool) → cond b (label (trimmed bytes)) (not_read bad_label) ≡ label l → trimmed bytes ≡ l
    rebuilt true q = cc
    rebuilt false q = no_label q

other-says : (t : Table) (option l : List ℕ) → (get_or option 9 0 ≡ 250 → ⊥) → peer_of t option ≡ label l → FoundLabel t (get_or option 9 0) (set_of_bitmap (drop 10 option)) l
unfolding peer_at
other-says t option l h e =
    by-found (level_lookup t (get_or option 9 0) (set_of_bitmap (drop 10 option))) refl (sym (rw (ne_eqb (get_or option 9 0) 250 h)) ∙ says_at t option l e)
  where
    by-found : (x : Result (Option ℕ) Refusal) → level_lookup t (get_or option 9 0) (set_of_bitmap (drop 10 option)) ≡ x → mapped_peer t x ≡ label l → FoundLabel t (get_or option 9 0) (set_of_bitmap (drop 10 option)) l
    by-found (Ok (Some n)) p q = record { number = n; lowest = p; stored = cc }
    by-found (Ok None) p q = no_label q
    by-found (Err n) p q = no_label q

written-mapped : (t : Table) (l : List ℕ) (level : ℕ) (s : CategorySet) (count : ℕ) → label_lookup t l ≡ mapped level s count → label_option t l ≡ text (option_of level s)
unfolding label_option
written-mapped t l level s count e = rw e

written-own : (t : Table) (l : List ℕ) → label_lookup t l ≡ Ok None → length l ≤ 23 → label_option t l ≡ text (option_of 250 (set_of_own l))
unfolding label_option
written-own t l e h = rw (e, le-leb (length l) 23 h)

pub option_says : (t : Table) → OptionSays t
option_says t = record { mapped = written-mapped t; unmapped = written-own t; own = own-says t; other = other-says t }

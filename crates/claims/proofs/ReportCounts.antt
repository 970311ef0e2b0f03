-- What a judged line does to the plain reader's numbers: by computing, and by whether one was refused before. Assumes nothing.
use mathlib.Core.Path.{◌≡◌, refl}
use mathlib.Core.Bool.{Bool, true, false, cond}
use mathlib.Core.List.{List, [], ◌∷◌, map}
use Prim.Native.Nat.{ℕ, ◌+◌, min}
use native.Mathlib.Omega.{arith}
use borrow.Author.Tests.{eq-eqb, ne_eqb}
use Rattle.search.specs.Bytes.{ascii}
use Rattle.alphabet.specs.Alphabet.{fields}
use Rattle.modes.specs.Modes.{any, one_of}
use Rattle.modes.proofs.Laws.{letters_and_bits}
use Rattle.refusals.specs.declared.Refusal.{Refusal}
use Rattle.lines.specs.Lines.{rule_of, bring_up_in}
use Rattle.store.specs.Table.{Table}
use Rattle.store.specs.Judged.{is_refused, is_accepted}
use Rattle.writes.specs.Writes.{judged}
use Rattle.lists.specs.Reader.{Totals, Reader, end_line, limited, limited_totals}
use Rattle.claims.specs.ReportCounts.{LineCounts, numbers}

one_more : (b : Bool) (n : ℕ) → cond b (n + 1) n ≡ n + cond b 1 0
one_more true n = refl
one_more false n = omega arith

with_b :
    (p : Reader) (s o access : List ℕ) (t : Table) →
    fields p.kept ≡ s ∷ o ∷ access ∷ [] →
    judged p.table (rule_of p.kept) ≡ is_accepted t →
    (end_line p).totals.bringup ≡ p.totals.bringup + cond (any (one_of (ascii "bB")) access) 1 0
unfolding end_line bring_up_in
with_b p s o access t three accepted = rw (accepted, three, letters_and_bits.held access) (one_more (any (one_of (ascii "bB")) access) p.totals.bringup)

refused_with_b : (p : Reader) (why : Refusal) → judged p.table (rule_of p.kept) ≡ is_refused why → (end_line p).totals.bringup ≡ p.totals.bringup
unfolding end_line
refused_with_b p why refused = rw refused

limits : (c : Totals) → numbers (limited_totals c) ≡ map (λ (n : ℕ). min n 4294967295) (numbers c)
unfolding limited
limits c = refl

pub line-counts : LineCounts
line-counts =
    record {
      skipped = λ c held. (
        record { lines = refl; accepted_lines = omega arith; skipped_lines = refl; refused_lines = omega arith; lines_with_b = omega arith },
        record { number = refl; its_reason = refl; its_place = refl },
      );
      accepted = λ c t. (
        record { lines = refl; accepted_lines = refl; skipped_lines = omega arith; refused_lines = omega arith; lines_with_b = omega arith },
        record { number = refl; its_reason = refl; its_place = refl },
      );
      accepted_with_b = λ c t. (
        record { lines = refl; accepted_lines = refl; skipped_lines = omega arith; refused_lines = omega arith; lines_with_b = refl },
        record { number = refl; its_reason = refl; its_place = refl },
      );
      refused = λ c held why. record { lines = refl; accepted_lines = omega arith; skipped_lines = omega arith; refused_lines = refl; lines_with_b = omega arith };
      first = λ c held why e.
          let z = eq-eqb c.refused 0 e in
          record { number = rw z; its_reason = rw z; its_place = rw z };
      later = λ c held why e.
          let z = ne_eqb c.refused 0 e in
          record { number = rw z; its_reason = rw z; its_place = rw z };
      with_b = with_b;
      refused_with_b = refused_with_b;
      limits = limits;
    }

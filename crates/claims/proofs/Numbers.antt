-- 01's numbers and 02's are those of the definitions: by computing. Assumes nothing.
use mathlib.Core.Path.{◌≡◌, refl, sym, ap, ◌∙◌}
use mathlib.Core.Bool.{Bool, true, false}
use mathlib.Core.List.{List, ◌++◌}
use Prim.Native.Nat.{ℕ, ◌+◌, ◌-◌, ◌≤◌}
use native.Mathlib.Omega.{arith}
use lib.Dec.{ltb}
use borrow.Author.Tests.{ltb-true, ltb-false}
use lib.ListN.{length, take, drop, get_or, length-append, length-drop, get_or-eq_default}
use lib.Seq.{take_at, get_or-append-add, get_or-drop}
use Rattle.search.specs.Search.{entries}
use Rattle.search.specs.Bytes.{written}
use Rattle.search.proofs.Laws.{entries-length, entries_at}
use Rattle.cipso_option.specs.Option.{room}
use Rattle.numbers.specs.Categories.{with_category}
use Rattle.reports.specs.Report.{fresh_loader}
use Rattle.load.specs.Loader.{Load, ready, end_after}
use Rattle.claims.specs.Numbers.{NumbersOf01, NumbersOf02}

after_the_end : (s : Load) → ready s ≡ true → (end_after s).loader ≡ fresh_loader
unfolding end_after
after_the_end s e = rw e

pub numbers_of_01 : NumbersOf01
numbers_of_01 =
    record {
      refused_by = refl;
      sizes = refl;
      fresh_table = refl;
      from_none = refl;
      from_its_own = λ m. refl;
      fresh_loader_is = refl;
      after_the_end = after_the_end;
      levels = λ n. refl;
      granted = λ n. refl;
      denied_1 = refl;
      denied_7 = refl;
      override_1 = refl;
      override_7 = refl;
      refused = λ n. refl;
      mapped = λ level set count. refl;
      unmapped = refl;
      look_up_refused = λ n. refl;
      found = λ k. refl;
      none = refl;
      search_refused = λ n. refl;
      listed = λ k. refl;
      not_listed = λ n. refl;
    }

-- a label in front of 255 bytes of 0
room-front : (l : List ℕ) → take (length l) (written room 0 l) ≡ l
unfolding written
room-front l = take_at l (drop (0 + length l) room) (length l) refl

room-length : (l : List ℕ) → length l ≤ 255 → length (written room 0 l) ≡ 255
unfolding written
room-length l h = length-append l (drop (0 + length l) room) ∙ omega (arith, h, length-drop (0 + length l) room, entries-length {A = ℕ} (λ (i : ℕ). 0) 255)

room_zero : (i : ℕ) → get_or room i 0 ≡ 0
room_zero i = by-test (ltb i 255) refl
  where
    by-test : (t : Bool) → ltb i 255 ≡ t → get_or room i 0 ≡ 0
    by-test true e = entries_at (λ (j : ℕ). 0) 0 255 i (ltb-true i 255 e)
    by-test false e = get_or-eq_default room 0 (omega (arith, ltb-false i 255 e, entries-length {A = ℕ} (λ (j : ℕ). 0) 255))

room-behind : (l : List ℕ) (i : ℕ) → length l ≤ i → get_or (written room 0 l) i 0 ≡ 0
unfolding written
room-behind l i h =
    let e : length l + (i - length l) ≡ i = omega arith in
    ap (λ (k : ℕ). get_or (l ++ drop (0 + length l) room) k 0) (sym e)
    ∙ get_or-append-add l (drop (0 + length l) room) (i - length l) 0
    ∙ get_or-drop (0 + length l) room (i - length l) 0
    ∙ room_zero (0 + length l + (i - length l))

pub numbers_of_02 : NumbersOf02
unfolding with_category entries
numbers_of_02 =
    record {
      old_records = refl;
      bad_label = λ p. refl;
      plain = λ n. refl;
      written = (refl, λ r. refl);
      revoked = (λ k. refl, λ r. refl);
      taken = (λ old l. refl, λ old n. refl);
      finished = (λ old l r. refl, λ old n. refl);
      categories_and_mapping = refl;
      lent_parts = refl;
      lent_runs = refl;
      categories = λ n. refl;
      first_and_last = refl;
      packet_option = refl;
      mapping_levels = λ n. refl;
      option_bytes_are = λ level bitmap. refl;
      peer_label = λ l h. (refl, refl, refl, room-front l, room-length l h, room-behind l);
      peer_refused = λ n. (refl, refl, refl, refl, room_zero);
      new_object = (refl, refl, λ b. refl, λ n. refl);
      no_category = refl;
    }

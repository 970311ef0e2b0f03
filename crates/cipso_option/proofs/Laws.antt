-- Laws of the option's bytes, of bytes without trailing zero bytes, and of what the reader finds. Assumes nothing.
use mathlib.Core.Path.{◌≡◌, refl, sym, ap, ◌∙◌}
use mathlib.Core.Bool.{Bool, true, false, cond, ◌&&◌, and-false, and-true}
use mathlib.Core.List.{List, [], ◌∷◌, ◌++◌, append-nil, append_assoc}
use Prim.Native.Nat.{ℕ, suc, ◌+◌, ◌-◌, ◌<◌, ◌≤◌}
use native.Mathlib.Nat.{zero-add}
use native.Mathlib.Omega.{arith}
use lib.Dec.{eqb, leb, ltb}
use borrow.Author.Tests.{eq-eqb, ne_eqb, le-leb, lt-leb, ltb-true, ltb-false}
use lib.ListN.{length, take, drop, get_or, length-append, length-take, length-drop, drop_of_length-le}
use lib.Seq.{take-suc, take_all, take_at}
use Rattle.search.specs.Search.{first, entries}
use Rattle.std.proofs.Common.{Some, Result, Ok, Err}
use Rattle.search.specs.Bytes.{same_bytes, written}
use Rattle.search.proofs.Laws.{no, same_lengths, first-is, entries-length, entries_at}
use Rattle.numbers.specs.declared.CategorySet.{CategorySet}
use Rattle.set_bytes.specs.SetBytes.{bitmap_bytes, set_of_bitmap, only_categories, own_bytes}
use Rattle.set_bytes.proofs.Laws.{own-length, bitmap-length}
use Rattle.store.specs.Table.{Table, label_numbered}
use Rattle.store.specs.Layout.{Store, label_at, table_of, undamaged_of}
use Rattle.refusals.specs.Refusals.{damaged, bad_level_or_category, bad_option, bad_option_category, other_doi}
use Rattle.output.specs.Output as text
use Rattle.lookups.specs.Lookups.{label_lookup, by_label_of, sought, has_both, level_lookup, by_level_of}
use Rattle.refusals.specs.declared.Refusal.{Refusal}
use Rattle.cipso_option.specs.Option.{option_bytes, our_doi, until_last, trimmed, option_by, label_option, option_given, doi_in, level_in, bitmap_in, is_option, Peer, not_read, own_peer, mapped_peer, peer_at, peer_of, peer_given}
use Rattle.cipso_option.specs.Within.{said_of, mapped_given}

-- ---- bytes without trailing zero bytes

trimmed_zero : (b : List ℕ) → trimmed (b ++ (0 ∷ [])) ≡ trimmed b
unfolding trimmed
trimmed_zero [] = refl
trimmed_zero (x ∷ xs) = ap (until_last x) (trimmed_zero xs)

trimmed-other : (b : List ℕ) (x : ℕ) → (x ≡ 0 → ⊥) → trimmed (b ++ (x ∷ [])) ≡ b ++ (x ∷ [])
unfolding trimmed
trimmed-other [] x h = rw (ne_eqb x 0 h)
trimmed-other (y ∷ ys) x h = ap (until_last y) (trimmed-other ys x h) ∙ kept ys
  where
    kept : (b : List ℕ) → until_last y (b ++ (x ∷ [])) ≡ y ∷ (b ++ (x ∷ []))
    kept [] = refl
    kept (z ∷ zs) = refl

-- the bytes up to an index, from the last one down
module _ (b : List ℕ) (k : ℕ) (h : k < length b) where
  pub trimmed_down : get_or b k 0 ≡ 0 → trimmed (take (suc k) b) ≡ trimmed (take k b)
  trimmed_down z = ap trimmed (take-suc b k 0 h ∙ ap (λ (x : ℕ). take k b ++ (x ∷ [])) z) ∙ trimmed_zero (take k b)

  pub trimmed-here : (get_or b k 0 ≡ 0 → ⊥) → trimmed (take (suc k) b) ≡ take (suc k) b
  trimmed-here o = ap trimmed (take-suc b k 0 h) ∙ trimmed-other (take k b) (get_or b k 0) o ∙ sym (take-suc b k 0 h)

-- they are the front of the bytes
pub trimmed-front : (b : List ℕ) → take (length (trimmed b)) b ≡ trimmed b
unfolding trimmed
trimmed-front [] = refl
trimmed-front (x ∷ xs) = of (trimmed xs) (trimmed-front xs)
  where
    one : (t : Bool) → take (length (cond t [] (x ∷ []))) (x ∷ xs) ≡ cond t [] (x ∷ [])
    one true = refl
    one false = refl

    of : (r : List ℕ) → take (length r) xs ≡ r → take (length (until_last x r)) (x ∷ xs) ≡ until_last x r
    of [] e = one (eqb x 0)
    of (y ∷ ys) e = ap (λ (r : List ℕ). x ∷ r) e

pub trimmed-short : (b : List ℕ) → length (trimmed b) ≤ length b
trimmed-short b = omega (arith, ap length (sym (trimmed-front b)), length-take (length (trimmed b)) b)

-- ---- the layout

eqb_refl : (x : ℕ) → eqb x x ≡ true
eqb_refl x = eq-eqb x x refl

pub same_refl : (b : List ℕ) → same_bytes b b ≡ true
unfolding same_bytes
same_refl [] = refl
same_refl (x ∷ xs) = rw (eqb_refl x, same_refl xs)

-- fewer than 10 bytes are none: those that they make are more
pub option_short : (o : List ℕ) → length o < 10 → is_option o ≡ false
unfolding is_option
option_short o h =
    let tail : List ℕ = 1 ∷ (4 + length (bitmap_in o)) ∷ 0 ∷ level_in o ∷ bitmap_in o in
    let long : length (doi_in o ++ tail) ≡ length (doi_in o) + (4 + length (bitmap_in o)) = length-append (doi_in o) tail ∙ omega arith in
    rw (same_lengths o (option_bytes (doi_in o) (level_in o) (bitmap_in o)) (λ e. omega (arith, e, long, length-take 4 (drop 2 o), length-drop 2 o)))
    (and-false (leb (length (bitmap_in o)) 30))

-- over 40 are none
pub option_long : (o : List ℕ) → 40 < length o → is_option o ≡ false
unfolding is_option
option_long o h = rw (lt-leb (length (bitmap_in o)) 30 (omega (arith, length-drop 10 o)))

-- of 10 to 40 bytes five are tested
pub option_tests : (o : List ℕ) → 10 ≤ length o → length o ≤ 40
    → (eqb (get_or o 0 0) 134 && (eqb (get_or o 1 0) (length o) && (eqb (get_or o 6 0) 1 && (eqb (get_or o 7 0) (length o - 6) && eqb (get_or o 8 0) 0)))) ≡ is_option o
unfolding is_option same_bytes
option_tests (b₀ ∷ b₁ ∷ b₂ ∷ b₃ ∷ b₄ ∷ b₅ ∷ b₆ ∷ b₇ ∷ b₈ ∷ b₉ ∷ rest) h k =
    let few : length rest ≤ 30 = omega arith in
    let total : 10 + length rest ≡ length (b₀ ∷ b₁ ∷ b₂ ∷ b₃ ∷ b₄ ∷ b₅ ∷ b₆ ∷ b₇ ∷ b₈ ∷ b₉ ∷ rest) = omega arith in
    let tag : 4 + length rest ≡ length (b₀ ∷ b₁ ∷ b₂ ∷ b₃ ∷ b₄ ∷ b₅ ∷ b₆ ∷ b₇ ∷ b₈ ∷ b₉ ∷ rest) - 6 = omega arith in
    rw (le-leb (length rest) 30 few, total, tag, eqb_refl b₂, eqb_refl b₃, eqb_refl b₄, eqb_refl b₅, eqb_refl b₉, same_refl rest, and-true (eqb b₈ 0))
option_tests (b₀ ∷ b₁ ∷ b₂ ∷ b₃ ∷ b₄ ∷ b₅ ∷ b₆ ∷ b₇ ∷ b₈ ∷ []) h k = absurd (omega arith)
option_tests (b₀ ∷ b₁ ∷ b₂ ∷ b₃ ∷ b₄ ∷ b₅ ∷ b₆ ∷ b₇ ∷ []) h k = absurd (omega arith)
option_tests (b₀ ∷ b₁ ∷ b₂ ∷ b₃ ∷ b₄ ∷ b₅ ∷ b₆ ∷ []) h k = absurd (omega arith)
option_tests (b₀ ∷ b₁ ∷ b₂ ∷ b₃ ∷ b₄ ∷ b₅ ∷ []) h k = absurd (omega arith)
option_tests (b₀ ∷ b₁ ∷ b₂ ∷ b₃ ∷ b₄ ∷ []) h k = absurd (omega arith)
option_tests (b₀ ∷ b₁ ∷ b₂ ∷ b₃ ∷ []) h k = absurd (omega arith)
option_tests (b₀ ∷ b₁ ∷ b₂ ∷ []) h k = absurd (omega arith)
option_tests (b₀ ∷ b₁ ∷ []) h k = absurd (omega arith)
option_tests (b₀ ∷ []) h k = absurd (omega arith)
option_tests [] h k = absurd (omega arith)

pub doi_tests : (o : List ℕ) → 10 ≤ length o
    → (eqb (get_or o 2 0) 0 && (eqb (get_or o 3 0) 0 && (eqb (get_or o 4 0) 0 && eqb (get_or o 5 0) 3))) ≡ same_bytes (doi_in o) our_doi
unfolding same_bytes
doi_tests (b₀ ∷ b₁ ∷ b₂ ∷ b₃ ∷ b₄ ∷ b₅ ∷ rest) h = rw (and-true (eqb b₅ 3))
doi_tests (b₀ ∷ b₁ ∷ b₂ ∷ b₃ ∷ b₄ ∷ []) h = absurd (omega arith)
doi_tests (b₀ ∷ b₁ ∷ b₂ ∷ b₃ ∷ []) h = absurd (omega arith)
doi_tests (b₀ ∷ b₁ ∷ b₂ ∷ []) h = absurd (omega arith)
doi_tests (b₀ ∷ b₁ ∷ []) h = absurd (omega arith)
doi_tests (b₀ ∷ []) h = absurd (omega arith)
doi_tests [] h = absurd (omega arith)

-- so an option has 10 to 40 bytes
pub option_sized : (o : List ℕ) → is_option o ≡ true → (10 ≤ length o) × (length o ≤ 40)
option_sized o e = (least (ltb (length o) 10) refl, most (ltb 40 (length o)) refl)
  where
    least : (t : Bool) → ltb (length o) 10 ≡ t → 10 ≤ length o
    least true q = absurd (no (sym (option_short o (ltb-true _ _ q)) ∙ e))
    least false q = ltb-false _ _ q

    most : (t : Bool) → ltb 40 (length o) ≡ t → length o ≤ 40
    most true q = absurd (no (sym (option_long o (ltb-true _ _ q)) ∙ e))
    most false q = ltb-false _ _ q

-- the bitmap is the rest of the bytes
pub rest-whole : (o : List ℕ) → take (length o - 10) (bitmap_in o) ≡ bitmap_in o
rest-whole o = take_all (length o - 10) (bitmap_in o) (omega (arith, length-drop 10 o))

-- ---- a label that was found by level and set

module _ (st : Store) (level : ℕ) (s : CategorySet) (n : ℕ) where
  pub found_tested : by_level_of st level s ≡ Ok (Some n) → (undamaged_of st ≡ true) × (n < get_or st.words 0 0)
  unfolding by_level_of level_lookup
  found_tested e = by-damage (undamaged_of st) refl e
    where
      among : List ℕ
      among = entries (λ (k : ℕ). k) (length (table_of st).labels)

      by-sought : (t : Bool) → cond t (Ok (first (has_both (table_of st) level s) among)) (Err bad_level_or_category) ≡ Ok (Some n) → n < get_or st.words 0 0
      by-sought true e =
          let q : first (has_both (table_of st) level s) among ≡ Some n = cc in
          omega (arith, (first-is (has_both (table_of st) level s) 0 among n q).0, entries-length (λ (k : ℕ). k) (length (table_of st).labels), entries-length (label_at st.labels) (get_or st.words 0 0))
      by-sought false e = let z : ◌≡◌ {A = ℕ} 0 1 = cc in absurd (omega arith)

      by-damage : (t : Bool) → undamaged_of st ≡ t → cond t (level_lookup (table_of st) level s) (Err damaged) ≡ Ok (Some n) → (undamaged_of st ≡ true) × (n < get_or st.words 0 0)
      by-damage true q e = (q, by-sought (sought level s) e)
      by-damage false q e = let z : ◌≡◌ {A = ℕ} 0 1 = cc in absurd (omega arith)

  pub found-label : n < get_or st.words 0 0 → label_numbered (table_of st) n ≡ label_at st.labels n
  found-label h = entries_at (label_at st.labels) [] (get_or st.words 0 0) n h

-- ---- bytes written over others

-- as many as there are, in front: nothing else is left
pub written-whole : (d s : List ℕ) → length d ≤ length s → written d 0 s ≡ s
unfolding written
written-whole d s h = rw (zero-add (length s), drop_of_length-le d {i = length s} h) (append-nil s)

pub own-whole : (d : List ℕ) (s : CategorySet) → length d ≡ 23 → written d 0 (own_bytes s) ≡ own_bytes s
own-whole d s e = written-whole d (own_bytes s) (omega (arith, e, own-length s))

pub bitmap-whole : (d : List ℕ) (s : CategorySet) → length d ≡ 24 → written d 0 (bitmap_bytes s) ≡ bitmap_bytes s
bitmap-whole d s e = written-whole d (bitmap_bytes s) (omega (arith, e, bitmap-length s))

-- the front of bytes, as the code takes it
pub front-trimmed : (b m : List ℕ) (n : ℕ) → b ≡ m → n ≡ length (trimmed b) → take (n - 0) b ≡ trimmed m
front-trimmed b m n e q =
    let z : n - 0 ≡ length (trimmed b) = omega (arith, q) in
    ap (λ (x : ℕ). take x b) z ∙ trimmed-front b ∙ ap trimmed e

pub trimmed_fits : (b m : List ℕ) (n k : ℕ) → b ≡ m → n ≡ length (trimmed b) → length m ≡ k → n ≤ k
trimmed_fits b m n k e q l = omega (arith, q, ap (λ (x : List ℕ). length (trimmed x)) e, trimmed-short m, l)

-- ten bytes, and a bitmap behind them
pub option_front : (all text b m : List ℕ) (n level : ℕ)
    → take 10 text ≡ 134 ∷ (10 + n) ∷ 0 ∷ 0 ∷ 0 ∷ 3 ∷ 1 ∷ (4 + n) ∷ 0 ∷ level ∷ []
    → b ≡ trimmed m
    → n ≡ length b
    → all ≡ written text 10 b
    → take (10 + n - 0) all ≡ option_bytes our_doi level (trimmed m)
unfolding written
option_front all text b m n level e q z w =
    let h : List ℕ = 134 ∷ (10 + n) ∷ 0 ∷ 0 ∷ 0 ∷ 3 ∷ 1 ∷ (4 + n) ∷ 0 ∷ level ∷ [] in
    let rest : List ℕ = drop (10 + length b) text in
    let long : length (h ++ b) ≡ 10 + n - 0 = length-append h b ∙ omega (arith, z) in
    ap (take (10 + n - 0)) (w ∙ ap (λ (x : List ℕ). x ++ (b ++ rest)) e ∙ sym (append_assoc h b rest))
    ∙ take_at (h ++ b) rest (10 + n - 0) long
    ∙ rw (z, q)

-- ---- what the calls answer, by what was looked up and read

pub option_given_lem : (st : Store) (l : List ℕ) → option_given st l ≡ option_by l (by_label_of st l)
unfolding option_given label_option by_label_of
option_given_lem st l = by-test (undamaged_of st)
  where
    by-test : (t : Bool) → cond t (option_by l (label_lookup (table_of st) l)) (text.refused damaged) ≡ option_by l (cond t (label_lookup (table_of st) l) (Err damaged))
    by-test true = refl
    by-test false = refl

abbrev pub peer_said : Table → Result (ℕ × CategorySet) Refusal → Peer
peer_said t (Err n) = not_read n
peer_said t (Ok (level, s)) = peer_at t level s

pub peer-said : (t : Table) (o : List ℕ) → peer_of t o ≡ peer_said t (said_of o)
unfolding peer_of said_of
peer-said t o = by_tests (is_option o) (same_bytes (doi_in o) our_doi) (only_categories (bitmap_in o))
  where
    by_tests : (a b c : Bool)
        → cond a (cond b (cond c (peer_at t (level_in o) (set_of_bitmap (bitmap_in o))) (not_read bad_option_category)) (not_read other_doi)) (not_read bad_option)
        ≡ peer_said t (cond a (cond b (cond c (Ok (level_in o, set_of_bitmap (bitmap_in o))) (Err bad_option_category)) (Err other_doi)) (Err bad_option))
    by_tests true true true = refl
    by_tests true true false = refl
    by_tests true false c = refl
    by_tests false b c = refl

module _ (st : Store) (o : List ℕ) where
  pub peer-damaged : undamaged_of st ≡ false → peer_given st o ≡ not_read damaged
  unfolding peer_given
  peer-damaged u = rw u

  pub peer_tested : {x : Result (ℕ × CategorySet) Refusal} → undamaged_of st ≡ true → said_of o ≡ x → peer_given st o ≡ peer_said (table_of st) x
  unfolding peer_given
  peer_tested {x} u e = rw u (peer-said (table_of st) o ∙ ap (peer_said (table_of st)) e)

  pub peer-mapped : {level : ℕ} {s : CategorySet} → (level ≡ 250 → ⊥) → said_of o ≡ Ok (level, s) → peer_given st o ≡ mapped_given st level s
  unfolding peer_given peer_at by_level_of
  peer-mapped {level} {s} h e = ap (λ (x : Peer). cond (undamaged_of st) x (not_read damaged)) (peer-said (table_of st) o ∙ ap (peer_said (table_of st)) e ∙ rw (ne_eqb level 250 h)) ∙ by-test (undamaged_of st)
    where
      by-test : (t : Bool) → cond t (mapped_peer (table_of st) (level_lookup (table_of st) level s)) (not_read damaged) ≡ mapped_peer (table_of st) (cond t (level_lookup (table_of st) level s) (Err damaged))
      by-test true = refl
      by-test false = refl

  pub peer-own : {level : ℕ} {s : CategorySet} → undamaged_of st ≡ true → level ≡ 250 → said_of o ≡ Ok (level, s) → peer_given st o ≡ own_peer (trimmed (own_bytes s))
  unfolding peer_at
  peer-own {level} {s} u h e = peer_tested u e ∙ rw (eq-eqb level 250 h)

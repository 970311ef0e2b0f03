-- Laws of a run's search: the lowest label of a run, what a search answers, the best of the records looked at so far, and the records of three lists. Assumes
-- nothing.
use mathlib.Core.Path.{◌≡◌, refl, sym, ◌∙◌, ap}
use mathlib.Core.Bool.{Bool, true, false, cond}
use mathlib.Core.List.Memᴰ
use mathlib.Core.List.{List, [], ◌∷◌, foldl, Memᴰ}
use mathlib.Core.Logic.{◌↔◌, ◌⊎◌, inl, inr, ⊎_elim}
use Prim.Native.Nat.{ℕ, zero, suc, ◌+◌, ◌*◌, ◌/◌, ◌≤◌, ◌<◌}
use native.Mathlib.Omega.{arith}
use native.Mathlib.Numerals.{add-one}
use lib.Dec.{eqb, ltb}
use lib.ListN.{length, drop, get_or, drop_of_length-le}
use lib.Seq.{drop-cons}
use borrow.Author.Tests.{ltb-true, ltb-false}
use Rattle.refusals.specs.Refusals.{bad_level_or_category}
use Rattle.refusals.specs.declared.Refusal.{Refusal}
use Rattle.search.proofs.Laws.{no, and_both, not_so}
use Rattle.numbers.specs.Categories.{is_level, no_categories, same_set, known_set}
use Rattle.numbers.specs.declared.CategorySet.{CategorySet}
use Rattle.numbers.proofs.Sets.{category_sets}
use Rattle.lookups.specs.Lookups.{sought}
use Rattle.std.proofs.Common.{Option, Some, None, Ok, Err}
use Rattle.run.specs.declared.Record.{Record}
use Rattle.run.specs.Run.{matches, lower_label, lower_of, lowest_of, settled_of, run_of, records_of}
use Rattle.run.specs.Lowest.{LowestInRun, Unmatched}
use Rattle.run.specs.Within.{searched, Shortest}

-- ---- the lowest label of a run

module _ (level : ℕ) (s : CategorySet) where
  abbrev from : Option ℕ → List Record → Option ℕ
  from b run = foldl (lower_of level s) b run

  -- what a fold from the best so far finds
  record Finds (b : Option ℕ) (run : List Record) (n : ℕ) : Type 0 where
    found : (b ≡ Some n) ⊎ ((r : Record) × Memᴰ r run × (matches level s r ≡ true) × (r.label ≡ n))
    before : (k : ℕ) → b ≡ Some k → n ≤ k
    least : (r : Record) → Memᴰ r run → matches level s r ≡ true → n ≤ r.label

  finds_more :
      (b : Option ℕ) (x : Record) (xs : List Record) (n : ℕ) →
      Finds (lower_of level s b x) xs n →
      Finds b (x ∷ xs) n
  unfolding lower_of
  finds_more b x xs n h = by-test (matches level s x) refl h
    where
      later : ((r : Record) × Memᴰ r xs × (matches level s r ≡ true) × (r.label ≡ n)) → (r : Record) × Memᴰ r (x ∷ xs) × (matches level s r ≡ true) × (r.label ≡ n)
      later f = (f.0, Memᴰ.tail f.1, f.2, f.3)

      here : matches level s x ≡ true → x.label ≡ n → (r : Record) × Memᴰ r (x ∷ xs) × (matches level s r ≡ true) × (r.label ≡ n)
      here q e = (x, Memᴰ.head refl, q, e)

      -- none that matches is lower, where the first is not
      no_lower : (matches level s x ≡ true → n ≤ x.label) → ((r : Record) → Memᴰ r xs → matches level s r ≡ true → n ≤ r.label) → (r : Record) → Memᴰ r (x ∷ xs) → matches level s r ≡ true → n ≤ r.label
      no_lower first rest r m q =
          ⊎_elim
          (λ e. let z : matches level s x ≡ true = ap (matches level s) (sym e) ∙ q in let y : x.label ≡ r.label = ap (λ (g : Record). g.label) (sym e) in omega (arith, first z))
          (λ t. rest r t q)
          (Memᴰ.cases_cons m)

      by-best : (b : Option ℕ) → matches level s x ≡ true → Finds (lower_label x.label b) xs n → Finds b (x ∷ xs) n
      by-best (Some k) q f = by_less (ltb x.label k) refl f
        where
          by_less : (t : Bool) → ltb x.label k ≡ t → Finds (Some (cond t x.label k)) xs n → Finds (Some k) (x ∷ xs) n
          by_less true e f =
              let h = ltb-true x.label k e in
              let le : n ≤ x.label = f.before x.label refl in
              record {
                found = ⊎_elim (λ z. inr (here q (let y : x.label ≡ n = cc in y))) (λ g. inr (later g)) f.found;
                before = λ j z. let y : k ≡ j = cc in omega arith;
                least = no_lower (λ y. le) f.least;
              }
          by_less false e f =
              let h = ltb-false x.label k e in
              let le : n ≤ k = f.before k refl in
              record {
                found = ⊎_elim (λ z. inl z) (λ g. inr (later g)) f.found;
                before = f.before;
                least = no_lower (λ y. omega arith) f.least;
              }
      by-best None q f =
          let le : n ≤ x.label = f.before x.label refl in
          record {
            found = ⊎_elim (λ z. inr (here q (let y : x.label ≡ n = cc in y))) (λ g. inr (later g)) f.found;
            before = λ j z. let y : ◌≡◌ {A = ℕ} 0 1 = cc in absurd (omega arith);
            least = no_lower (λ y. le) f.least;
          }

      by-test : (t : Bool) → matches level s x ≡ t → Finds (cond t (lower_label x.label b) b) xs n → Finds b (x ∷ xs) n
      by-test true q f = by-best b q f
      by-test false q f =
          record {
            found = ⊎_elim (λ z. inl z) (λ g. inr (later g)) f.found;
            before = f.before;
            least = no_lower (λ y. absurd (no (sym q ∙ y))) f.least;
          }

  finds : (run : List Record) (b : Option ℕ) (n : ℕ) → from b run ≡ Some n → Finds b run n
  finds [] b n e =
      record {
        found = inl e;
        before = λ k q. let z : n ≡ k = cc in omega arith;
        least = λ r m q. absurd (Memᴰ.not-nil m);
      }
  finds (x ∷ xs) b n e = finds_more b x xs n (finds xs (lower_of level s b x) n e)

  -- THE LOWEST: what the fold answers is the lowest label of the records that match
  pub lowest-found : (run : List Record) (n : ℕ) → lowest_of run level s ≡ Some n → LowestInRun run level s n
  unfolding lowest_of
  lowest-found run n e =
      let f = finds run None n e in
      record {
        found = ⊎_elim (λ z. let y : ◌≡◌ {A = ℕ} 0 1 = cc in absurd (omega arith)) (λ g. g) f.found;
        least = f.least;
      }

  -- and it answers none exactly where none matches
  kept : (run : List Record) (b : Option ℕ) → Unmatched run level s → from b run ≡ b
  unfolding lower_of
  kept [] b u = refl
  kept (x ∷ xs) b u = rw (u x (Memᴰ.head refl)) (kept xs b (λ r m. u r (Memᴰ.tail m)))

  pub lowest-none : (run : List Record) → Unmatched run level s → lowest_of run level s ≡ None
  unfolding lowest_of
  lowest-none run u = kept run None u

  gone : (run : List Record) (k : ℕ) → from (Some k) run ≡ None → ⊥
  unfolding lower_of
  gone [] k e = let z : ◌≡◌ {A = ℕ} 0 1 = cc in omega arith
  gone (x ∷ xs) k e = by-test (matches level s x) (gone xs k) (gone xs (cond (ltb x.label k) x.label k)) e
    where
      by-test : (t : Bool) → (from (Some k) xs ≡ None → ⊥) → (from (Some (cond (ltb x.label k) x.label k)) xs ≡ None → ⊥) → from (cond t (lower_label x.label (Some k)) (Some k)) xs ≡ None → ⊥
      by-test true one other e = other e
      by-test false one other e = one e

  pub none-lowest : (run : List Record) → lowest_of run level s ≡ None → Unmatched run level s
  unfolding lowest_of lower_of
  none-lowest [] e = λ r m. absurd (Memᴰ.not-nil m)
  none-lowest (x ∷ xs) e = by-test (matches level s x) refl (none-lowest xs) (gone xs x.label) e
    where
      by-test : (t : Bool) → matches level s x ≡ t → (from None xs ≡ None → Unmatched xs level s) → (from (Some x.label) xs ≡ None → ⊥) → from (cond t (lower_label x.label None) None) xs ≡ None → Unmatched (x ∷ xs) level s
      by-test true q more out e = λ r m. absurd (out e)
      by-test false q more out e = λ r m. ⊎_elim (λ z. ap (matches level s) z ∙ q) (λ t. more e r t) (Memᴰ.cases_cons m)

-- a set with a bit that is no category is none that can be searched for
pub unknown-unmatched : (r : Record) (level : ℕ) (s : CategorySet) → sought level s ≡ true → known_set r.set ≡ false → matches level s r ≡ false
unfolding sought
unknown-unmatched r level s h u =
    not_so (matches level s r)
    (λ e.
    let z = (category_sets.equal r.set s).0 (and_both (eqb r.level level) (same_set r.set s) e).1 in
    no (sym u ∙ ap known_set z ∙ (and_both (is_level level) (known_set s) h).1))

-- ---- by whether the level and the set can be searched for

module _ (level : ℕ) (s : CategorySet) where
  pub searched-none : (count : ℕ) → sought level s ≡ false → searched count level s ≡ 0
  unfolding searched
  searched-none count h = ap (λ (t : Bool). cond t count 0) h

  pub searched-all : (count : ℕ) → sought level s ≡ true → searched count level s ≡ count
  unfolding searched
  searched-all count h = ap (λ (t : Bool). cond t count 0) h

  pub settled_refused : (b : Option ℕ) → sought level s ≡ false → settled_of b level s ≡ Err bad_level_or_category
  unfolding settled_of
  settled_refused b h = ap (λ (t : Bool). cond t (Ok b) (Err bad_level_or_category)) h

  pub settled_said : (b : Option ℕ) → sought level s ≡ true → settled_of b level s ≡ Ok b
  unfolding settled_of
  settled_said b h = ap (λ (t : Bool). cond t (Ok b) (Err bad_level_or_category)) h

  -- no more records are looked at than there are
  pub searched-within : (count : ℕ) → searched count level s ≤ count
  unfolding searched
  searched-within count = by-test (sought level s)
    where
      by-test : (t : Bool) → cond t count 0 ≤ count
      by-test true = omega arith
      by-test false = omega arith

-- ---- the best so far

module _ (run : List Record) (level : ℕ) (s : CategorySet) where
  -- b is the best of the first i records: with those that are left it makes the best of the run
  abbrev pub Left : Option ℕ → ℕ → Type 0
  Left b i = foldl (lower_of level s) b (drop i run) ≡ lowest_of run level s

  pub left_start : Left None 0
  unfolding lowest_of
  left_start = refl

  pub left_next : (z : Record) (b r : Option ℕ) (i : ℕ) → i < length run → r ≡ lower_of level s b (get_or run i z) → Left b i → Left r (i + 1)
  left_next z b r i h e l = rw (e, add-one) (sym (rw (drop-cons run i z h)) ∙ l)

  -- what is answered at the end: either all records were looked at, or the level or the set is refused
  pub left_settled : (b : Option ℕ) (i : ℕ) → searched (length run) level s ≤ i → Left b i → settled_of b level s ≡ run_of run level s
  unfolding settled_of run_of searched
  left_settled b i h l = by-test (sought level s) h
    where
      by-test : (t : Bool) → cond t (length run) 0 ≤ i → cond t (Ok b) (Err bad_level_or_category) ≡ cond t (Ok (lowest_of run level s)) (Err bad_level_or_category)
      by-test true h = let e : b ≡ lowest_of run level s = sym (rw (drop_of_length-le run {i = i} h)) ∙ l in rw e
      by-test false h = refl

-- ---- what a search says

module _ (run : List Record) (level : ℕ) (s : CategorySet) where
  -- 9 is answered wherever the level or the set cannot be searched for
  pub run-refused : sought level s ≡ false → run_of run level s ≡ Err bad_level_or_category
  unfolding run_of
  run-refused h = settled_refused level s (lowest_of run level s) h

  -- and nothing else is ever refused: a run never gets 0
  pub run-refused_9 : (why : Refusal) → run_of run level s ≡ Err why → (why ≡ bad_level_or_category) × (sought level s ≡ false)
  unfolding run_of settled_of
  run-refused_9 why e = by-test (sought level s) refl (lowest_of run level s) e
    where
      by-test : (t : Bool) → sought level s ≡ t → (b : Option ℕ) → cond t (Ok b) (Err bad_level_or_category) ≡ Err why → (why ≡ bad_level_or_category) × (sought level s ≡ false)
      by-test true h b e = let z : ◌≡◌ {A = ℕ} 0 1 = cc in absurd (omega arith)
      by-test false h b e = (cc, h)

  -- a label number that is answered is the lowest of those whose level and set both match
  pub run-found : (n : ℕ) → run_of run level s ≡ Ok (Some n) → LowestInRun run level s n
  unfolding run_of settled_of
  run-found n e = lowest-found level s run n (by-test (sought level s) (lowest_of run level s) e)
    where
      by-test : (t : Bool) (b : Option ℕ) → cond t (Ok b) (Err bad_level_or_category) ≡ Ok (Some n) → b ≡ Some n
      by-test true b e = cc
      by-test false b e = let z : ◌≡◌ {A = ℕ} 0 1 = cc in absurd (omega arith)

  -- none is answered exactly where none matches
  pub run_none : sought level s ≡ true → Unmatched run level s → run_of run level s ≡ Ok None
  unfolding run_of
  run_none h u = settled_said level s (lowest_of run level s) h ∙ ap Ok (lowest-none level s run u)

  pub none-run : run_of run level s ≡ Ok None → Unmatched run level s
  unfolding run_of settled_of
  none-run e = none-lowest level s run (by-test (sought level s) (lowest_of run level s) e)
    where
      by-test : (t : Bool) (b : Option ℕ) → cond t (Ok b) (Err bad_level_or_category) ≡ Ok None → b ≡ None
      by-test true b e = cc
      by-test false b e = let z : ◌≡◌ {A = ℕ} 0 1 = cc in absurd (omega arith)

-- ---- the records of three lists

-- there are as many as the shortest has room for
pub records_length : (a b c : List ℕ) → Shortest (length a) (length b) (length c / 3) (length (records_of a b c))
unfolding records_of
records_length [] b c = record { first = omega arith; second = omega arith; third = omega arith; one = λ p q r. omega arith }
records_length (u ∷ a) [] c = record { first = omega arith; second = omega arith; third = omega arith; one = λ p q r. omega arith }
records_length (u ∷ a) (v ∷ b) [] = record { first = omega arith; second = omega arith; third = omega arith; one = λ p q r. omega arith }
records_length (u ∷ a) (v ∷ b) (x ∷ []) = record { first = omega arith; second = omega arith; third = omega arith; one = λ p q r. omega arith }
records_length (u ∷ a) (v ∷ b) (x ∷ y ∷ []) = record { first = omega arith; second = omega arith; third = omega arith; one = λ p q r. omega arith }
records_length (u ∷ a) (v ∷ b) (x ∷ y ∷ z ∷ c) = let h = records_length a b c in record { first = omega arith; second = omega arith; third = omega arith; one = λ p q r. h.one (omega arith) (omega arith) (omega arith) }

pub records_many : (a b c : List ℕ) (i : ℕ) → (i < length (records_of a b c)) ↔ ((i < length a) × (i < length b) × (i * 3 + 2 < length c))
records_many a b c i =
    let h = records_length a b c in (
      λ l. (omega (arith, h.first), omega (arith, h.second), omega (arith, h.third)),
      λ w. by_order (ltb i (length (records_of a b c))) refl w h,
    )
  where
    by_order :
        (t : Bool) →
        ltb i (length (records_of a b c)) ≡ t →
        (i < length a) × (i < length b) × (i * 3 + 2 < length c) →
        Shortest (length a) (length b) (length c / 3) (length (records_of a b c)) →
        i < length (records_of a b c)
    by_order true e w h = ltb-true _ _ e
    by_order false e w h =
        let l = ltb-false i (length (records_of a b c)) e in
        absurd (h.one (omega (arith, w.0)) (omega (arith, w.1)) (omega (arith, w.2)))

-- two shortest lengths are equal
pub shortest_same : (a b c m n : ℕ) → Shortest a b c m → Shortest a b c n → m ≡ n
shortest_same a b c m n p q = by-test (ltb m n) (ltb n m) refl refl
  where
    by-test : (t u : Bool) → ltb m n ≡ t → ltb n m ≡ u → m ≡ n
    by-test true u e f = let h = ltb-true m n e in absurd (p.one (omega arith) (omega arith) (omega arith))
    by-test false true e f = let h = ltb-true n m f in absurd (q.one (omega arith) (omega arith) (omega arith))
    by-test false false e f = omega (arith, ltb-false m n e, ltb-false n m f)

-- record i has element i of each, and the three words from 3 i on
abbrev record_at : List ℕ → List ℕ → List ℕ → ℕ → Record
record_at a b c i = record { label = get_or a i 0; level = get_or b i 0; set = record { first = get_or c (i * 3) 0; second = get_or c (i * 3 + 1) 0; third = get_or c (i * 3 + 2) 0 } }

pub records_at : (a b c : List ℕ) (i : ℕ) (d : Record) → i < length (records_of a b c) → get_or (records_of a b c) i d ≡ record_at a b c i
unfolding records_of
records_at [] b c i d h = absurd (omega arith)
records_at (u ∷ a) [] c i d h = absurd (omega arith)
records_at (u ∷ a) (v ∷ b) [] i d h = absurd (omega arith)
records_at (u ∷ a) (v ∷ b) (x ∷ []) i d h = absurd (omega arith)
records_at (u ∷ a) (v ∷ b) (x ∷ y ∷ []) i d h = absurd (omega arith)
records_at (u ∷ a) (v ∷ b) (x ∷ y ∷ z ∷ c) zero d h = refl
records_at (u ∷ a) (v ∷ b) (x ∷ y ∷ z ∷ c) (suc i) d h =
    let e₀ : suc i * 3 ≡ suc (suc (suc (i * 3))) = omega arith in
    let e₁ : suc i * 3 + 1 ≡ suc (suc (suc (i * 3 + 1))) = omega arith in
    let e₂ : suc i * 3 + 2 ≡ suc (suc (suc (i * 3 + 2))) = omega arith in
    rw (e₁, e₂, e₀) (records_at a b c i d (omega arith))

-- one record more is looked at
pub records_next :
    (a b c : List ℕ) (level : ℕ) (s : CategorySet) (m r : Option ℕ) (i : ℕ) →
    i < length (records_of a b c) →
    r ≡ lower_of level s m (record_at a b c i) →
    Left (records_of a b c) level s m i →
    Left (records_of a b c) level s r (i + 1)
records_next a b c level s m r i h e l =
    let z : Record = record { label = 0; level = 0; set = no_categories } in
    left_next (records_of a b c) level s z m r i h (e ∙ ap (lower_of level s m) (sym (records_at a b c i z h))) l

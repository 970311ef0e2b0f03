-- Labels that enter: which they are, in which order, and that every other keeps its number. Assumes nothing.
use mathlib.Core.Path.{◌≡◌, refl, sym, ap, ◌∙◌, subst}
use mathlib.Core.Bool.{Bool, true, false, cond, not, ◌||◌, or-true}
use mathlib.Core.Logic.{⊎_elim}
use mathlib.Core.List.{List, [], ◌∷◌, ◌++◌, append_assoc, append-nil, map, foldl}
use Prim.Native.Nat.{ℕ, zero, suc, ◌<◌, ◌≤◌}
use native.Mathlib.Omega.{arith}
use native.Mathlib.Nat.{le_of_suc-le-suc, eq-or-lt_of_le}
use lib.ListN.{length, get_or, drop, length-append, get_or-append}
use lib.Seq.{take_at, drop_at, get_or_at}
use lib.Dec.{eqb}
use borrow.Author.Tests.{eq-eqb, ne_eqb}
use Rattle.search.specs.Search.{first, all, those, later, place_of}
use Rattle.search.specs.Bytes.{same_bytes}
use Rattle.std.proofs.Common.{Option, Some, None}
use Rattle.search.proofs.Laws.{no, and_both, not_so, same_refl, same-equal, first-is, first-at, first-map, Distinct, Front, front_same, front-more}
use Rattle.store.specs.Table.{Table, labels_entered, enter, number_in}
use Rattle.store.proofs.Pairs.{enter-front, enter-once}
use Rattle.access.specs.Access.{is_found, on_list}
use Rattle.onlycap.specs.Within.{joined}
use Rattle.onlycap.proofs.Laws.{joined-all}
use Rattle.grown.proofs.Sane.{one_label}
use Rattle.effects.specs.Labels.{among, first_place, FirstAppearances, new_of, Enter}

-- ---- whether a search finds something

pub or_false : (b : Bool) → (b || false) ≡ b
or_false true = refl
or_false false = refl

pub or_assoc : (a b c : Bool) → ((a || b) || c) ≡ (a || (b || c))
or_assoc true b c = refl
or_assoc false b c = refl

found-later : (b : Bool) (f : Option ℕ) → is_found (cond b (Some zero) (later f)) ≡ (b || is_found f)
found-later true f = refl
found-later false (Some k) = refl
found-later false None = refl

pub found_cons : {A : Type 0} (p : A → Bool) (x : A) (xs : List A) → is_found (first p (x ∷ xs)) ≡ (p x || is_found (first p xs))
unfolding first
found_cons p x xs = found-later (p x) (first p xs)

pub found_snoc : {A : Type 0} (p : A → Bool) (l : List A) (x : A) → is_found (first p (l ++ (x ∷ []))) ≡ (is_found (first p l) || p x)
unfolding first
found_snoc p [] x = found-later (p x) None ∙ or_false (p x)
found_snoc p (y ∷ ys) x =
    found-later (p y) (first p (ys ++ (x ∷ [])))
    ∙ ap (λ (b : Bool). p y || b) (found_snoc p ys x)
    ∙ sym (or_assoc (p y) (is_found (first p ys)) (p x))
    ∙ ap (λ (b : Bool). b || p x) (sym (found-later (p y) (first p ys)))

-- an entry that passes is found
pub found_some : {A : Type 0} (p : A → Bool) (d : A) (l : List A) (k : ℕ) → k < length l → p (get_or l k d) ≡ true → is_found (first p l) ≡ true
found_some p d [] k h e = absurd (omega arith)
found_some p d (x ∷ xs) zero h e = found_cons p x xs ∙ rw e
found_some p d (x ∷ xs) (suc k) h e = found_cons p x xs ∙ rw (found_some p d xs k (le_of_suc-le-suc h) e) (or-true (p x))

-- what is found has a place
pub found-at : (f : Option ℕ) → is_found f ≡ true → f ≡ Some (place_of f 0)
found-at (Some k) e = refl
found-at None e = absurd (no e)

-- tests that agree on what passes a third find the same among what passes it
pub first_agree : {A : Type 0} (p q c : A → Bool) → ((x : A) → c x ≡ true → p x ≡ q x) → (l : List A) → all c l ≡ true → first p l ≡ first q l
unfolding first all
first_agree p q c h [] e = refl
first_agree p q c h (x ∷ xs) e =
    let b = and_both (c x) (all c xs) e in
    rw (h x b.0, first_agree p q c h xs b.1)

-- ---- a label enters, and labels enter one after the other

pub among-enter : (x g : List ℕ) (ls : List (List ℕ)) → among x (enter ls g) ≡ (among x ls || same_bytes x g)
among-enter x g ls = by-found (first (same_bytes g) ls) refl
  where
    by-same : (b : Bool) → same_bytes x g ≡ b → among g ls ≡ true → among x ls ≡ (among x ls || b)
    by-same true e h = let z : among x ls ≡ true = ap (λ (y : List ℕ). among y ls) (same-equal x g e) ∙ h in rw z
    by-same false e h = sym (or_false (among x ls))

    by-found : (f : Option ℕ) → first (same_bytes g) ls ≡ f → among x (labels_entered f ls g) ≡ (among x ls || same_bytes x g)
    by-found (Some k) e = by-same (same_bytes x g) refl (ap is_found e)
    by-found None e = found_snoc (same_bytes x) ls g

pub among-fold : (x : List ℕ) (fs ls : List (List ℕ)) → among x (foldl enter ls fs) ≡ (among x ls || among x fs)
unfolding first
among-fold x [] ls = sym (or_false (among x ls))
among-fold x (f ∷ fs) ls =
    among-fold x fs (enter ls f)
    ∙ ap (λ (b : Bool). b || among x fs) (among-enter x f ls)
    ∙ or_assoc (among x ls) (same_bytes x f) (among x fs)
    ∙ ap (λ (b : Bool). among x ls || b) (sym (found_cons (same_bytes x) f fs))

pub fold-front : (fs ls : List (List ℕ)) → Front ls (foldl enter ls fs)
fold-front [] ls = front_same ls
fold-front (f ∷ fs) ls = front-more (enter-front ls f) (fold-front fs (enter ls f))

fold-once : (fs ls : List (List ℕ)) → Distinct same_bytes [] ls → Distinct same_bytes [] (foldl enter ls fs)
fold-once [] ls h = h
fold-once (f ∷ fs) ls h = fold-once fs (enter ls f) (enter-once ls f h)

-- ---- the different ones of some fields

module _ (fs : List (List ℕ)) where
  -- of the first n fields
  record Ordered (n : ℕ) (ds : List (List ℕ)) : Type 0 where
    below : (k : ℕ) → k < length ds → first_place fs (get_or ds k []) < n
    order : (j k : ℕ) → j < k → k < length ds → first_place fs (get_or ds j []) < first_place fs (get_or ds k [])

  ordered_snoc : (n : ℕ) (ds : List (List ℕ)) (g : List ℕ) → Ordered n ds → first_place fs g ≡ n → Ordered (suc n) (ds ++ (g ∷ []))
  ordered_snoc n ds g h e = record { below = is_below; order = in_order }
    where
      last : get_or (ds ++ (g ∷ [])) (length ds) [] ≡ g
      last = get_or_at ds g [] [] (length ds) refl

      before : (k : ℕ) → k < length ds → get_or (ds ++ (g ∷ [])) k [] ≡ get_or ds k []
      before k i = get_or-append ds (g ∷ []) [] k i

      long : length (ds ++ (g ∷ [])) ≡ suc (length ds)
      long = length-append ds (g ∷ []) ∙ omega arith

      or-last : (k : ℕ) → k < length (ds ++ (g ∷ [])) → k ≤ length ds
      or-last k i = omega (arith, long)

      is_below : (k : ℕ) → k < length (ds ++ (g ∷ [])) → first_place fs (get_or (ds ++ (g ∷ [])) k []) < suc n
      is_below k i =
          ⊎_elim
          (λ (z : k ≡ length ds). rw (z, last, e) (omega arith))
          (λ (q : k < length ds). rw (before k q) (omega (arith, h.below k q)))
          (eq-or-lt_of_le (or-last k i))

      in_order : (j k : ℕ) → j < k → k < length (ds ++ (g ∷ [])) → first_place fs (get_or (ds ++ (g ∷ [])) j []) < first_place fs (get_or (ds ++ (g ∷ [])) k [])
      in_order j k a i =
          ⊎_elim
          (λ (z : k ≡ length ds). let b : j < length ds = omega arith in rw (z, last, e, before j b) (h.below j b))
          (λ (q : k < length ds). let b : j < length ds = omega arith in rw (before k q, before j b) (h.order j k a q))
          (eq-or-lt_of_le (or-last k i))

  -- a field that was passed has entered
  joined-has : (ls : List (List ℕ)) (n m : ℕ) → m < n → among (get_or fs m []) (joined ls fs n) ≡ true
  unfolding joined
  joined-has ls zero m h = absurd (omega arith)
  joined-has ls (suc n) m h =
      among-enter (get_or fs m []) (get_or fs n []) (joined ls fs n)
      ∙ ⊎_elim
      (λ (z : m ≡ n). rw (z, same_refl (get_or fs n [])) (or-true (among (get_or fs n []) (joined ls fs n))))
      (λ (q : m < n). rw (joined-has ls n m q))
      (eq-or-lt_of_le (le_of_suc-le-suc h))

  joined_ordered : (n : ℕ) → n ≤ length fs → Ordered n (joined [] fs n)
  unfolding joined
  joined_ordered zero h = record { below = λ k i. absurd (omega arith); order = λ j k a i. absurd (omega arith) }
  joined_ordered (suc n) h = by-found (first (same_bytes (get_or fs n [])) (joined [] fs n)) refl (joined_ordered n (omega arith))
    where
      new : first (same_bytes (get_or fs n [])) (joined [] fs n) ≡ None → first (same_bytes (get_or fs n [])) fs ≡ Some n
      new e =
          first-at (same_bytes (get_or fs n [])) [] fs n h
          (λ m i.
          not_so (same_bytes (get_or fs n []) (get_or fs m []))
          (λ q. no (sym (ap is_found e) ∙ ap (λ (x : List ℕ). among x (joined [] fs n)) (same-equal (get_or fs n []) (get_or fs m []) q) ∙ joined-has [] n m i)))
          (same_refl (get_or fs n []))

      by-found :
          (f : Option ℕ) →
          first (same_bytes (get_or fs n [])) (joined [] fs n) ≡ f →
          Ordered n (joined [] fs n) →
          Ordered (suc n) (labels_entered f (joined [] fs n) (get_or fs n []))
      by-found (Some k) e o = record { below = λ j i. omega (arith, o.below j i); order = o.order }
      by-found None e o = ordered_snoc n (joined [] fs n) (get_or fs n []) o (ap (λ (f : Option ℕ). place_of f 0) (new e))

pub appearances : (fs : List (List ℕ)) → FirstAppearances fs (foldl enter [] fs)
unfolding first
appearances fs =
    record {
      same = λ x. among-fold x fs [];
      once = fold-once fs [] (λ k h. absurd (omega arith));
      order = (subst (Ordered fs (length fs)) (joined-all [] fs) (joined_ordered fs (length fs) (omega arith))).order;
    }

-- ---- the new ones, behind the labels that were there

found-append : (x : List ℕ) (ls ds : List (List ℕ)) → among x (ls ++ ds) ≡ (among x ls || among x ds)
unfolding first
found-append x [] ds = refl
found-append x (l ∷ ls) ds =
    found_cons (same_bytes x) l (ls ++ ds)
    ∙ ap (λ (b : Bool). same_bytes x l || b) (found-append x ls ds)
    ∙ sym (or_assoc (same_bytes x l) (among x ls) (among x ds))
    ∙ ap (λ (b : Bool). b || among x ds) (sym (found_cons (same_bytes x) l ls))

enter-by : (ls : List (List ℕ)) (x : List ℕ) → enter ls x ≡ cond (among x ls) ls (ls ++ (x ∷ []))
enter-by ls x = by-found (first (same_bytes x) ls)
  where
    by-found : (f : Option ℕ) → labels_entered f ls x ≡ cond (is_found f) ls (ls ++ (x ∷ []))
    by-found (Some i) = refl
    by-found None = refl

fold-behind : (ls fs ds : List (List ℕ)) → foldl enter (ls ++ ds) fs ≡ ls ++ foldl enter ds (those (λ (x : List ℕ). not (among x ls)) fs)
fold-behind ls [] ds = refl
fold-behind ls (f ∷ fs) ds =
    ap (λ (x : List (List ℕ)). foldl enter x fs) (enter-by (ls ++ ds) f)
    ∙ ap (λ (b : Bool). foldl enter (cond b (ls ++ ds) ((ls ++ ds) ++ (f ∷ []))) fs) (found-append f ls ds)
    ∙ by_tests (among f ls) (among f ds) refl (fold-behind ls fs)
  where
    by_tests :
        (a b : Bool) →
        among f ds ≡ b →
        ((ds : List (List ℕ)) → foldl enter (ls ++ ds) fs ≡ ls ++ foldl enter ds (those (λ (x : List ℕ). not (among x ls)) fs)) →
        foldl enter (cond (a || b) (ls ++ ds) ((ls ++ ds) ++ (f ∷ []))) fs
        ≡ ls ++ foldl enter ds (cond (not a) (f ∷ those (λ (x : List ℕ). not (among x ls)) fs) (those (λ (x : List ℕ). not (among x ls)) fs))
    by_tests true b e ih = ih ds
    by_tests false true e ih =
        ih ds
        ∙ ap (λ (x : List (List ℕ)). ls ++ foldl enter x (those (λ (y : List ℕ). not (among y ls)) fs)) (sym (enter-by ds f ∙ rw e))
    by_tests false false e ih =
        ap (λ (x : List (List ℕ)). foldl enter x fs) (append_assoc ls ds (f ∷ []))
        ∙ ih (ds ++ (f ∷ []))
        ∙ ap (λ (x : List (List ℕ)). ls ++ foldl enter x (those (λ (y : List ℕ). not (among y ls)) fs)) (sym (enter-by ds f ∙ rw e))

-- the labels that were written have entered
pub entering : (t t' : Table) (written : List (List ℕ)) → t'.labels ≡ foldl enter t.labels written → Enter t t' written
entering t t' written e =
    record {
      kept = rw is (take_at t.labels (foldl enter [] (new_of t written)) (length t.labels) refl);
      new =
          subst (FirstAppearances (new_of t written))
          (sym (ap (drop (length t.labels)) is ∙ drop_at t.labels (foldl enter [] (new_of t written)) (length t.labels) refl))
          (appearances (new_of t written));
    }
  where
    is : t'.labels ≡ t.labels ++ foldl enter [] (new_of t written)
    is = e ∙ ap (λ (ls : List (List ℕ)). foldl enter ls written) (sym (append-nil t.labels)) ∙ fold-behind t.labels written []

-- ---- labels by their numbers among others that have them all

abbrev pub in_all : List (List ℕ) → List ℕ → Bool
in_all ls d = among d ls

pub number_back : (ls : List (List ℕ)) (d : List ℕ) → among d ls ≡ true → get_or ls (number_in ls d) [] ≡ d
number_back ls d e = sym (same-equal d _ (first-is (same_bytes d) [] ls (number_in ls d) (found-at (first (same_bytes d) ls) e)).1)

pub numbers_back : (ls ds : List (List ℕ)) → all (in_all ls) ds ≡ true → map (λ (k : ℕ). get_or ls k []) (map (number_in ls) ds) ≡ ds
unfolding all
numbers_back ls [] e = refl
numbers_back ls (d ∷ ds) e =
    let b = and_both (among d ls) (all (in_all ls) ds) e in
    rw (number_back ls d b.0, numbers_back ls ds b.1)

-- a number is on_list exactly where its label is
pub number-listed :
    (ls ds : List (List ℕ)) →
    all (in_all ls) ds ≡ true →
    (x : List ℕ) (i : ℕ) →
    first (same_bytes x) ls ≡ Some i →
    on_list (map (number_in ls) ds) (Some i) ≡ among x ds
number-listed ls ds e x i q =
    ap is_found (first-map (eqb i) (number_in ls) ds ∙ first_agree (λ (d : List ℕ). eqb i (number_in ls d)) (same_bytes x) (in_all ls) agree ds e)
  where
    agree : (d : List ℕ) → among d ls ≡ true → eqb i (number_in ls d) ≡ same_bytes x d
    agree d h = by-test (same_bytes x d) refl
      where
        by-test : (b : Bool) → same_bytes x d ≡ b → eqb i (number_in ls d) ≡ b
        by-test true z = eq-eqb _ _ (sym (ap (λ (y : List ℕ). number_in ls y) (sym (same-equal x d z)) ∙ ap (λ (f : Option ℕ). place_of f 0) q))
        by-test false z =
            ne_eqb _ _
            (λ w. no (sym z ∙ ap (λ (y : List ℕ). same_bytes y d) (one_label ls x d i q (found-at (first (same_bytes d) ls) h ∙ ap Some (sym w))) ∙ same_refl d))

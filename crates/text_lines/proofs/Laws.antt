-- Laws of the lines of a text: its bytes before a newline, and the line from an index on. Assumes nothing.
use mathlib.Core.Path.{◌≡◌, refl, sym, ap, ◌∙◌, subst}
use mathlib.Core.Bool.{Bool, true, false, ◌||◌, or-true, or-false}
use mathlib.Core.List.{List, [], ◌∷◌, ◌++◌}
use Prim.Native.Nat.{ℕ, zero, suc, ◌+◌, ◌-◌, ◌<◌, ◌≤◌}
use native.Mathlib.Numerals.{add-one}
use native.Mathlib.Omega.{arith}
use lib.Dec.{eqb, ltb}
use borrow.Author.Tests.{ltb-true, ltb-false, eqb-true, eqb-false, lt-ltb, le-ltb, eq-eqb, ne_eqb}
use lib.ListN.{length, take, drop, get_or, length-drop, take-append-drop, drop_of_length-le}
use lib.Seq.{drop-cons, drop-drop, get_or-drop, take-add, take_all, take-length}
use Rattle.text_lines.specs.Within.{before_newline, NoNewline}

-- ---- bytes with no newline

newline-here : (b : ℕ) (bs : List ℕ) → b ≡ 10 → before_newline (b ∷ bs) ≡ 0
unfolding before_newline
newline-here b bs e = rw (eq-eqb b 10 e)

newline-later : (b : ℕ) (bs : List ℕ) → (b ≡ 10 → ⊥) → before_newline (b ∷ bs) ≡ suc (before_newline bs)
unfolding before_newline
newline-later b bs e = rw (ne_eqb b 10 e)

-- a byte is a newline or it is not
pub newline_or : {P : Type 0} (b : ℕ) → (b ≡ 10 → P) → ((b ≡ 10 → ⊥) → P) → P
newline_or {P} b is is-not = by-test (eqb b 10) refl
  where
    by-test : (t : Bool) → eqb b 10 ≡ t → P
    by-test true e = is (eqb-true b 10 e)
    by-test false e = is-not (eqb-false b 10 e)

pub newline-within : (text : List ℕ) → before_newline text ≤ length text
unfolding before_newline
newline-within [] = omega arith
newline-within (b ∷ bs) =
    let ih = newline-within bs in
    newline_or b (λ e. omega (arith, newline-here b bs e)) (λ e. omega (arith, newline-later b bs e, ih))

-- at an index of a text: a newline is there, or the first one is that of the bytes behind
pub newline-at : (text : List ℕ) (i : ℕ) → i < length text → get_or text i 0 ≡ 10 → before_newline (drop i text) ≡ 0
newline-at text i h e = ap before_newline (drop-cons text i 0 h) ∙ newline-here (get_or text i 0) (drop (suc i) text) e

pub newline-behind : (text : List ℕ) (i : ℕ) → i < length text → (get_or text i 0 ≡ 10 → ⊥) → before_newline (drop i text) ≡ suc (before_newline (drop (i + 1) text))
newline-behind text i h e =
    ap before_newline (drop-cons text i 0 h)
    ∙ newline-later (get_or text i 0) (drop (suc i) text) e
    ∙ ap (λ (k : ℕ). suc (before_newline (drop k text))) (sym (add-one i))

pub newline-none : (text : List ℕ) (i : ℕ) → length text ≤ i → before_newline (drop i text) ≡ 0
unfolding before_newline
newline-none text i h = ap before_newline (drop_of_length-le text {i = i} h)

-- a newline at an index is the first one or behind it; another byte is not the first one
newline_upto : (run : List ℕ) (k : ℕ) → k < length run → get_or run k 0 ≡ 10 → before_newline run ≤ k
newline_upto [] k h q = absurd (omega arith)
newline_upto (b ∷ bs) zero h q = omega (arith, newline-here b bs q)
newline_upto (b ∷ bs) (suc k) h q =
    let ih = newline_upto bs k (omega arith) q in
    newline_or b (λ e. omega (arith, newline-here b bs e)) (λ e. omega (arith, newline-later b bs e, ih))

newline-other : (run : List ℕ) (k : ℕ) → k < length run → (get_or run k 0 ≡ 10 → ⊥) → before_newline run ≡ k → ⊥
newline-other [] k h q z = absurd (omega arith)
newline-other (b ∷ bs) zero h q z = omega (arith, newline-later b bs q)
newline-other (b ∷ bs) (suc k) h q z =
    newline_or b (λ e. omega (arith, newline-here b bs e)) (λ e. newline-other bs k (omega arith) q (omega (arith, z, newline-later b bs e)))

-- whether the first newline from `at` on is among n bytes, and one more
pub newline-among : (text : List ℕ) (at n : ℕ) → at + n < length text → ltb (before_newline (drop at text)) (n + 1) ≡ (ltb (before_newline (drop at text)) n || eqb (get_or text (at + n) 0) 10)
newline-among text at n h = rw (← get_or-drop at text n 0) (newline_or (get_or run n 0) here other)
  where
    run : List ℕ
    run = drop at text

    before : ℕ
    before = before_newline run

    within : n < length run
    within = omega (arith, length-drop at text)

    here : get_or run n 0 ≡ 10 → ltb before (n + 1) ≡ (ltb before n || eqb (get_or run n 0) 10)
    here e = rw (eq-eqb (get_or run n 0) 10 e, lt-ltb before (n + 1) (omega (arith, newline_upto run n within e)), or-true (ltb before n))

    by-test : (before ≡ n → ⊥) → (t : Bool) → ltb before n ≡ t → ltb before (n + 1) ≡ t
    by-test z true e = lt-ltb before (n + 1) (omega (arith, ltb-true before n e))
    by-test z false e = le-ltb before (n + 1) (omega (arith, z, ltb-false before n e))

    other : (get_or run n 0 ≡ 10 → ⊥) → ltb before (n + 1) ≡ (ltb before n || eqb (get_or run n 0) 10)
    other e = rw (ne_eqb (get_or run n 0) 10 e, or-false (ltb before n)) (by-test (newline-other run n within e) (ltb before n) refl)

-- where none of n bytes is a newline, the first one is that of the bytes behind them
pub newline_past : (text : List ℕ) (at n : ℕ) → at + n ≤ length text → ltb (before_newline (drop at text)) n ≡ false → before_newline (drop at text) ≡ n + before_newline (drop (at + n) text)
newline_past text at n h e = rw (← drop-drop n at text) (passed (drop at text) n (omega (arith, length-drop at text)) (ltb-false _ n e))
  where
    passed : (run : List ℕ) (k : ℕ) → k ≤ length run → k ≤ before_newline run → before_newline run ≡ k + before_newline (drop k run)
    passed run zero h m = omega arith
    passed [] (suc k) h m = absurd (omega arith)
    passed (b ∷ bs) (suc k) h m =
        newline_or b (λ e. absurd (omega (arith, m, newline-here b bs e)))
        (λ e. let z = newline-later b bs e in omega (arith, z, passed bs k (omega arith) (omega (arith, m, z))))

-- the first newline of a run, or that it has none, by the test of each byte
newline-first : (run : List ℕ) (k : ℕ) → k < length run → eqb (get_or run k 0) 10 ≡ true → ((j : ℕ) → 0 ≤ j → j < k → eqb (get_or run j 0) 10 ≡ true → ⊥) → before_newline run ≡ k
newline-first [] k h e f = absurd (omega arith)
newline-first (b ∷ bs) zero h e f = newline-here b bs (eqb-true b 10 e)
newline-first (b ∷ bs) (suc k) h e f =
    newline-later b bs (λ z. f 0 (omega arith) (omega arith) (eq-eqb b 10 z)) ∙ ap suc (newline-first bs k (omega arith) e (λ j l m. f (suc j) (omega arith) (omega arith)))

newline-nowhere : (run : List ℕ) → ((j : ℕ) → 0 ≤ j → j < length run → eqb (get_or run j 0) 10 ≡ true → ⊥) → before_newline run ≡ length run
unfolding before_newline
newline-nowhere [] f = refl
newline-nowhere (b ∷ bs) f = newline-later b bs (λ z. f 0 (omega arith) (omega arith) (eq-eqb b 10 z)) ∙ ap suc (newline-nowhere bs (λ j l m. f (suc j) (omega arith) (omega arith)))

-- the same of the slice from an index of a text on
pub newline-found :
    (text : List ℕ) (from k : ℕ) →
    k < length (take (length text - from) (drop from text)) →
    eqb (get_or (take (length text - from) (drop from text)) k 0) 10 ≡ true →
    ((j : ℕ) → 0 ≤ j → j < k → eqb (get_or (take (length text - from) (drop from text)) j 0) 10 ≡ true → ⊥) →
    before_newline (drop from text) ≡ k
newline-found text from k = let e : length (drop from text) ≡ length text - from = length-drop from text in rw (← e, take-length) (newline-first (drop from text) k)

pub newline-missing :
    (text : List ℕ) (from : ℕ) →
    ((j : ℕ) → 0 ≤ j → j < length (take (length text - from) (drop from text)) → eqb (get_or (take (length text - from) (drop from text)) j 0) 10 ≡ true → ⊥) →
    before_newline (drop from text) ≡ length text - from
newline-missing text from =
    let e : length (drop from text) ≡ length text - from = length-drop from text in
    rw (← e, take-length) (newline-nowhere (drop from text))

pub run-first : (b : ℕ) (bs : List ℕ) → NoNewline (b ∷ bs) → b ≡ 10 → ⊥
run-first b bs e q = omega (arith, newline-here b bs q)

pub run-rest : (b : ℕ) (bs : List ℕ) → NoNewline (b ∷ bs) → NoNewline bs
run-rest b bs e = omega (arith, newline-later b bs (run-first b bs e))

pub run_take : (n : ℕ) (run : List ℕ) → NoNewline run → NoNewline (take n run)
unfolding before_newline
run_take zero run e = refl
run_take (suc n) [] e = refl
run_take (suc n) (b ∷ bs) e = newline-later b (take n bs) (run-first b bs e) ∙ ap suc (run_take n bs (run-rest b bs e))

pub run_drop : (n : ℕ) (run : List ℕ) → NoNewline run → NoNewline (drop n run)
run_drop zero run e = e
run_drop (suc n) [] e = e
run_drop (suc n) (b ∷ bs) e = run_drop n bs (run-rest b bs e)

pub run-before : (text : List ℕ) → NoNewline (take (before_newline text) text)
unfolding before_newline
run-before [] = refl
run-before (b ∷ bs) =
    let ih = run-before bs in
    newline_or b (λ e. ap (λ (n : ℕ). before_newline (take n (b ∷ bs))) (newline-here b bs e) ∙ sym (ap (λ (n : ℕ). length (take n (b ∷ bs))) (newline-here b bs e)))
    (λ e.
    let z = newline-later b bs e in
    ap (λ (n : ℕ). before_newline (take n (b ∷ bs))) z
    ∙ newline-later b (take (before_newline bs) bs) e
    ∙ ap suc ih
    ∙ sym (ap (λ (n : ℕ). length (take n (b ∷ bs))) z))

-- what stands behind the bytes before the first newline is that newline
newline_next : (text : List ℕ) → before_newline text < length text → take (suc (before_newline text)) text ≡ take (before_newline text) text ++ (10 ∷ [])
newline_next [] h = absurd (omega (arith, h))
newline_next (b ∷ bs) h =
    newline_or b (λ e. subst Next (sym (newline-here b bs e)) (ap (λ (x : ℕ). x ∷ []) e))
    (λ e. subst Next (sym (newline-later b bs e)) (ap (λ (t : List ℕ). b ∷ t) (newline_next bs (omega (arith, h, newline-later b bs e)))))
  where
    Next : ℕ → Type 0
    Next n = take (suc n) (b ∷ bs) ≡ take n (b ∷ bs) ++ (10 ∷ [])

-- the run from an index of the text to its line's end
module _ (text : List ℕ) (i end : ℕ) (h : i ≤ length text) (e : end ≡ i + before_newline (drop i text)) where
  pub end-behind : i ≤ end
  end-behind = omega (arith, e)

  pub end-within : end ≤ length text
  end-within = omega (arith, e, newline-within (drop i text), length-drop i text)

  run_is : take (end - i) (drop i text) ≡ take (before_newline (drop i text)) (drop i text)
  run_is =
      let z : end - i ≡ before_newline (drop i text) = omega (arith, e) in
      ap (λ (n : ℕ). take n (drop i text)) z

  pub run_between : NoNewline (take (end - i) (drop i text))
  run_between = subst NoNewline (sym run_is) (run-before (drop i text))

  -- the last run is all that is left of the text
  pub run-last : end ≡ length text → take (end - i) (drop i text) ≡ drop i text
  run-last q = take_all (end - i) (drop i text) (omega (arith, q, length-drop i text))

  -- what stands behind another run is its newline
  run-newline : end < length text → take (suc (before_newline (drop i text))) (drop i text) ≡ take (end - i) (drop i text) ++ (10 ∷ [])
  run-newline q = newline_next (drop i text) (omega (arith, e, q, length-drop i text)) ∙ ap (λ (t : List ℕ). t ++ (10 ∷ [])) (sym run_is)

  past : i + suc (before_newline (drop i text)) ≡ end + 1
  past = omega (arith, e)

  pub line_taken : end < length text → take (end + 1) text ≡ take i text ++ (take (end - i) (drop i text) ++ (10 ∷ []))
  line_taken q =
      ap (λ (n : ℕ). take n text) (sym past)
      ∙ take-add i (suc (before_newline (drop i text))) text
      ∙ ap (λ (t : List ℕ). take i text ++ t) (run-newline q)

  pub line-left : end < length text → drop i text ≡ (take (end - i) (drop i text) ++ (10 ∷ [])) ++ drop (end + 1) text
  line-left q =
      sym (take-append-drop (suc (before_newline (drop i text))) (drop i text))
      ∙ ap (λ (t : List ℕ). t ++ drop (suc (before_newline (drop i text))) (drop i text)) (run-newline q)
      ∙ ap (λ (t : List ℕ). (take (end - i) (drop i text) ++ (10 ∷ [])) ++ t) (drop-drop (suc (before_newline (drop i text))) i text ∙ ap (λ (n : ℕ). drop n text) past)

-- A number in decimal digits reads back as that number. Assumes nothing.
use mathlib.Core.Path.{◌≡◌, refl, sym, ap, ◌∙◌, subst}
use mathlib.Core.Bool.{Bool, true, false}
use mathlib.Core.List.{List, [], ◌∷◌, ◌++◌, foldl, foldl-append}
use mathlib.Core.Logic.{◌≢◌}
use Prim.Native.Nat.{ℕ, zero, suc, ◌+◌, ◌-◌, ◌*◌, ◌/◌, ◌%◌, ◌<◌, ◌≤◌}
use native.Mathlib.Omega.{arith}
use lib.Dec.{ltb}
use lib.ListN.{length, get_or, length-append, get_or-append}
use lib.Seq.{get_or-append_seam}
use borrow.Author.Tests.{ltb-true, ltb-false}
use Rattle.replies.specs.Replies.{decimal, Decimal, DecimalReadsBack}
use Rattle.replies.proofs.Laws.{decimal-one, decimal-more}

-- a number below 10 is one digit
one-decimal : (n : ℕ) → n < 10 → Decimal n ((48 + n) ∷ [])
one-decimal n h =
    record {
      some = omega arith;
      bytes = only;
      no_leading_zero = λ i. absurd (omega arith);
      value = omega arith;
    }
  where
    only : (k : ℕ) → k < 1 → (48 ≤ get_or ((48 + n) ∷ []) k 0) × (get_or ((48 + n) ∷ []) k 0 ≤ 57)
    only zero i = (omega arith, omega arith)
    only (suc k) i = absurd (omega arith)

-- a number's first digit is 0 only where it is 0
first-digit : (m : ℕ) (ds : List ℕ) → 1 ≤ m → Decimal m ds → get_or ds 0 0 ≢ 48
first-digit m [] some x = absurd (omega (arith, x.some))
first-digit m (a ∷ []) some x = λ e. omega (arith, x.value)
first-digit m (a ∷ b ∷ ds) some x = x.no_leading_zero (omega arith)

-- one digit more
more-decimal : (m d : ℕ) (ds : List ℕ) → 1 ≤ m → d < 10 → Decimal m ds → Decimal (m * 10 + d) (ds ++ ((48 + d) ∷ []))
more-decimal m d ds some h x =
    record {
      some = omega (arith, long);
      bytes = λ k i. by-test (ltb k (length ds)) refl (omega (arith, long));
      no_leading_zero = λ i. rw (get_or-append ds ((48 + d) ∷ []) 0 0 x.some) (first-digit m ds some x);
      value =
          foldl-append (λ (v b : ℕ). v * 10 + (b - 48)) 0 ds ((48 + d) ∷ [])
          ∙ rw x.value (omega arith);
    }
  where
    long : length (ds ++ ((48 + d) ∷ [])) ≡ length ds + 1
    long = length-append ds ((48 + d) ∷ [])

    by-test :
        {k : ℕ} (t : Bool) →
        ltb k (length ds) ≡ t →
        k < length ds + 1 →
        (48 ≤ get_or (ds ++ ((48 + d) ∷ [])) k 0) × (get_or (ds ++ ((48 + d) ∷ [])) k 0 ≤ 57)
    by-test {k} true e i =
        let z = ltb-true k (length ds) e in
        rw (get_or-append ds ((48 + d) ∷ []) 0 k z) (x.bytes k z)
    by-test {k} false e i =
        let z = ltb-false k (length ds) e in
        let last : k ≡ length ds = omega arith in
        rw (last, get_or-append_seam ds (48 + d) [] 0) (omega arith, omega arith)

-- by a bound on the number
reads_back : (k n : ℕ) → n < k → Decimal n (decimal n)
reads_back zero n h = absurd (omega arith)
reads_back (suc k) n h = by-test (ltb n 10) refl (λ less. reads_back k (n / 10) less)
  where
    by-test : (t : Bool) → ltb n 10 ≡ t → (n / 10 < k → Decimal (n / 10) (decimal (n / 10))) → Decimal n (decimal n)
    by-test true e rest = let z = ltb-true n 10 e in rw (decimal-one n z) (one-decimal n z)
    by-test false e rest =
        let z = ltb-false n 10 e in
        let parts : n / 10 * 10 + n % 10 ≡ n = omega arith in
        rw (decimal-more n z)
        (subst (λ (x : ℕ). Decimal x (decimal (n / 10) ++ ((48 + n % 10) ∷ []))) parts
        (more-decimal (n / 10) (n % 10) (decimal (n / 10)) (omega arith) (omega arith) (rest (omega arith))))

-- ---- there are no other digits that do

-- a list that has an entry, by its last one
record Last (l : List ℕ) : Type 0 where
  front : List ℕ
  end : ℕ
  is : l ≡ front ++ (end ∷ [])

last_of : (a : ℕ) (l : List ℕ) → Last (a ∷ l)
last_of a [] = record { front = []; end = a; is = refl }
last_of a (b ∷ l) = let r = last_of b l in record { front = a ∷ r.front; end = r.end; is = ap (λ (m : List ℕ). a ∷ m) r.is }

-- what is read so far does not shrink, so digits that begin with no 0 are no 0
grows : (v : ℕ) (ds : List ℕ) → v ≤ foldl (λ (w b : ℕ). w * 10 + (b - 48)) v ds
grows v [] = omega arith
grows v (d ∷ ds) = omega (arith, grows (v * 10 + (d - 48)) ds)

not_0 : (d : ℕ) (ds : List ℕ) → 48 ≤ d → d ≢ 48 → 1 ≤ foldl (λ (w b : ℕ). w * 10 + (b - 48)) 0 (d ∷ ds)
not_0 d ds h other = omega (arith, grows (0 * 10 + (d - 48)) ds)

-- by the last digit, where what stands before it is known to be the digits of its value
by_last : (n b : ℕ) (es : List ℕ) → Decimal n (es ++ (b ∷ [])) → ((m : ℕ) → Decimal m es → decimal m ≡ es) → decimal n ≡ es ++ (b ∷ [])
by_last n b [] x rest =
    let h = x.bytes zero (omega arith) in
    let v = x.value in
    let same : 48 + n ≡ b = omega arith in
    decimal-one n (omega arith) ∙ ap (λ (d : ℕ). d ∷ []) same
by_last n b (e ∷ es) x rest =
    let long = length-append (e ∷ es) (b ∷ []) in
    let v = foldl (λ (w c : ℕ). w * 10 + (c - 48)) 0 (e ∷ es) in
    let told : v * 10 + (b - 48) ≡ n = sym (foldl-append (λ (w c : ℕ). w * 10 + (c - 48)) 0 (e ∷ es) (b ∷ [])) ∙ x.value in
    let last : (48 ≤ b) × (b ≤ 57) = rw (get_or-append_seam (e ∷ es) b [] 0) at (x.bytes (length (e ∷ es)) (omega arith)) in
    let some : 1 ≤ v = not_0 e es (x.bytes zero (omega arith)).0 (x.no_leading_zero (omega arith)) in
    let digit : 48 + n % 10 ≡ b = omega (arith, last.0, last.1) in
    let front : v ≡ n / 10 = omega (arith, last.0, last.1) in
    let known =
    rest (n / 10)
    (record {
      some = omega arith;
      bytes = λ k i. rw (get_or-append (e ∷ es) (b ∷ []) 0 k i) at (x.bytes k (omega arith));
      no_leading_zero = λ i. x.no_leading_zero (omega arith);
      value = front;
    })
    in
    decimal-more n (omega arith)
    ∙ ap (λ (l : List ℕ). l ++ ((48 + n % 10) ∷ [])) known
    ∙ ap (λ (d : ℕ). (e ∷ es) ++ (d ∷ [])) digit

only-those : (k n : ℕ) (ds : List ℕ) → length ds ≤ k → Decimal n ds → decimal n ≡ ds
only-those zero n ds h x = absurd (omega (arith, x.some))
only-those (suc k) n ds h x = step ds h x (λ m es i y. only-those k m es i y)
  where
    step :
        (ds : List ℕ) →
        length ds ≤ suc k →
        Decimal n ds →
        ((m : ℕ) (es : List ℕ) → length es ≤ k → Decimal m es → decimal m ≡ es) →
        decimal n ≡ ds
    step [] h x shorter = absurd (omega (arith, x.some))
    step (d ∷ ds) h x shorter =
        let r = last_of d ds in
        let long = ap length r.is ∙ length-append r.front (r.end ∷ []) in
        by_last n r.end r.front (subst (λ (l : List ℕ). Decimal n l) r.is x) (λ m y. shorter m r.front (omega arith) y) ∙ sym r.is

pub decimal_reads_back : DecimalReadsBack
decimal_reads_back n ds = (
  λ e. subst (λ (l : List ℕ). Decimal n l) e (reads_back (suc n) n (omega arith)),
  λ x. only-those (length ds) n ds (omega arith) x,
)

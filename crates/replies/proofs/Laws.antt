-- Laws of what is written: bytes put one behind the other, decimal numbers, a report and an answer. Assumes nothing.
use mathlib.Core.Path.{◌≡◌, refl, sym, ap, ◌∙◌, subst}
use mathlib.Core.Bool.{Bool, true, false, cond}
use mathlib.Core.List.{List, [], ◌∷◌, ◌++◌, append_assoc}
use Prim.Native.Nat.{ℕ, zero, suc, ◌+◌, ◌*◌, ◌/◌, ◌%◌, ◌<◌, ◌≤◌}
use native.Mathlib.Numerals.{add-one}
use native.Mathlib.Omega.{arith}
use lib.Dec.{ltb}
use borrow.Author.Tests.{lt-ltb, le-ltb, ltb-true, ltb-false}
use lib.ListN.{length, take, drop, set, length-append, take-append-drop}
use lib.Seq.{take_at, drop-append-add, drop-drop, set_split, length-take-le}
use Rattle.search.specs.Bytes.{written}
use Rattle.search.proofs.Laws.{length-written}
use Rattle.answers.specs.Answers.{shown}
use Rattle.answers.specs.declared.Shown.{Shown}
use Rattle.access.specs.declared.Answer.{Answer}
use Rattle.alphabet.specs.Alphabet.{newline}
use Rattle.replies.specs.Replies.{digits, decimal, word_of, answer_line}
use Rattle.replies.specs.Within.{Put}

-- ---- bytes put one behind the other

written_twice :
    (d : List ℕ) (at : ℕ) (s t : List ℕ) →
    at + length s ≤ length d →
    written (written d at s) (at + length s) t ≡ written d at (s ++ t)
unfolding written
written_twice d at s t h =
    let n = at + length s in
    let front : length (take at d ++ s) ≡ n = length-append (take at d) s ∙ ap (λ (k : ℕ). k + length s) (length-take-le at d (omega arith)) in
    let joined : take at d ++ (s ++ drop n d) ≡ (take at d ++ s) ++ drop n d = sym (append_assoc (take at d) s (drop n d)) in
    let size : at + length (s ++ t) ≡ n + length t = omega (arith, length-append s t) in
    ap (λ (l : List ℕ). take n l ++ (t ++ drop (n + length t) l)) joined
    ∙ ap (λ (l : List ℕ). l ++ (t ++ drop (n + length t) ((take at d ++ s) ++ drop n d))) (take_at (take at d ++ s) (drop n d) n front)
    ∙ ap (λ (k : ℕ). (take at d ++ s) ++ (t ++ drop (k + length t) ((take at d ++ s) ++ drop n d))) (sym front)
    ∙ ap (λ (l : List ℕ). (take at d ++ s) ++ (t ++ l)) (drop-append-add (take at d ++ s) (drop n d) (length t) ∙ drop-drop (length t) n d)
    ∙ append_assoc (take at d) s (t ++ drop (n + length t) d)
    ∙ ap (λ (l : List ℕ). take at d ++ l) (sym (append_assoc s t (drop (n + length t) d)))
    ∙ ap (λ (k : ℕ). take at d ++ ((s ++ t) ++ drop k d)) (sym size)

pub written_none : (d : List ℕ) (at : ℕ) → written d at [] ≡ d
unfolding written
written_none d at = ap (λ (k : ℕ). take at d ++ drop k d) zero_more ∙ take-append-drop at d
  where
    zero_more : at + 0 ≡ at
    zero_more = omega arith

one_byte : (d : List ℕ) (at b : ℕ) → at < length d → set d at b ≡ written d at (b ∷ [])
unfolding written
one_byte d at b h = set_split d at b h ∙ ap (λ (k : ℕ). take at d ++ (b ∷ drop k d)) (sym (add-one at))

pub put-none : (most : ℕ) (d : List ℕ) (at : ℕ) → Put most d at [] d at
put-none most d at = record { bytes = sym (written_none d at); ends = omega arith; short = omega arith }

pub put_all : (most : ℕ) (d : List ℕ) (at : ℕ) (s : List ℕ) {e : List ℕ} → e ≡ written d at s → length s ≤ most → Put most d at s e (at + length s)
put_all most d at s e h = record { bytes = e; ends = refl; short = h }

pub put_then :
    {m k : ℕ} {d e f s t : List ℕ} {at x y : ℕ} (most : ℕ) →
    Put m d at s e x →
    Put k e x t f y →
    at + length s ≤ length d →
    m + k ≤ most →
    Put most d at (s ++ t) f y
put_then {d = d} {s = s} {t = t} {at = at} {x = x} most p q h room =
    record {
      bytes =
          q.bytes
          ∙ ap (λ (l : List ℕ). written l x t) p.bytes
          ∙ ap (λ (i : ℕ). written (written d at s) i t) p.ends
          ∙ written_twice d at s t h;
      ends = omega (arith, q.ends, p.ends, length-append s t);
      short = omega (arith, p.short, q.short, length-append s t);
    }

pub put_first : (d : List ℕ) (at b : ℕ) → at < length d → Put 1 d at (b ∷ []) (set d at b) (at + 1)
put_first d at b h = record { bytes = one_byte d at b h; ends = refl; short = omega arith }

pub put_byte :
    {m : ℕ} {d e s : List ℕ} {at x : ℕ} (most b : ℕ) →
    Put m d at s e x →
    x < length e →
    at + length s ≤ length d →
    m + 1 ≤ most →
    Put most d at (s ++ (b ∷ [])) (set e x b) (x + 1)
put_byte {e = e} {x = x} most b p h room more = put_then most p (put_first e x b h) room more

-- what was put, said otherwise, or with a larger limit
pub put-said : {m : ℕ} {d e s t : List ℕ} {at x : ℕ} (most : ℕ) → Put m d at s e x → s ≡ t → m ≤ most → Put most d at t e x
put-said {d = d} {e = e} {at = at} {x = x} most p q h = subst (λ (l : List ℕ). Put most d at l e x) q (record { bytes = p.bytes; ends = p.ends; short = omega (arith, p.short) })

pub put-short : {m : ℕ} {d e s : List ℕ} {at x : ℕ} (most : ℕ) → Put m d at s e x → length s ≤ most → Put most d at s e x
put-short most p h = record { bytes = p.bytes; ends = p.ends; short = h }

pub put-length : {m : ℕ} {d e s : List ℕ} {at x : ℕ} → Put m d at s e x → at + length s ≤ length d → length e ≡ length d
put-length {d = d} {s = s} {at = at} p h = ap length p.bytes ∙ length-written d at s h

-- the same, with the room that the limits ask for
pub put_next :
    {m k : ℕ} {d e f s t : List ℕ} {at x y : ℕ} (most : ℕ) →
    Put m d at s e x →
    Put k e x t f y →
    at + m ≤ length d →
    m + k ≤ most →
    Put most d at (s ++ t) f y
put_next most p q h room = put_then most p q (omega (arith, p.short)) room

pub put-left : {m : ℕ} {d e s : List ℕ} {at x : ℕ} → Put m d at s e x → (n : ℕ) → at + m + n ≤ length d → x + n ≤ length e
put-left p n h = let z = put-length p (omega (arith, p.short)) in omega (arith, p.short, p.ends)

-- ---- decimal numbers

enough : (k m n : ℕ) → n < k → n < m → digits k n ≡ digits m n
enough zero m n h i = absurd (omega arith)
enough (suc k) zero n h i = absurd (omega arith)
enough (suc k) (suc m) n h i = by-test (ltb n 10) refl (λ less more. enough k m (n / 10) less more)
  where
    by-test :
        (t : Bool) →
        ltb n 10 ≡ t →
        (n / 10 < k → n / 10 < m → digits k (n / 10) ≡ digits m (n / 10)) →
        cond t ((48 + n) ∷ []) (digits k (n / 10) ++ ((48 + n % 10) ∷ [])) ≡ cond t ((48 + n) ∷ []) (digits m (n / 10) ++ ((48 + n % 10) ∷ []))
    by-test true e rest = refl
    by-test false e rest =
        let z = ltb-false n 10 e in
        ap (λ (l : List ℕ). l ++ ((48 + n % 10) ∷ [])) (rest (omega arith) (omega arith))

pub decimal-one : (n : ℕ) → n < 10 → decimal n ≡ (48 + n) ∷ []
unfolding decimal
decimal-one n h = rw (lt-ltb n 10 h)

pub decimal-more : (n : ℕ) → 10 ≤ n → decimal n ≡ decimal (n / 10) ++ ((48 + n % 10) ∷ [])
unfolding decimal
decimal-more n h = rw (le-ltb n 10 h) (ap (λ (l : List ℕ). l ++ ((48 + n % 10) ∷ [])) (enough n (suc (n / 10)) (n / 10) (omega arith) (omega arith)))

pub decimal-size : (n : ℕ) → 10 ≤ n → length (decimal n) ≡ length (decimal (n / 10)) + 1
decimal-size n h = ap length (decimal-more n h) ∙ length-append (decimal (n / 10)) ((48 + n % 10) ∷ [])

pub decimal-some : (n : ℕ) → 1 ≤ length (decimal n)
decimal-some n = by-test (ltb n 10) refl
  where
    by-test : (t : Bool) → ltb n 10 ≡ t → 1 ≤ length (decimal n)
    by-test true e = let z = ltb-true n 10 e in omega (arith, ap length (decimal-one n z))
    by-test false e = let z = ltb-false n 10 e in omega (arith, decimal-size n z)

one-digit : (n : ℕ) → n < 10 → length (decimal n) ≤ 1
one-digit n h = omega (arith, ap length (decimal-one n h))

one-more-digit : (m k : ℕ) → 1 ≤ k → ((n : ℕ) → n < m → length (decimal n) ≤ k) → (n : ℕ) → n < 10 * m → length (decimal n) ≤ k + 1
one-more-digit m k o short n h = by-test (ltb n 10) refl
  where
    by-test : (t : Bool) → ltb n 10 ≡ t → length (decimal n) ≤ k + 1
    by-test true e = let z = ltb-true n 10 e in omega (arith, one-digit n z)
    by-test false e = let z = ltb-false n 10 e in let i = short (n / 10) (omega arith) in omega (arith, decimal-size n z)

-- a number of 32 bits has at most ten digits
pub ten_digits : (n : ℕ) → n < 10000000000 → length (decimal n) ≤ 10
ten_digits =
    one-more-digit 1000000000 9 (omega arith)
    (one-more-digit 100000000 8 (omega arith)
    (one-more-digit 10000000 7 (omega arith)
    (one-more-digit 1000000 6 (omega arith)
    (one-more-digit 100000 5 (omega arith)
    (one-more-digit 10000 4 (omega arith)
    (one-more-digit 1000 3 (omega arith)
    (one-more-digit 100 2 (omega arith)
    (one-more-digit 10 1 (omega arith) one-digit))))))))

-- ---- a report and an answer, as they are put together

pub seven-fields : (a b c d e f g : List ℕ) → (((((a ++ b) ++ c) ++ d) ++ e) ++ f) ++ g ≡ a ++ (b ++ (c ++ (d ++ (e ++ (f ++ g)))))
seven-fields a b c d e f g = simp append_assoc

pub answer-said : (a : Answer) (sh : Shown) → sh ≡ shown a → word_of a ++ (decimal sh.number ++ (newline ∷ [])) ≡ answer_line a
unfolding answer_line
answer-said a sh p = ap (λ (x : Shown). word_of a ++ (decimal x.number ++ (newline ∷ []))) p

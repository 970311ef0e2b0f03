-- Laws of texts that are written to the front of an output. Assumes nothing.
use mathlib.Core.Path.{◌≡◌, refl, sym, ap, ◌∙◌}
use mathlib.Core.Bool.{Bool, true, false, cond}
use mathlib.Core.List.{List, [], ◌∷◌, ◌++◌}
use Prim.Native.Nat.{ℕ, ◌+◌, ◌-◌, ◌<◌, ◌≤◌}
use native.Mathlib.Omega.{arith}
use lib.Dec.{leb}
use borrow.Author.Tests.{le-leb, lt-leb}
use lib.ListN.{length, take, drop, set, length-append}
use lib.Seq.{take-append_seam}
use Rattle.refusals.specs.Refusals.{output_too_short}
use Rattle.refusals.specs.declared.Refusal.{Refusal}
use Rattle.search.specs.Bytes.{written}
use Rattle.search.proofs.Laws.{length-written, written-more, written_one}
use Rattle.output.specs.Output.{put_answer, put_out, Text, text, refused, text_answer, text_out, Written, LengthAnswered}
use Rattle.std.proofs.Common.{Ok, Err}

-- ---- a text that fits, and one that does not

module _ (t out : List ℕ) where
  module _ (h : length t ≤ length out) where
    pub fits-answer : put_answer t out ≡ Ok (length t)
    unfolding put_answer
    fits-answer = rw (le-leb (length t) (length out) h)

    pub fits_out : put_out t out ≡ written out 0 t
    unfolding put_out
    fits_out = rw (le-leb (length t) (length out) h)

  module _ (h : length out < length t) where
    pub short-answer : put_answer t out ≡ Err output_too_short
    unfolding put_answer
    short-answer = rw (lt-leb (length t) (length out) h)

    pub short-out : put_out t out ≡ out
    unfolding put_out
    short-out = rw (lt-leb (length t) (length out) h)

-- a refusal writes nothing
pub refused_keeps : (x : Text) (out : List ℕ) (why : Refusal) → text_answer x out ≡ Err why → text_out x out ≡ out
unfolding put_answer put_out
refused_keeps (text t) out why q = by-test (leb (length t) (length out)) q
  where
    by-test : (b : Bool) → cond b (Ok (length t)) (Err output_too_short) ≡ Err why → cond b (written out 0 t) out ≡ out
    by-test true q = let z : ◌≡◌ {A = ℕ} 0 1 = cc in absurd (omega arith)
    by-test false q = refl
refused_keeps (refused k) out why q = refl

-- THE LENGTH WRITTEN IS ANSWERED
written_is : (x : Text) (out : List ℕ) (n : ℕ) → text_answer x out ≡ Ok n → Written x out (text_out x out) n
unfolding put_answer put_out written
written_is (text t) out n q = by-test (leb (length t) (length out)) q
  where
    by-test : (b : Bool) → cond b (Ok (length t)) (Err output_too_short) ≡ Ok n → Written (text t) out (cond b (written out 0 t) out) n
    by-test true q =
        let e : length t ≡ n = cc in
        let k : 0 + length t ≡ n = omega arith in
        record { bytes = t; is = refl; long = e; front = ap (λ (j : ℕ). t ++ drop j out) k }
    by-test false q = let z : ◌≡◌ {A = ℕ} 0 1 = cc in absurd (omega arith)
written_is (refused k) out n q = let z : ◌≡◌ {A = ℕ} 0 1 = cc in absurd (omega arith)

pub length-answered : LengthAnswered
length-answered = record { written = written_is; enough = fits-answer; too_short = short-answer; unchanged = refused_keeps }

-- ---- one text behind another

-- a buffer d that is `out` with the text a, of n bytes, at its front
pub record Front (out d a : List ℕ) (n : ℕ) : Type 0 where
  pub same : d ≡ written out 0 a
  pub long : length a ≡ n

pub front-more : {out d a : List ℕ} {n : ℕ} → Front out d a n → (e b : List ℕ) → e ≡ written d n b → n + length b ≤ length out → Front out e (a ++ b) (n + length b)
front-more {out} {d} {a} {n} f e b r h =
    record {
      same = r ∙ ap (λ (x : List ℕ). written x n b) f.same ∙ written-more out 0 a b n (omega (arith, f.long)) h;
      long = simp length-append (omega (arith, f.long));
    }

pub front-one : {out d a : List ℕ} {n : ℕ} → Front out d a n → (x : ℕ) → n < length out → Front out (set d n x) (a ++ (x ∷ [])) (n + 1)
front-one {out} {d} {a} {n} f x h =
    let i : n < length (written out 0 a) = omega (arith, length-written out 0 a (omega (arith, f.long))) in
    front-more f (set d n x) (x ∷ []) (ap (λ (y : List ℕ). set y n x) f.same ∙ written_one (written out 0 a) n x i ∙ ap (λ (y : List ℕ). written y n (x ∷ [])) (sym f.same)) (omega arith)

-- what was written to the front of a buffer of its own
pub front-is : (z x : List ℕ) (n : ℕ) → n ≡ length x → take (n - 0) (drop 0 (written z 0 x)) ≡ x
unfolding written
front-is z x n e = let i : n - 0 ≡ length x = omega arith in rw i (take-append_seam x (drop (0 + length x) z))

-- 01: what a call writes to a lent output: a text at its front, or nothing where the text does not fit (refusal 12) or another refusal comes first.
-- Assumes nothing.
use Rattle.std.specs.Prelude.{ℕ, ◌<◌, ◌≤◌, ◌≡◌, cond, List, ◌++◌, length, drop, leb, Result, Ok, Err}
use Rattle.search.specs.Bytes.{written}
use Rattle.refusals.specs.Refusals.{output_too_short}
use Rattle.refusals.specs.declared.Refusal.{Refusal}

-- a text goes to the front of the output, the rest of which is unchanged, and its length is answered; where it is longer than the output it is
-- refused, and no byte is written
unfoldable pub put_answer : List ℕ → List ℕ → Result ℕ Refusal
put_answer text out = cond (leb (length text) (length out)) (Ok (length text)) (Err output_too_short)

unfoldable pub put_out : List ℕ → List ℕ → List ℕ
put_out text out = cond (leb (length text) (length out)) (written out 0 text) out

-- what a call has for its output: a text, or a refusal that comes before that of a short output
pub data Text : Type 0 where
  text : List ℕ → Text
  refused : Refusal → Text

-- its answer, and the output afterwards
abbrev pub text_answer : Text → List ℕ → Result ℕ Refusal
text_answer (text t) out = put_answer t out
text_answer (refused n) out = Err n

abbrev pub text_out : Text → List ℕ → List ℕ
text_out (text t) out = put_out t out
text_out (refused n) out = out

-- ---- 02, One: here and later, the length written to a lent output is answered

-- what a call that answers the length n has written: n bytes at the output's front; the rest of the output is unchanged
pub record Written (x : Text) (out after : List ℕ) (n : ℕ) : Type 0 where
  pub bytes : List ℕ
  pub is : x ≡ text bytes
  pub long : length bytes ≡ n
  pub front : after ≡ bytes ++ drop n out

-- so it is of every text and every output; an output of the text's length is enough; and a refusal changes no byte
pub record LengthAnswered : Type 0 where
  pub written : (x : Text) (out : List ℕ) (n : ℕ) → text_answer x out ≡ Ok n → Written x out (text_out x out) n
  pub enough : (t out : List ℕ) → length t ≤ length out → text_answer (text t) out ≡ Ok (length t)
  pub too_short : (t out : List ℕ) → length out < length t → text_answer (text t) out ≡ Err output_too_short
  pub unchanged : (x : Text) (out : List ℕ) (why : Refusal) → text_answer x out ≡ Err why → text_out x out ≡ out

-- The listing call, asked for each rule's number in turn, writes the listing. Assumes nothing.
use mathlib.Core.Path.{◌≡◌, sym, ap, ◌∙◌, subst}
use mathlib.Core.Bool.{true}
use mathlib.Core.List.{List, ◌++◌}
use Prim.Native.Nat.{ℕ, zero, suc, ◌+◌, ◌<◌, ◌≤◌}
use native.Mathlib.Omega.{arith}
use borrow.Author.Tests.{lt-ltb, le-ltb}
use lib.ListN.{length, drop, get_or, length-append, drop_of_length-le}
use lib.Seq.{drop-cons, take-append_seam}
use Rattle.refusals.specs.Refusals.{no_such_number}
use Rattle.search.specs.Bytes.{written}
use Rattle.search.proofs.Laws.{entries-length}
use Rattle.modes.proofs.Laws.{text-long}
use Rattle.store.specs.Layout.{Store, rule_at, table_of, undamaged_of}
use Rattle.store.proofs.Laws.{undamaged-is}
use Rattle.output.proofs.Laws.{fits-answer, fits_out}
use Rattle.rule_text.specs.RuleText.{longest_rule, text_of}
use Rattle.listing.specs.Listing.{texts_of, listing, rule_given, list_answer, list_out}
use Rattle.std.proofs.Common.{Ok, Err}
use Rattle.listing.proofs.Laws.{label-short, rule-listed}
use Rattle.grown.specs.Relisted.{LoadsBack, front, text_numbered, listed_by_calls, ListedByNumber}
use Rattle.grown.proofs.Growing.{grown-sane}
use Rattle.grown.proofs.Relisted.{loads_back}

module _ (st : Store) (undamaged : undamaged_of st ≡ true) where
  -- two labels of at most 255 bytes, at most 6 letters, two spaces and a newline
  pub short : (k : ℕ) → k < length (table_of st).rules → length (text_numbered st k) ≤ longest_rule
  unfolding text_of
  short k h =
      let i : k < get_or st.words 1 0 = omega (arith, entries-length (rule_at st.entries) (get_or st.words 1 0)) in
      rw (rule-listed st (undamaged-is st undamaged) k i)
      (simp length-append
      (omega (arith, label-short st.labels (get_or st.entries k 0), label-short st.labels (get_or st.entries (256 + k) 0), text-long (get_or st.entries (512 + k) 0))))

  module _ (k : ℕ) (out : List ℕ) (h : k < length (table_of st).rules) (fits : length (text_numbered st k) ≤ length out) where
    answered : list_answer st k out ≡ Ok (length (text_numbered st k))
    unfolding list_answer rule_given
    answered = rw (undamaged, lt-ltb k (length (table_of st).rules) h) (fits-answer (text_numbered st k) out fits)

    -- the rest of the buffer stays
    written-there : list_out st k out ≡ text_numbered st k ++ drop (length (text_numbered st k)) out
    unfolding list_out rule_given written
    written-there =
        let z : 0 + length (text_numbered st k) ≡ length (text_numbered st k) = omega arith in
        rw (undamaged, lt-ltb k (length (table_of st).rules) h) (fits_out (text_numbered st k) out fits ∙ ap (λ (n : ℕ). text_numbered st k ++ drop n out) z)

    pub put : front (list_answer st k out) (list_out st k out) ≡ text_numbered st k
    put = rw (answered, written-there) (take-append_seam (text_numbered st k) _)

  module _ (buffers : ℕ → List ℕ) (room : (k : ℕ) → longest_rule ≤ length (buffers k)) where
    -- from rule k on
    from : (n k : ℕ) → k + n ≡ length (table_of st).rules → listed_by_calls st buffers k n ≡ texts_of (table_of st) (drop k (table_of st).rules)
    from zero k e = sym (ap (texts_of (table_of st)) (drop_of_length-le (table_of st).rules {i = k} (omega arith)))
    from (suc n) k e =
        let h : k < length (table_of st).rules = omega arith in
        ap (λ (x : List ℕ). x ++ listed_by_calls st buffers (suc k) n) (put k (buffers k) h (let i = short k h in let j = room k in omega arith))
        ∙ ap (λ (x : List ℕ). text_numbered st k ++ x) (from n (suc k) (omega arith))
        ∙ sym (ap (texts_of (table_of st)) (drop-cons (table_of st).rules k (record { subject = 0; object = 0; modes = 0 }) h))

    whole : listed_by_calls st buffers 0 (length (table_of st).rules) ≡ listing (table_of st)
    unfolding listing
    whole = from (length (table_of st).rules) 0 (omega arith)

  -- from the number after the last on there is no rule
  pub past : (k : ℕ) (out : List ℕ) → length (table_of st).rules ≤ k → list_answer st k out ≡ Err no_such_number
  unfolding list_answer rule_given
  past k out h = rw (undamaged, le-ltb k (length (table_of st).rules) h)

  pub by_number : ListedByNumber st
  by_number =
      record {
        given = answered;
        written = written-there;
        enough = short;
        whole = whole;
        ends = λ out. past (length (table_of st).rules) out (omega arith);
        loads_back = λ buffers room grown. subst (LoadsBack (table_of st)) (sym (whole buffers room)) (loads_back (table_of st) (grown-sane grown));
      }

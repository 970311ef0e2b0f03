-- Laws of the listing. Assumes nothing.
use mathlib.Core.Path.{◌≡◌, refl, sym, ap, ◌∙◌}
use mathlib.Core.Bool.{Bool, true, false, cond}
use mathlib.Core.List.{List, [], ◌∷◌}
use Prim.Native.Nat.{ℕ, ◌+◌, ◌*◌, ◌<◌, ◌≤◌}
use native.Mathlib.Omega.{arith}
use lib.Dec.{ltb}
use borrow.Author.Tests.{lt-ltb, ltb-true, ltb-false}
use lib.ListN.{length, take, drop, get_or, length-take, get_or-eq_default}
use Rattle.search.specs.Search.{entries}
use Rattle.search.proofs.Laws.{and_both, all-at, entries-length, entries_at}
use Rattle.refusals.specs.Refusals.{damaged, no_such_number}
use Rattle.refusals.specs.declared.Refusal.{Refusal}
use Rattle.modes.specs.Modes.{modes_text}
use Rattle.store.specs.declared.Rule.{Rule}
use Rattle.std.proofs.Common.{Ok, Err}
use Rattle.store.specs.Table.{sound_rule, sound_table, label_numbered, rule_numbered}
use Rattle.store.specs.Layout.{Store, label_at, rule_at, table_of, undamaged_of, held}
use Rattle.store.proofs.Laws.{Undamaged, undamaged-is, is-undamaged}
use Rattle.output.specs.Output.{put_answer, put_out, Text, text, text_answer, text_out}
use Rattle.rule_text.specs.RuleText.{text_of}
use Rattle.listing.specs.Listing.{rule_text, rule_given, list_given, list_answer, list_out, label_given, label_answer}

-- ---- a rule of an undamaged store

-- a label lies in its own place
pub label-short : (labels : List ℕ) (k : ℕ) → length (label_at labels k) ≤ 255
unfolding label_at
label-short labels k = by_place (take 256 (drop (k * 256) labels)) (rw length-take (omega arith))
  where
    by_place : (p : List ℕ) → length p ≤ 256 → length (held p) ≤ 255
    by_place [] h = omega arith
    by_place (n ∷ bytes) h = rw length-take (omega arith)

module _ (s : Store) (u : Undamaged s) (k : ℕ) (h : k < get_or s.words 1 0) where
  -- its numbers name stored labels
  pub rule-sound : (get_or s.entries k 0 < get_or s.words 0 0) × (get_or s.entries (256 + k) 0 < get_or s.words 0 0)
  unfolding sound_table sound_rule rule_at
  rule-sound =
      let n = get_or s.words 0 0 in
      let r = get_or s.words 1 0 in
      let d : Rule = record { subject = 0; object = 0; modes = 0 } in
      let a = (and_both _ _ (and_both _ _ u.sound).0).0 in
      let b : sound_rule n (get_or (entries (rule_at s.entries) r) k d) ≡ true = all-at (sound_rule n) d (entries (rule_at s.entries) r) a k (rw entries-length h) in
      let c : sound_rule n (rule_at s.entries k) ≡ true = ap (sound_rule n) (sym (entries_at (rule_at s.entries) d r k h)) ∙ b in
      let e = and_both _ _ c in
      let f = and_both _ _ e.0 in
      (ltb-true _ _ f.0, ltb-true _ _ f.1)

  pub rule-listed :
      rule_text (table_of s) (rule_numbered (table_of s) k)
      ≡ text_of (label_at s.labels (get_or s.entries k 0)) (label_at s.labels (get_or s.entries (256 + k) 0)) (modes_text (get_or s.entries (512 + k) 0))
  unfolding rule_text rule_at
  rule-listed =
      let q = rule-sound in
      rw (
        entries_at (rule_at s.entries) (record { subject = 0; object = 0; modes = 0 }) (get_or s.words 1 0) k h,
        entries_at (label_at s.labels) [] (get_or s.words 0 0) (get_or s.entries k 0) q.0,
        entries_at (label_at s.labels) [] (get_or s.words 0 0) (get_or s.entries (256 + k) 0) q.1,
      )

  some : ltb k (length (table_of s).rules) ≡ true
  some = rw (entries-length (rule_at s.entries) (get_or s.words 1 0)) (lt-ltb k _ h)

  -- so that its listing is its text put to the front of the buffer
  module _ (x y z out : List ℕ) (a : x ≡ label_at s.labels (get_or s.entries k 0)) (b : y ≡ label_at s.labels (get_or s.entries (256 + k) 0)) (c : z ≡ modes_text (get_or s.entries (512 + k) 0)) where
    text_same : text_of x y z ≡ rule_text (table_of s) (rule_numbered (table_of s) k)
    text_same = rw (a, b, c) (sym rule-listed)

    given : undamaged_of s ≡ true → text (text_of x y z) ≡ list_given s k
    unfolding rule_given
    given e = rw (e, some, text_same)

    pub list-answer : undamaged_of s ≡ true → put_answer (text_of x y z) out ≡ list_answer s k out
    unfolding list_answer
    list-answer e = ap (λ (t : Text). text_answer t out) (given e)

    pub list-out : undamaged_of s ≡ true → put_out (text_of x y z) out ≡ list_out s k out
    unfolding list_out
    list-out e = ap (λ (t : Text). text_out t out) (given e)

-- ---- a label by number

module _ (s : Store) (k : ℕ) where
  -- done: the store is undamaged, and has a label of that number
  pub label-done : label_answer s k ≡ Ok tt → Undamaged s × (k < get_or s.words 0 0)
  unfolding label_answer
  label-done e = by-damage (undamaged_of s) refl e
    where
      by_number : (b : Bool) → ltb k (length (table_of s).labels) ≡ b → undamaged_of s ≡ true → cond b (Ok (tt {0})) (Err no_such_number) ≡ Ok (tt {0}) → Undamaged s × (k < get_or s.words 0 0)
      by_number true h q e = (undamaged-is s q, omega (arith, ltb-true k (length (table_of s).labels) h, entries-length (label_at s.labels) (get_or s.words 0 0)))
      by_number false h q e = let z : ◌≡◌ {A = ℕ} 0 1 = cc in absurd (omega arith)

      by-damage : (b : Bool) → undamaged_of s ≡ b → cond b (cond (ltb k (length (table_of s).labels)) (Ok (tt {0})) (Err no_such_number)) (Err damaged) ≡ Ok (tt {0}) → Undamaged s × (k < get_or s.words 0 0)
      by-damage true q e = by_number (ltb k (length (table_of s).labels)) refl q e
      by-damage false q e = let z : ◌≡◌ {A = ℕ} 0 1 = cc in absurd (omega arith)

  pub label_is : Undamaged s → k < get_or s.words 0 0 → label_at s.labels k ≡ label_given s k
  unfolding label_given
  label_is u h = rw (is-undamaged s u) (sym (entries_at (label_at s.labels) [] (get_or s.words 0 0) k h))

  -- refused: an empty part
  pub label-refused : (j : Refusal) → label_answer s k ≡ Err j → [] ≡ label_given s k
  unfolding label_answer label_given
  label-refused j e = by-damage (undamaged_of s) e
    where
      by_number : (b : Bool) → ltb k (length (table_of s).labels) ≡ b → cond b (Ok (tt {0})) (Err no_such_number) ≡ Err j → [] ≡ label_numbered (table_of s) k
      by_number true h e = let z : ◌≡◌ {A = ℕ} 0 1 = cc in absurd (omega arith)
      by_number false h e = sym (get_or-eq_default (table_of s).labels [] {n = k} (ltb-false _ _ h))

      by-damage : (b : Bool) → cond b (cond (ltb k (length (table_of s).labels)) (Ok (tt {0})) (Err no_such_number)) (Err damaged) ≡ Err j → [] ≡ cond b (label_numbered (table_of s) k) []
      by-damage true e = by_number (ltb k (length (table_of s).labels)) refl e
      by-damage false e = refl

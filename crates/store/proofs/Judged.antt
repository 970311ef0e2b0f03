-- Laws of what a write does: a refusal leaves every byte, and what an accepted write leaves holds its tables and is undamaged. The fresh table. Assumes nothing.
use mathlib.Core.Path.{◌≡◌, refl, sym, ap, ◌∙◌}
use mathlib.Core.Bool.{Bool, true, false, cond, ◌&&◌}
use mathlib.Core.List.{[]}
use Prim.Native.Nat.{ℕ, zero, suc, ◌≤◌}
use native.Mathlib.Omega.{arith}
use lib.Dec.{eqb}
use lib.ListN.{length, get_or}
use borrow.Author.Tests.{eqb-true, eq-eqb}
use Rattle.search.specs.Search.{all}
use Rattle.search.proofs.Laws.{and_both}
use Rattle.refusals.specs.Refusals.{damaged}
use Rattle.refusals.specs.declared.Refusal.{Refusal}
use Rattle.std.proofs.Common.{Ok, Err}
use Rattle.store.specs.Table.{Table, fresh, sound_table}
use Rattle.store.specs.Layout.{Store, store, table_of, undamaged_of, full_sizes, Sizes}
use Rattle.store.specs.Laid.{laid}
use Rattle.store.specs.Within.{fresh_labels, fresh_words}
use Rattle.store.specs.Judged.{Judged, is_skipped, is_refused, is_accepted, table_after, store_after, done_of, on_state, fresh_write, fresh_answer, fresh_store}
use Rattle.store.proofs.Laws.{Undamaged, is-undamaged}
use Rattle.store.proofs.Laid.{Fits, laid_table, laid-undamaged, laid-fresh}

-- ---- by the test of the state

module _ (st : Store) (write : Table → Judged) where
  pub on-undamaged : undamaged_of st ≡ true → on_state st write ≡ write (table_of st)
  unfolding on_state
  on-undamaged u = rw u

  pub on-damaged : undamaged_of st ≡ false → on_state st write ≡ is_refused damaged
  unfolding on_state
  on-damaged u = rw u

-- ---- a refusal leaves every lent byte

pub refused_stays : (st : Store) (j : Judged) (r : Refusal) → done_of j ≡ Err r → store_after st j ≡ st
refused_stays st is_skipped n e = refl
refused_stays st (is_refused k) n e = refl
refused_stays st (is_accepted t) n e = let z : ◌≡◌ {A = ℕ} 0 1 = cc in absurd (omega arith)

-- ---- the tables that are left

-- what an accepted write has to show of its tables: they are within the limits, and sound
abbrev pub Lays : Judged → Type 0
Lays is_skipped = Unit {0}
Lays (is_refused n) = Unit {0}
Lays (is_accepted t) = Fits t × (sound_table (length t.labels) t ≡ true)

module _ (st : Store) (u : Undamaged st) where
  pub after_table : (j : Judged) → Lays j → table_of (store_after st j) ≡ table_after (table_of st) j
  after_table is_skipped f = refl
  after_table (is_refused n) f = refl
  after_table (is_accepted t) f = laid_table st t u.sizes f.0

  pub after-undamaged : (j : Judged) → Lays j → undamaged_of (store_after st j) ≡ true
  after-undamaged is_skipped f = is-undamaged st u
  after-undamaged (is_refused n) f = is-undamaged st u
  after-undamaged (is_accepted t) f = laid-undamaged st t u.sizes f.0 f.1

-- ---- a fresh table

pub fresh-full : (st : Store) → fresh_answer st ≡ Ok tt → Sizes st.labels st.entries st.words
unfolding fresh_answer fresh_write
fresh-full st q = by-test (full_sizes st) refl q
  where
    by-test : (b : Bool) → full_sizes st ≡ b → done_of (cond b (is_accepted fresh) (is_refused damaged)) ≡ Ok tt → Sizes st.labels st.entries st.words
    by-test true e q =
        let a = and_both (eqb (length st.labels) 16384) (eqb (length st.entries) 840 && eqb (length st.words) 100) e in
        let b = and_both (eqb (length st.entries) 840) (eqb (length st.words) 100) a.1 in
        record { labels = eqb-true _ _ a.0; entries = eqb-true _ _ b.0; words = eqb-true _ _ b.1 }
    by-test false e q = let z : ◌≡◌ {A = ℕ} 0 1 = cc in absurd (omega arith)

fresh_fits : Fits fresh
fresh_fits = record { labels = omega arith; rules = omega arith; mappings = omega arith; onlycap = omega arith; short = short }
  where
    short : (k : ℕ) → length (get_or fresh.labels k []) ≤ 255
    short zero = omega arith
    short (suc zero) = omega arith
    short (suc (suc zero)) = omega arith
    short (suc (suc (suc zero))) = omega arith
    short (suc (suc (suc (suc zero)))) = omega arith
    short (suc (suc (suc (suc (suc k))))) = omega arith

fresh-sound : sound_table 5 fresh ≡ true
unfolding sound_table all
fresh-sound = refl

module _ (st : Store) (s : Sizes st.labels st.entries st.words) where
  pub fresh-laid : fresh_store st ≡ laid st fresh
  unfolding fresh_store fresh_write
  fresh-laid = rw (eq-eqb _ _ s.labels, eq-eqb _ _ s.entries, eq-eqb _ _ s.words)

  pub fresh-is : table_of (fresh_store st) ≡ fresh
  fresh-is = ap table_of fresh-laid ∙ laid_table st fresh s fresh_fits

  pub fresh-undamaged : undamaged_of (fresh_store st) ≡ true
  fresh-undamaged = ap undamaged_of fresh-laid ∙ laid-undamaged st fresh s fresh_fits fresh-sound

-- a fresh table leaves the entries as they were
pub fresh-entries : (st : Store) → store (fresh_store st).labels st.entries (fresh_store st).words ≡ fresh_store st
unfolding fresh_store fresh_answer
fresh-entries st = by_answer (fresh_write st) refl
  where
    by_size : Sizes st.labels st.entries st.words → store (fresh_store st).labels st.entries (fresh_store st).words ≡ fresh_store st
    by_size s =
        let e : fresh_store st ≡ store (fresh_labels st.labels) st.entries (fresh_words st.words) = fresh-laid st s ∙ sym (laid-fresh st s) in
        rw e

    by_answer : (j : Judged) → fresh_write st ≡ j → store (fresh_store st).labels st.entries (fresh_store st).words ≡ fresh_store st
    by_answer is_skipped e = rw e
    by_answer (is_refused n) e = rw e
    by_answer (is_accepted t) e = by_size (fresh-full st (ap done_of e))

-- A state passes the damage test exactly where it is undamaged, place by place. Assumes nothing.
use mathlib.Core.Path.{◌≡◌, sym, ap, ◌∙◌}
use mathlib.Core.Bool.{Bool, true}
use mathlib.Core.List.{List}
use Prim.Native.Nat.{ℕ, ◌+◌, ◌%◌, ◌<◌}
use lib.Dec.{ltb}
use lib.ListN.{length, get_or}
use borrow.Author.Tests.{ltb-true, lt-ltb}
use Rattle.search.specs.Search.{all, entries}
use Rattle.search.proofs.Laws.{and_both, all-at, entries-length, entries_at}
use Rattle.modes.proofs.Laws.{known_is}
use Rattle.numbers.specs.Categories.{known_set}
use Rattle.numbers.proofs.Sets.{category_sets}
use Rattle.store.specs.Table.{sound_rule, sound_mapping, sound_table}
use Rattle.store.specs.Layout.{Store, rule_at, set_at, mapping_at, onlycap_at, table_of, undamaged_of}
use Rattle.store.proofs.Laws.{undamaged-is, is-undamaged}
use Rattle.damage.specs.Undamaged.{Undamaged, WhatUndamagedIs}
use Rattle.damage.proofs.Laws.{all-entries}

-- an entry of a table whose entries all pass a test
entry_passes : {A : Type 0} (p : A → Bool) (f : ℕ → A) (n : ℕ) → all p (entries f n) ≡ true → (k : ℕ) → k < n → p (f k) ≡ true
entry_passes p f n e k h =
    let i : k < length (entries f n) = rw (entries-length f n) h in
    ap p (sym (entries_at f (f 0) n k h)) ∙ all-at p (f 0) (entries f n) e k i

-- the numbers of a rule, a mapping and an onlycap label that pass their tests
rule_passes :
    (n : ℕ) (e : List ℕ) (k : ℕ) →
    sound_rule n (rule_at e k) ≡ true →
    (get_or e k 0 < n) × (get_or e (256 + k) 0 < n) × ((get_or e (512 + k) 0 < 64) × (get_or e (512 + k) 0 % 2 ≡ 0))
unfolding sound_rule rule_at
rule_passes n e k q =
    let a = and_both _ _ q in
    let b = and_both _ _ a.0 in
    (ltb-true _ _ b.0, ltb-true _ _ b.1, (known_is (get_or e (512 + k) 0)).0 a.1)

mapping_passes : (n : ℕ) (e w : List ℕ) (k : ℕ) → sound_mapping n (mapping_at e w k) ≡ true → (get_or e (768 + k) 0 < n) × (known_set (set_at w k) ≡ true)
unfolding sound_mapping mapping_at
mapping_passes n e w k q = let a = and_both _ _ q in (ltb-true _ _ a.0, a.1)

onlycap_passes : (n : ℕ) (e : List ℕ) (k : ℕ) → ltb (onlycap_at e k) n ≡ true → get_or e (832 + k) 0 < n
unfolding onlycap_at
onlycap_passes n e k q = ltb-true _ _ q

module _ (s : Store) where
  passes : undamaged_of s ≡ true → Undamaged s
  unfolding sound_table
  passes e =
      let u = undamaged-is s e in
      let a = and_both _ _ u.sound in
      let b = and_both _ _ a.0 in
      let n = get_or s.words 0 0 in
      let rules = entry_passes (sound_rule n) (rule_at s.entries) (get_or s.words 1 0) b.0 in
      let mappings = entry_passes (sound_mapping n) (mapping_at s.entries s.words) (get_or s.words 2 0) b.1 in
      let listed = entry_passes (λ (k : ℕ). ltb k n) (onlycap_at s.entries) (get_or s.words 3 0) a.1 in
      record {
        labels_full = u.sizes.labels;
        entries_full = u.sizes.entries;
        words_full = u.sizes.words;
        few_labels = u.counts.labels;
        few_rules = u.counts.rules;
        few_mappings = u.counts.mappings;
        few_onlycap = u.counts.onlycap;
        subjects = λ k h. (rule_passes n s.entries k (rules k h)).0;
        objects = λ k h. (rule_passes n s.entries k (rules k h)).1;
        mapped = λ k h. (mapping_passes n s.entries s.words k (mappings k h)).0;
        onlycap = λ k h. onlycap_passes n s.entries k (listed k h);
        modes = λ k h. (rule_passes n s.entries k (rules k h)).2;
        sets = λ k h. (category_sets.known (set_at s.words k)).0 (mapping_passes n s.entries s.words k (mappings k h)).1;
      }

  sound-by : Undamaged s → sound_table (get_or s.words 0 0) (table_of s) ≡ true
  unfolding sound_table sound_rule sound_mapping rule_at mapping_at onlycap_at
  sound-by u =
      rw (
        all-entries (sound_rule (get_or s.words 0 0)) (rule_at s.entries) (get_or s.words 1 0)
            (λ k h. rw (lt-ltb _ _ (u.subjects k h), lt-ltb _ _ (u.objects k h), (known_is _).1 (u.modes k h))),
        all-entries (sound_mapping (get_or s.words 0 0)) (mapping_at s.entries s.words) (get_or s.words 2 0)
            (λ k h. rw (lt-ltb _ _ (u.mapped k h), (category_sets.known (set_at s.words k)).1 (u.sets k h))),
        all-entries (λ (k : ℕ). ltb k (get_or s.words 0 0)) (onlycap_at s.entries) (get_or s.words 3 0)
            (λ k h. lt-ltb _ _ (u.onlycap k h)),
      )

pub what_undamaged-is : WhatUndamagedIs
what_undamaged-is s = (
  passes s,
  λ u.
      is-undamaged s (record {
        sizes = record { labels = u.labels_full; entries = u.entries_full; words = u.words_full };
        counts = record { labels = u.few_labels; rules = u.few_rules; mappings = u.few_mappings; onlycap = u.few_onlycap };
        sound = sound-by s u;
      }),
)

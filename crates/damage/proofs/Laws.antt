-- Laws of the damage test: a test of a table's entries by the runs of numbers that hold them. Assumes nothing.
use mathlib.Core.Path.{◌≡◌, refl, sym, ap, ◌∙◌}
use mathlib.Core.Bool.{Bool, true, false, ◌&&◌}
use mathlib.Core.List.{List, [], ◌∷◌}
use Prim.Native.Nat.{ℕ, zero, suc, ◌+◌, ◌<◌, ◌≤◌}
use native.Mathlib.Omega.{arith}
use lib.Dec.{ltb}
use borrow.Author.Tests.{lt-ltb}
use lib.ListN.{length, take, drop, get_or, length-take, length-drop}
use lib.Seq.{take-suc, get_or-take, get_or-drop}
use Rattle.search.specs.Search.{all, entries}
use Rattle.search.proofs.Laws.{all_snoc}
use Rattle.modes.specs.Modes.{known_modes}
use Rattle.numbers.specs.Categories.{known_third, known_set}
use Rattle.store.specs.declared.Rule.{Rule}
use Rattle.store.specs.declared.Mapping.{Mapping}
use Rattle.store.specs.Table.{sound_rule, sound_mapping, sound_table}
use Rattle.store.specs.Layout.{store, rule_at, mapping_at, onlycap_at, table_of}
use Rattle.store.specs.Within.{Counts}
use Rattle.damage.specs.Within.{Bounded}

-- two tests in one pass are the two passes
pub all_and : {A : Type 0} (p q : A → Bool) (l : List A) → all (λ (x : A). p x && q x) l ≡ (all p l && all q l)
unfolding all
all_and p q [] = refl
all_and p q (x ∷ xs) = rw (all_and p q xs) (swap (p x) (q x) (all p xs) (all q xs))
  where
    swap : (a b c d : Bool) → ((a && b) && (c && d)) ≡ ((a && c) && (b && d))
    swap true true c d = refl
    swap true false true d = refl
    swap true false false d = refl
    swap false b c d = refl

-- a test of a table's entries that reads one number of each is a test of the run of these numbers
pub all-run :
    {A : Type 0} (p : A → Bool) (q : ℕ → Bool) (f : ℕ → A) (l : List ℕ) (n : ℕ) →
    n ≤ length l →
    ((k : ℕ) → k < n → p (f k) ≡ q (get_or l k 0)) →
    all p (entries f n) ≡ all q (take n l)
unfolding entries all
all-run p q f l zero h e = refl
all-run p q f l (suc n) h e =
    let hn : n < length l = omega arith in
    let ih = all-run p q f l n (omega arith) (λ k kh. e k (omega arith)) in
    all_snoc p (entries f n) (f n)
    ∙ rw (ih, e n (omega arith), take-suc l n 0 hn) (sym (all_snoc q (take n l) (get_or l n 0)))

-- a number of a part of a run
pub part_at : (l : List ℕ) (a n k : ℕ) → k < n → get_or (take n (drop a l)) k 0 ≡ get_or l (a + k) 0
part_at l a n k h = rw (get_or-take n (drop a l) k 0 h, get_or-drop a l k 0)

pub part_length : (l : List ℕ) (a n : ℕ) → a + n ≤ length l → length (take n (drop a l)) ≡ n
part_length l a n h = simp (length-take, length-drop) (omega arith)

-- a table whose entries all pass a test
pub all-entries : {A : Type 0} (p : A → Bool) (f : ℕ → A) (n : ℕ) → ((k : ℕ) → k < n → p (f k) ≡ true) → all p (entries f n) ≡ true
unfolding entries all
all-entries p f zero h = refl
all-entries p f (suc n) h = all_snoc p (entries f n) (f n) ∙ rw (all-entries p f n (λ k kh. h k (omega arith)), h n (omega arith))

-- the test of the rules: three runs of numbers
module _ (n m : ℕ) (e : List ℕ) (size : 768 ≤ length e) (few : m ≤ 256) where
  pub rule_runs :
      all (sound_rule n) (entries (rule_at e) m)
      ≡ ((all (λ (x : ℕ). ltb x n) (take m (take 256 (drop 0 e))) && all (λ (x : ℕ). ltb x n) (take m (take 256 (drop 256 e))))
      && all known_modes (take m (take 256 (drop 512 e))))
  unfolding sound_rule rule_at
  rule_runs =
      rw (
        all_and (λ (r : Rule). ltb r.subject n && ltb r.object n) (λ (r : Rule). known_modes r.modes) (entries (rule_at e) m),
        all_and (λ (r : Rule). ltb r.subject n) (λ (r : Rule). ltb r.object n) (entries (rule_at e) m),
        all-run (λ (r : Rule). ltb r.subject n) (λ (x : ℕ). ltb x n) (rule_at e) (take 256 (drop 0 e)) m (rw (part_length e 0 256 (omega arith)) few) (λ k h. ap (λ (x : ℕ). ltb x n) (sym (get_or-take 256 e k 0 (omega arith)))),
        all-run (λ (r : Rule). ltb r.object n) (λ (x : ℕ). ltb x n) (rule_at e) (take 256 (drop 256 e)) m (rw (part_length e 256 256 (omega arith)) few) (λ k h. ap (λ (x : ℕ). ltb x n) (sym (part_at e 256 256 k (omega arith)))),
        all-run (λ (r : Rule). known_modes r.modes) known_modes (rule_at e) (take 256 (drop 512 e)) m (rw (part_length e 512 256 (omega arith)) few) (λ k h. ap known_modes (sym (part_at e 512 256 k (omega arith)))),
      )

-- rules are sound where none exceeds numbers that are small enough
pub rules-within : (n m label modes : ℕ) (e : List ℕ) → ((k : ℕ) → k < m → Bounded e k label modes) → label < n → known_modes modes ≡ true → all (sound_rule n) (entries (rule_at e) m) ≡ true
unfolding sound_rule rule_at
rules-within n m label modes e h few known =
    all-entries (sound_rule n) (rule_at e) m
    (λ k kh.
    let w = h k kh in
    rw (lt-ltb (get_or e k 0) n (omega arith), lt-ltb (get_or e (256 + k) 0) n (omega arith), w.modes_of known))

-- the test of the damage check: the rules, two runs of numbers and one of sets
pub sound_runs :
    (n : ℕ) (e w : List ℕ) →
    840 ≤ length e →
    100 ≤ length w →
    Counts w →
    sound_table n (table_of (store [] e w))
    ≡ ((all (sound_rule n) (entries (rule_at e) (get_or w 1 0))
    && (all (λ (x : ℕ). ltb x n) (take (get_or w 2 0) (take 32 (drop 768 e))) && all known_third (take (get_or w 2 0) (take 32 (drop 68 w)))))
    && all (λ (x : ℕ). ltb x n) (take (get_or w 3 0) (take 8 (drop 832 e))))
unfolding sound_table sound_mapping mapping_at onlycap_at
sound_runs n e w he hw c =
    rw (
      all_and (λ (m : Mapping). ltb m.label n) (λ (m : Mapping). known_set m.set) (entries (mapping_at e w) (get_or w 2 0)),
      all-run (λ (m : Mapping). ltb m.label n) (λ (x : ℕ). ltb x n) (mapping_at e w) (take 32 (drop 768 e)) (get_or w 2 0) (rw (part_length e 768 32 (omega arith)) c.mappings) (λ k h. ap (λ (x : ℕ). ltb x n) (sym (part_at e 768 32 k (omega (arith, c.mappings))))),
      all-run (λ (m : Mapping). known_set m.set) known_third (mapping_at e w) (take 32 (drop 68 w)) (get_or w 2 0) (rw (part_length w 68 32 (omega arith)) c.mappings) (λ k h. ap known_third (sym (part_at w 68 32 k (omega (arith, c.mappings))))),
      all-run (λ (k : ℕ). ltb k n) (λ (x : ℕ). ltb x n) (onlycap_at e) (take 8 (drop 832 e)) (get_or w 3 0) (rw (part_length e 832 8 (omega arith)) c.onlycap) (λ k h. ap (λ (x : ℕ). ltb x n) (sym (part_at e 832 8 k (omega (arith, c.onlycap))))),
    )

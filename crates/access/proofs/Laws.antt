-- Laws of the access check. Assumes nothing.
use mathlib.Core.Path.{◌≡◌, refl, sym, ap, ◌∙◌}
use mathlib.Core.Bool.{Bool, true, false, cond, not, ◌&&◌, and-true}
use mathlib.Core.List.{List, [], ◌∷◌, ◌++◌}
use Prim.Native.Nat.{ℕ, zero, suc, ◌+◌, ◌<◌, ◌≤◌}
use native.Mathlib.Omega.{arith}
use lib.Dec.{eqb}
use lib.ListN.{length, get_or, take}
use borrow.Author.Tests.{eqb-true, eqb-false, eq-eqb, ne_eqb}
use Rattle.search.specs.Search.{first, later, entries, place_of}
use Rattle.search.specs.Bytes.{same_bytes}
use Rattle.std.proofs.Common.{Option, Some, None}
use Rattle.search.proofs.Laws.{no, not_so, and_both, same_refl, same-equal, entries-length, entries_at, first-is}
use Rattle.alphabet.specs.Alphabet.{well_formed}
use Rattle.modes.specs.Modes.{read_modes, request_letters}
use Rattle.store.specs.declared.Rule.{Rule}
use Rattle.store.specs.Table.{Table, label_in, is_pair, label_limit, rule_limit}
use Rattle.store.specs.Layout.{store, table_of, rule_at, label_at, modes_from, firsts_from, Sizes}
use Rattle.store.specs.Within.{Counts}
use Rattle.access.specs.SevenRules.{holds, Clause, rule7, first_of, seven_rules}
use Rattle.store.specs.Pairs.{PairModes, rule_between, has_modes, modes_found, modes_between}
use Rattle.access.specs.Access.{on_list, effective, denied, answered, decide, answer}
use Rattle.access.specs.Within.{mark_rules, later_rules, same_label, ruled, ruling_of, ruling_by}
use Rattle.access.specs.declared.Denial.{Denial}
use Rattle.access.specs.declared.Denial.TheVariants.{AnyOther}
use Rattle.access.specs.declared.Verdict.{Verdict}
use Rattle.access.specs.declared.Verdict.TheVariants.{Grants, Denies, Undecided}
use Rattle.access.specs.declared.Ruling.{Ruling}
use Rattle.access.specs.declared.Answer.TheVariants.{Denied}

-- ---- a label of one byte

pub mark-one : (l : List ℕ) (mark : ℕ) → length l ≡ 1 → same_bytes l (mark ∷ []) ≡ eqb (get_or l 0 0) mark
unfolding same_bytes
mark-one [] mark e = absurd (omega arith)
mark-one (x ∷ []) mark e = and-true (eqb x mark)
mark-one (x ∷ y ∷ ys) mark e = absurd (omega arith)

-- ---- tests

-- an equal first half
pub and_with : {a a' : Bool} (b v : Bool) → a ≡ a' → (a && b) ≡ v → (a' && b) ≡ v
and_with b v p q = sym (ap (λ (x : Bool). x && b) p) ∙ q

-- ---- what a store holds

-- the modes of a stored rule
pub stored-modes : (e : List ℕ) (n k : ℕ) → k < n → modes_found (entries (rule_at e) n) (Some k) ≡ has_modes (get_or e (512 + k) 0)
unfolding rule_at
stored-modes e n k h = ap (λ (r : Rule). has_modes r.modes) (entries_at (rule_at e) (record { subject = 0; object = 0; modes = 0 }) n k h)

-- a search of a table's entries finds one of them
pub found_below : {A : Type 0} (p : A → Bool) (f : ℕ → A) (n k : ℕ) → first p (entries f n) ≡ Some k → k < n
found_below p f n k e = omega (arith, (first-is p (f 0) (entries f n) k e).0, entries-length f n)

pub place-below : {A : Type 0} (p : A → Bool) (f : ℕ → A) (n m : ℕ) (r : Option ℕ) → r ≡ first p (entries f n) → n ≤ m → 0 < m → place_of r 0 < m
place-below p f n m (Some k) e h z = omega (arith, found_below p f n k (sym e))
place-below p f n m None e h z = z

-- ---- the onlycap list

pub listed_at : (l : List ℕ) (i k : ℕ) → first (eqb i) l ≡ Some k → on_list l (Some i) ≡ true
listed_at l i k e = rw e

pub listed-none : (l : List ℕ) (i : ℕ) → first (eqb i) l ≡ None → on_list l (Some i) ≡ false
listed-none l i e = rw e

-- ---- the override capability

module _ (t : Table) (s : Option ℕ) where
  pub effective_not : effective t s false ≡ false
  unfolding effective
  effective_not = refl

  pub effective_open : length t.onlycap ≡ 0 → effective t s true ≡ true
  unfolding effective
  effective_open e = rw (eq-eqb (length t.onlycap) 0 e)

  pub effective-listed : (length t.onlycap ≡ 0 → ⊥) → effective t s true ≡ on_list t.onlycap s
  unfolding effective
  effective-listed n = rw (ne_eqb (length t.onlycap) 0 n)

-- a denial stays one where the asker has not the capability
pub without : (t : Table) (s : Option ℕ) (capable : Bool) (by : Denial) → not capable ≡ true → denied (effective t s capable) by ≡ Denied by
without t s true by e = absurd (no e)
without t s false by e = rw (effective_not t s)

-- ---- the order

-- what a run of rules says, and then another
abbrev pub after : Verdict → Verdict → Verdict
after (Grants n) v = Grants n
after (Denies by) v = Denies by
after Undecided v = v

-- whether it decides
abbrev pub decides : Verdict → Bool
decides (Grants n) = true
decides (Denies by) = true
decides Undecided = false

abbrev pub all_decide : List Clause → Bool
all_decide [] = true
all_decide (l ∷ ls) = decides l.says && all_decide ls

-- of two runs of rules, each of which decides where it applies, the second is asked where the first says nothing
pub first_then : (ls rest : List Clause) → all_decide ls ≡ true → first_of (ls ++ rest) ≡ after (first_of ls) (first_of rest)
first_then [] rest e = refl
first_then (l ∷ ls) rest e =
    let h = and_both (decides l.says) (all_decide ls) e in
    by-test l.applies l.says h.0 (first_then ls rest h.1)
  where
    by-test :
        (b : Bool) (v : Verdict) →
        decides v ≡ true →
        first_of (ls ++ rest) ≡ after (first_of ls) (first_of rest) →
        cond b v (first_of (ls ++ rest)) ≡ after (cond b v (first_of ls)) (first_of rest)
    by-test true (Grants n) h ih = refl
    by-test true (Denies by) h ih = refl
    by-test true Undecided h ih = absurd (no h)
    by-test false v h ih = ih

-- so the seven are rules 1 to 4, and then 5 to 7
module _ (t : Table) (s o : List ℕ) (wanted : ℕ) where
  pub in_two-parts : (v : Verdict) → first_of (mark_rules s o wanted) ≡ v → first_of (seven_rules t s o wanted) ≡ after v (ruling_of t s o wanted).verdict
  unfolding ruled
  in_two-parts v e = rw (first_then (mark_rules s o wanted) (later_rules (same_bytes s o) (modes_between t s o) wanted) refl, e)

  pub decide-is :
      (capable : Bool) (v : Verdict) →
      first_of (mark_rules s o wanted) ≡ v →
      decide t s o wanted capable ≡ answered (effective t (label_in t s) capable) (after v (ruling_of t s o wanted).verdict)
  unfolding decide
  decide-is capable v e = ap (answered (effective t (label_in t s) capable)) (in_two-parts v e)

-- ---- rules 5 to 7, by numbers

-- labels that were sought in one list have the same number exactly where they are equal; where neither has one the bytes tell
pub same_numbers : (ls : List (List ℕ)) (s o : List ℕ) (f g : Option ℕ) → f ≡ first (same_bytes s) ls → g ≡ first (same_bytes o) ls → same_label s o f g ≡ same_bytes s o
same_numbers ls s o (Some i) (Some j) p q = by-test (eqb i j) refl
  where
    by-test : (b : Bool) → eqb i j ≡ b → b ≡ same_bytes s o
    by-test true e =
        let x = same-equal s (get_or ls i []) (first-is (same_bytes s) [] ls i (sym p)).1 in
        let y = same-equal o (get_or ls j []) (first-is (same_bytes o) [] ls j (sym q)).1 in
        let z : s ≡ o = x ∙ ap (λ (n : ℕ). get_or ls n []) (eqb-true i j e) ∙ sym y in
        sym (ap (λ (l : List ℕ). same_bytes l o) z ∙ same_refl o)
    by-test false e =
        sym (not_so (same_bytes s o) (λ h.
        let z : Some i ≡ Some j = p ∙ ap (λ (l : List ℕ). first (same_bytes l) ls) (same-equal s o h) ∙ sym q in
        let w : i ≡ j = cc in
        eqb-false i j e w))
same_numbers ls s o (Some i) None p q =
    sym (not_so (same_bytes s o) (λ h. let z : Some i ≡ None = p ∙ ap (λ (l : List ℕ). first (same_bytes l) ls) (same-equal s o h) ∙ sym q in let w : ◌≡◌ {A = ℕ} 0 1 = cc in omega arith))
same_numbers ls s o None (Some j) p q =
    sym (not_so (same_bytes s o) (λ h. let z : None ≡ Some j = p ∙ ap (λ (l : List ℕ). first (same_bytes l) ls) (same-equal s o h) ∙ sym q in let w : ◌≡◌ {A = ℕ} 0 1 = cc in omega arith))
same_numbers ls s o None None p q = refl

-- what each of the three says, with the modes by which it granted
abbrev pub ruling : Verdict → ℕ → Ruling
ruling v m = record { verdict = v; modes = m }

pub ruled-same : (same : Bool) (pair : PairModes) (wanted : ℕ) → same ≡ true → ruling (Grants 5) 0 ≡ ruled same pair wanted
unfolding ruled
ruled-same same pair wanted e = rw e

module _ (same : Bool) (apart : same ≡ false) (rules : List Rule) (f : Option ℕ) (wanted : ℕ) where
  pub ruled-none : f ≡ None → ruling (Denies AnyOther) 0 ≡ ruled same (modes_found rules f) wanted
  unfolding ruled
  ruled-none e = rw (apart, e)

  module _ (m : ℕ) (is : modes_found rules f ≡ has_modes m) where
    pub ruled-grants : holds wanted m ≡ true → ruling (Grants 6) m ≡ ruled same (modes_found rules f) wanted
    unfolding ruled
    ruled-grants e = rw (apart, is, e)

    pub ruled-denies : holds wanted m ≡ false → ruling (Denies AnyOther) 0 ≡ ruled same (modes_found rules f) wanted
    unfolding ruled
    ruled-denies e = rw (apart, is, e)

-- ---- override, and where a rule stands, look at no label of the store

module _ (l e w : List ℕ) where
  effective-same : (s : Option ℕ) (capable : Bool) → effective (table_of (store [] e w)) s capable ≡ effective (table_of (store l e w)) s capable
  unfolding effective
  effective-same s capable = refl

  pub denied-same : (s s' : Option ℕ) (capable : Bool) (by : Denial) → s ≡ s' → denied (effective (table_of (store [] e w)) s capable) by ≡ denied (effective (table_of (store l e w)) s' capable) by
  denied-same s s' capable by q = rw (effective-same s capable, q)

  pub answered-same :
      (s : List ℕ) (f : Option ℕ) (capable : Bool) (r z : Ruling) →
      f ≡ label_in (table_of (store l e w)) s →
      r ≡ z →
      answered (effective (table_of (store [] e w)) f capable) r.verdict ≡ answered (effective (table_of (store l e w)) (label_in (table_of (store l e w)) s) capable) z.verdict
  answered-same s f capable r z p q = rw (effective-same f capable, p, q)

  pub between_same : (s s' o o' : Option ℕ) → s ≡ s' → o ≡ o' → rule_between (table_of (store [] e w)) s o ≡ rule_between (table_of (store l e w)) s' o'
  between_same s s' o o' p q = rw (p, q) (by_case s' o')
    where
      by_case : (f g : Option ℕ) → rule_between (table_of (store [] e w)) f g ≡ rule_between (table_of (store l e w)) f g
      by_case (Some i) (Some j) = refl
      by_case (Some i) None = refl
      by_case None g = refl

  -- rules 5 to 7 by the numbers of two labels that were sought are those by the labels
  pub ruled-by :
      (s o : List ℕ) (same : Bool) (f g : Option ℕ) (wanted : ℕ) →
      same ≡ same_bytes s o →
      f ≡ label_in (table_of (store l e w)) s →
      g ≡ label_in (table_of (store l e w)) o →
      ruling_by (table_of (store [] e w)) same f g wanted ≡ ruling_of (table_of (store l e w)) s o wanted
  unfolding modes_between
  ruled-by s o same f g wanted r p q =
      rw r
      (ap (λ (k : Option ℕ). ruled (same_bytes s o) (modes_found (table_of (store l e w)).rules k) wanted) (between_same f _ g _ p q))

  -- two labels that were sought in a tested store have numbers that the rule search takes
  pub numbers-below :
      Sizes l e w → Counts w → (s o : List ℕ) (f g : Option ℕ) →
      f ≡ label_in (table_of (store l e w)) s →
      g ≡ label_in (table_of (store l e w)) o →
      ((modes_from + rule_limit ≤ length e) × (firsts_from ≤ length w) × Counts w) × ((place_of f 0 < label_limit) × (place_of g 0 < label_limit))
  numbers-below sizes counts s o f g p q =
      let n = get_or w 0 0 in (
        (omega (arith, sizes.entries), omega (arith, sizes.words), counts),
        (place-below (same_bytes s) (label_at l) n 64 f p counts.labels (omega arith), place-below (same_bytes o) (label_at l) n 64 g q counts.labels (omega arith)),
      )

  pub between_below : (s o : Option ℕ) (k : ℕ) → rule_between (table_of (store l e w)) s o ≡ Some k → k < get_or w 1 0
  between_below (Some i) (Some j) k q = found_below (is_pair i j) (rule_at e) (get_or w 1 0) k q
  between_below (Some i) None k q = let z : ◌≡◌ {A = ℕ} 0 1 = cc in absurd (omega arith)
  between_below None o k q = let z : ◌≡◌ {A = ℕ} 0 1 = cc in absurd (omega arith)

-- ---- 01's order, said once more in other words

-- what the first that applies says
pub first_says : (d : Clause) (ls : List Clause) (k : ℕ) → first (λ (l : Clause). l.applies) ls ≡ Some k → first_of ls ≡ (get_or ls k d).says
unfolding first
first_says d [] k e = let z : ◌≡◌ {A = ℕ} 0 1 = cc in absurd (omega arith)
first_says d (l ∷ ls) k e = by-test l.applies (first (λ (m : Clause). m.applies) ls) (first_says d ls) k e
  where
    by-test :
        (b : Bool) (f : Option ℕ) →
        ((j : ℕ) → f ≡ Some j → first_of ls ≡ (get_or ls j d).says) →
        (i : ℕ) →
        cond b (Some zero) (later f) ≡ Some i →
        cond b l.says (first_of ls) ≡ (get_or (l ∷ ls) i d).says
    by-test true f ih i q = let z : i ≡ 0 = cc in rw z
    by-test false (Some j) ih i q = let z : i ≡ suc j = cc in rw z (ih j refl)
    by-test false None ih i q = let z : ◌≡◌ {A = ℕ} 0 1 = cc in absurd (omega arith)

-- the seventh applies to every question, so none is left undecided
pub all_decided : (t : Table) (s o : List ℕ) (wanted : ℕ) → decides (first_of (seven_rules t s o wanted)) ≡ true
all_decided t s o wanted =
    let six : List Clause = take 6 (seven_rules t s o wanted) in
    ap decides (first_then six (rule7 ∷ []) refl) ∙ then-decides (first_of six)
  where
    then-decides : (v : Verdict) → decides (after v (Denies AnyOther)) ≡ true
    then-decides (Grants n) = refl
    then-decides (Denies by) = refl
    then-decides Undecided = refl

-- the answer to a question that is not refused
module _ (t : Table) (s o request : List ℕ) (capable : Bool) (wanted : ℕ) where
  pub answer-is :
      well_formed s ≡ true →
      well_formed o ≡ true →
      (length request ≡ 0 → ⊥) →
      read_modes request_letters false request ≡ Some wanted →
      answer t s o request capable ≡ answered (effective t (label_in t s) capable) (first_of (seven_rules t s o wanted))
  unfolding answer decide
  answer-is hs ho some read = rw (hs, ho, ne_eqb (length request) 0 some, read)

-- An accepted line or change sets its pair's modes and touches no other answer: not by the rule that it sets, nor by the labels that enter.
-- Assumes nothing.
use mathlib.Core.Path.{◌≡◌, refl, sym, ap, ◌∙◌, subst}
use mathlib.Core.Bool.{Bool, true, false, cond, not, ◌&&◌, ◌||◌}
use mathlib.Core.List.{List, [], ◌∷◌}
use Prim.Native.Nat.{ℕ, ◌+◌, ◌≤◌}
use native.Mathlib.Omega.{arith}
use lib.Dec.{eqb, ltb, leb}
use borrow.Author.Tests.{eqb-true, eq-eqb, lt-ltb, le-ltb, ltb-true, ltb-false, le-leb, lt-leb, leb-true, leb-false}
use lib.ListN.{length, get_or}
use Rattle.search.specs.Within.{count_after}
use Rattle.search.specs.Search.{first, put, place_of}
use Rattle.search.specs.Bytes.{same_bytes}
use Rattle.std.proofs.Common.{Option, Some, None}
use Rattle.search.proofs.Laws.{no, and_both, same_refl, same-equal, first-place, first-put, entries-length, first-put-other, found-put-other, put-at, not_so, Front, front-first, front_beyond}
use Rattle.refusals.specs.Refusals.{too_long, same_labels, labels_full, rules_full, bad_label_at}
use Rattle.alphabet.specs.Alphabet.{well_formed, fields, bad_byte_in}
use Rattle.modes.specs.Modes.{read_modes, line_letters, change_letters, request_letters, stored_modes}
use Rattle.store.specs.declared.Rule.{Rule}
use Rattle.store.specs.Table.{Table, label_in, is_pair, pair_in, sound_table, no_place}
use Rattle.store.specs.Layout.{Store, label_at, table_of, undamaged_of}
use Rattle.store.proofs.Laws.{sound_more, undamaged-is}
use Rattle.rules.specs.Rules.{pair_labels, with_pair}
use Rattle.rules.proofs.Pairs.{pair-length}
use Rattle.rules.specs.Within.{modes_of_rule}
use Rattle.lines.specs.Lines.{Said, refused, rule, change, rule_of, change_of, rule_with, rule_by, rule_fields, change_with, change_by, change_fields}
use Rattle.lines.proofs.Laws.{Taken, Sound, rule-sound, change-sound}
use Rattle.writes.specs.Writes.{judged, changed}
use Rattle.store.specs.Judged.{Judged, is_skipped, is_refused, is_accepted, table_after}
use Rattle.access.specs.SevenRules.{rules_for, first_of, seven_rules}
use Rattle.store.specs.Pairs.{rule_between, PairModes, has_modes, modes_found, modes_between, modes_or_none}
use Rattle.access.specs.Access.{effective, answered, decide, by_request, answer}
use Rattle.store.proofs.Pairs.{not_listed, not_subject, not_object}
use Rattle.new_object.proofs.WhichLabel.{goes_by-modes, pair_alone}
use Rattle.grown.specs.Pairs.{SoundTable, Triple, ChangeText, new_labels, has_rule, has_room, was_accepted, SetsPair}
use Rattle.grown.proofs.Sane.{subject_at, object_at, paired, subject_number, object_number, pair-front, one_label, Paired, rule_paired, change_paired}

-- the table of an undamaged state is sound
pub undamaged-sound : (st : Store) → undamaged_of st ≡ true → SoundTable (table_of st)
undamaged-sound st u = subst (λ (n : ℕ). sound_table n (table_of st) ≡ true) (sym (entries-length (label_at st.labels) (get_or st.words 0 0))) (undamaged-is st u).sound

-- ---- an answer goes by the pair's modes and the subject's override, and by nothing else of the tables

module _
    (t t' : Table) (s o : List ℕ) (modes : modes_between t' s o ≡ modes_between t s o)
    (override : (capable : Bool) → effective t' (label_in t' s) capable ≡ effective t (label_in t s) capable)
  where
    decide-same : (wanted : ℕ) (capable : Bool) → decide t' s o wanted capable ≡ decide t s o wanted capable
    unfolding decide
    decide-same wanted capable =
        ap (λ (b : Bool). answered b (first_of (seven_rules t' s o wanted))) (override capable)
        ∙ ap (λ (q : PairModes). answered (effective t (label_in t s) capable) (first_of (rules_for s o q wanted))) modes

    request_same : (capable : Bool) (a : Option ℕ) → by_request t' s o capable a ≡ by_request t s o capable a
    request_same capable (Some wanted) = decide-same wanted capable
    request_same capable None = refl

    pub answer-same : (request : List ℕ) (capable : Bool) → answer t' s o request capable ≡ answer t s o request capable
    unfolding answer
    answer-same request capable = rw (request_same capable (read_modes request_letters false request))

-- ---- labels that enter: each other has the number that it had, and a new one a number beyond

data Kept (n : ℕ) : Option ℕ → Option ℕ → Type 0 where
  same : {f : Option ℕ} → Kept n f f
  new : (i : ℕ) → n ≤ i → Kept n None (Some i)

number-kept : {ls ms : List (List ℕ)} → Front ls ms → (x : List ℕ) → Kept (length ls) (first (same_bytes x) ls) (first (same_bytes x) ms)
number-kept {ls} {ms} a x = by_case (first (same_bytes x) ls) (first (same_bytes x) ms) (λ i. front-first (same_bytes x) i a) (λ i. front_beyond (same_bytes x) i a)
  where
    by_case : (f g : Option ℕ) → ((i : ℕ) → f ≡ Some i → g ≡ Some i) → ((i : ℕ) → f ≡ None → g ≡ Some i → length ls ≤ i) → Kept (length ls) f g
    by_case (Some i) g h k = subst (λ (z : Option ℕ). Kept (length ls) (Some i) z) (sym (h i refl)) same
    by_case None (Some i) h k = new i (k i refl refl)
    by_case None None h k = same

-- of a sound table t, and one that has its labels in front
module _ (t t' : Table) (sound : sound_table (length t.labels) t ≡ true) where
  beyond : (i : ℕ) → length t.labels ≤ i → sound_table i t ≡ true
  beyond i h = sound_more (length t.labels) i h t sound

  between_kept :
      {f f' g g' : Option ℕ} →
      Kept (length t.labels) f f' →
      Kept (length t.labels) g g' →
      ((i j : ℕ) → f' ≡ Some i → g' ≡ Some j → modes_found t'.rules (pair_in t' i j) ≡ modes_found t.rules (pair_in t i j)) →
      modes_found t'.rules (rule_between t' f' g') ≡ modes_found t.rules (rule_between t f g)
  between_kept {f = Some i} {g = Some j} same same h = h i j refl refl
  between_kept {f = Some i} {g = None} same same h = refl
  between_kept {f = None} same b h = refl
  between_kept {f = Some i} same (new j k) h = h i j refl refl ∙ ap (modes_found t.rules) (not_object t j (beyond j k) i)
  between_kept {g = Some j} (new i k) same h = h i j refl refl ∙ ap (modes_found t.rules) (not_subject t i (beyond i k) j)
  between_kept {g = None} (new i k) same h = refl
  between_kept (new i k) (new j l) h = h i j refl refl ∙ ap (modes_found t.rules) (not_subject t i (beyond i k) j)

  pub modes-kept :
      Front t.labels t'.labels →
      (x y : List ℕ) →
      ((i j : ℕ) → label_in t' x ≡ Some i → label_in t' y ≡ Some j → modes_found t'.rules (pair_in t' i j) ≡ modes_found t.rules (pair_in t i j)) →
      modes_between t' x y ≡ modes_between t x y
  unfolding modes_between
  modes-kept a x y h = between_kept (number-kept a x) (number-kept a y) h

  listed_kept : {f f' : Option ℕ} → Kept (length t.labels) f f' → (capable : Bool) → t'.onlycap ≡ t.onlycap → effective t' f' capable ≡ effective t f capable
  unfolding effective
  listed_kept same capable e = rw e
  listed_kept (new i k) capable e = rw (e, not_listed t i (beyond i k))

  pub override-kept : Front t.labels t'.labels → t'.onlycap ≡ t.onlycap → (x : List ℕ) (capable : Bool) → effective t' (label_in t' x) capable ≡ effective t (label_in t x) capable
  override-kept a e x capable = listed_kept (number-kept a x) capable e

-- ---- the pair that is set, and the others

-- a rule of one pair is of no other
pub pair-other : (i j a b : ℕ) → (i ≡ a → j ≡ b → ⊥) → (r : Rule) → is_pair a b r ≡ true → is_pair i j r ≡ false
unfolding is_pair
pair-other i j a b apart r e =
    not_so (is_pair i j r)
    (λ q.
    let x = and_both (eqb r.subject a) (eqb r.object b) e in
    let y = and_both (eqb r.subject i) (eqb r.object j) q in
    apart (sym (eqb-true _ _ y.0) ∙ eqb-true _ _ x.0) (sym (eqb-true _ _ y.1) ∙ eqb-true _ _ x.1))

pub pair-itself : (a b m : ℕ) → is_pair a b (record { subject = a; object = b; modes = m }) ≡ true
unfolding is_pair
pair-itself a b m = rw (eq-eqb a a refl, eq-eqb b b refl)

module _ (rules : List Rule) (a b m : ℕ) where
  abbrev set-rules : List Rule
  set-rules = put (first (is_pair a b) rules) rules (record { subject = a; object = b; modes = m })

  pub modes-set : modes_found set-rules (first (is_pair a b) set-rules) ≡ has_modes m
  modes-set =
      ap (modes_found set-rules) (first-put (is_pair a b) rules (record { subject = a; object = b; modes = m }) (pair-itself a b m))
      ∙ ap (λ (r : Rule). has_modes r.modes)
      (put-at (record { subject = 0; object = 0; modes = 0 }) (first (is_pair a b) rules) rules (record { subject = a; object = b; modes = m }) (first-place (is_pair a b) (record { subject = 0; object = 0; modes = 0 }) rules))

  pub modes-other : (i j : ℕ) → (i ≡ a → j ≡ b → ⊥) → modes_found set-rules (first (is_pair i j) set-rules) ≡ modes_found rules (first (is_pair i j) rules)
  modes-other i j apart =
      ap (modes_found set-rules) (first-put-other (is_pair i j) (is_pair a b) rules (record { subject = a; object = b; modes = m }) (pair-other i j a b apart (record { subject = a; object = b; modes = m }) (pair-itself a b m)) (pair-other i j a b apart))
      ∙ by_case (first (is_pair i j) rules) (found-put-other (is_pair i j) (is_pair a b) (record { subject = 0; object = 0; modes = 0 }) rules (record { subject = a; object = b; modes = m }) (pair-other i j a b apart))
    where
      by_case :
          (f : Option ℕ) →
          ((k : ℕ) → f ≡ Some k → get_or set-rules k (record { subject = 0; object = 0; modes = 0 }) ≡ get_or rules k (record { subject = 0; object = 0; modes = 0 })) →
          modes_found set-rules f ≡ modes_found rules f
      by_case (Some k) h = ap (λ (r : Rule). has_modes r.modes) (h k refl)
      by_case None h = refl

module _ (t : Table) (s o : List ℕ) (m : ℕ) (taken : Taken s o) (sound : sound_table (length t.labels) t ≡ true) where
  pair_set : modes_between (paired t s o m) s o ≡ has_modes m
  unfolding modes_between
  pair_set = rw (subject_number t s o taken, object_number t s o taken) (modes-set t.rules (subject_at t s o) (object_at t s o) m)

  others-kept : (x y : List ℕ) → (x ≡ s → y ≡ o → ⊥) → modes_between (paired t s o m) x y ≡ modes_between t x y
  others-kept x y apart =
      modes-kept t (paired t s o m) sound (pair-front t s o taken) x y
      (λ i j e q.
      modes-other t.rules (subject_at t s o) (object_at t s o) m i j
      (λ a b.
      apart
      (one_label (pair_labels t s o) x s i e (subject_number t s o taken ∙ ap Some (sym a)))
      (one_label (pair_labels t s o) y o j q (object_number t s o taken ∙ ap Some (sym b)))))

  override-same : (x : List ℕ) (capable : Bool) → effective (paired t s o m) (label_in (paired t s o m) x) capable ≡ effective t (label_in t x) capable
  override-same = override-kept t (paired t s o m) sound (pair-front t s o taken) refl

  pub pair-sets : SetsPair t (paired t s o m) s o m
  pair-sets =
      record {
        modes = pair_set;
        judged_by = λ wanted. ap (λ (q : PairModes). rules_for s o q wanted) pair_set;
        other_answers = λ x y request capable apart. answer-same t (paired t s o m) x y (others-kept x y apart) (override-same x) request capable;
        other_modes = others-kept;
        override = override-same;
        new_objects = goes_by-modes (paired t s o m) s o (has_modes m) pair_set;
        other_new_objects = λ x y apart. pair_alone (paired t s o m) t x y (others-kept x y apart);
      }

pub paired_sets : {t t' : Table} {s o : List ℕ} {m : ℕ} → SoundTable t → Paired t t' s o m → SetsPair t t' s o m
paired_sets {t} {s = s} {o = o} {m = m} h q = subst (λ (z : Table). SetsPair t z s o m) (sym q.is) (pair-sets t s o m q.taken h)

-- ANY ACCEPTED LINE
pub line_sets : (t t' : Table) (text s o : List ℕ) (m : ℕ) → SoundTable t → rule_of text ≡ rule s o m → judged t (rule_of text) ≡ is_accepted t' → SetsPair t t' s o m
line_sets t t' text s o m h e q = paired_sets h (rule_paired t t' s o m h (subst Sound e (rule-sound text)) (ap (judged t) (sym e) ∙ q))

-- ---- with room for it

-- the pair's rule, by the numbers that its labels have or get, is what rule 6 reads: a label that is not there yet has no rules
pub pair_read : (t : Table) (s o : List ℕ) → sound_table (length t.labels) t ≡ true → modes_found t.rules (pair_in t (subject_at t s o) (object_at t s o)) ≡ modes_between t s o
unfolding modes_between
pair_read t s o sound = by_case (label_in t s) (label_in t o)
  where
    by_case :
        (f g : Option ℕ) →
        modes_found t.rules (pair_in t (place_of f (length t.labels)) (place_of g (count_after f (length t.labels)))) ≡ modes_found t.rules (rule_between t f g)
    by_case (Some i) (Some j) = refl
    by_case (Some i) None = ap (modes_found t.rules) (not_object t (length t.labels) sound i)
    by_case None (Some j) = ap (modes_found t.rules) (not_subject t (length t.labels) sound j)
    by_case None None = ap (modes_found t.rules) (not_subject t (length t.labels) sound (length t.labels + 1))

not_ltb : (a b : ℕ) → not (ltb a b) ≡ leb b a
not_ltb a b = by-test (ltb a b) refl
  where
    by-test : (x : Bool) → ltb a b ≡ x → not x ≡ leb b a
    by-test true e = sym (lt-leb _ _ (ltb-true a b e))
    by-test false e = sym (le-leb _ _ (ltb-false a b e))

not_leb : (a b : ℕ) → not (leb a b) ≡ ltb b a
not_leb a b = by-test (leb a b) refl
  where
    by-test : (x : Bool) → leb a b ≡ x → not x ≡ ltb b a
    by-test true e = sym (le-ltb _ _ (leb-true a b e))
    by-test false e = sym (lt-ltb _ _ (leb-false a b e))

pub labels-counted : (f g : Option ℕ) (n : ℕ) → count_after g (count_after f n) ≡ n + (new_labels f + new_labels g)
labels-counted (Some i) (Some j) n = omega arith
labels-counted (Some i) None n = omega arith
labels-counted None (Some j) n = omega arith
labels-counted None None n = omega arith

rule-room : (rules : List Rule) (f : Option ℕ) (n : ℕ) → not (no_place f n 256) ≡ (has_rule (modes_found rules f) || ltb n 256)
rule-room rules (Some k) n = refl
rule-room rules None n = not_leb 256 n

-- a rule is accepted exactly where there is room for it
pub rule-accepted : (t : Table) (s o : List ℕ) (m : ℕ) → same_bytes s o ≡ false → was_accepted (judged t (rule s o m)) ≡ has_room t s o
unfolding has_room modes_between
rule-accepted t s o m different =
    by_tests (ltb 64 (length (pair_labels t s o))) (no_place (rule_between t (label_in t s) (label_in t o)) (length t.rules) 256)
    ∙ rw (
      not_ltb 64 (length (pair_labels t s o)),
      pair-length t s o different,
      labels-counted (label_in t s) (label_in t o) (length t.labels),
      rule-room t.rules (rule_between t (label_in t s) (label_in t o)) (length t.rules),
    )
  where
    by_tests : (a b : Bool) → was_accepted (cond a (is_refused labels_full) (cond b (is_refused rules_full) (is_accepted (with_pair t s o m)))) ≡ (not a && not b)
    by_tests true b = refl
    by_tests false true = refl
    by_tests false false = refl

-- a well-formed triple is a rule
pub triple_rule : {text s o : List ℕ} {m : ℕ} → Triple text s o m → rule_of text ≡ rule s o m
unfolding rule_of rule_by
triple_rule {text} {s} {o} {m} w =
    rw (
      le-ltb 600 (length text) w.short,
      w.three,
      w.subject,
      w.object,
      w.read,
      not_so (same_bytes s o) (λ e. w.different (same-equal s o e)),
      w.modes,
    )

-- and a line that says a rule is such a triple
pub rule_triple : (text s o : List ℕ) (m : ℕ) → rule_of text ≡ rule s o m → Triple text s o m
unfolding rule_of rule_by
rule_triple text s o m e = by_length (ltb 600 (length text)) refl e
  where
    by-same :
        (x y a : List ℕ) (n : ℕ) →
        length text ≤ 600 →
        fields text ≡ x ∷ y ∷ a ∷ [] →
        well_formed x ≡ true →
        well_formed y ≡ true →
        read_modes line_letters true a ≡ Some n →
        (b : Bool) →
        same_bytes x y ≡ b →
        cond b (refused same_labels) (rule x y (stored_modes n)) ≡ rule s o m →
        Triple text s o m
    by-same x y a n short three fx fy r true q e = let z : ◌≡◌ {A = ℕ} 0 1 = cc in absurd (omega arith)
    by-same x y a n short three fx fy r false q e =
        let i : x ≡ s = cc in
        let j : y ≡ o = cc in
        let k : stored_modes n ≡ m = cc in
        rw (← i, ← j)
        (record {
          short = short;
          access = a;
          three = three;
          subject = fx;
          object = fy;
          letters = n;
          read = r;
          modes = k;
          different = λ z. no (sym q ∙ ap (λ (v : List ℕ). same_bytes v y) z ∙ same_refl y);
        })

    by-access :
        (x y a : List ℕ) →
        length text ≤ 600 →
        fields text ≡ x ∷ y ∷ a ∷ [] →
        well_formed x ≡ true →
        well_formed y ≡ true →
        (v : Option ℕ) →
        read_modes line_letters true a ≡ v →
        rule_with x y v ≡ rule s o m →
        Triple text s o m
    by-access x y a short three fx fy (Some n) r e = by-same x y a n short three fx fy r (same_bytes x y) refl e
    by-access x y a short three fx fy None r e = let z : ◌≡◌ {A = ℕ} 0 1 = cc in absurd (omega arith)

    by-formed :
        (x y a : List ℕ) →
        length text ≤ 600 →
        fields text ≡ x ∷ y ∷ a ∷ [] →
        (b : Bool) →
        well_formed x ≡ b →
        (c : Bool) →
        well_formed y ≡ c →
        cond (b && c) (rule_with x y (read_modes line_letters true a)) (refused (bad_label_at (bad_byte_in text))) ≡ rule s o m →
        Triple text s o m
    by-formed x y a short three true fx true fy e = by-access x y a short three fx fy (read_modes line_letters true a) refl e
    by-formed x y a short three true fx false fy e = let z : ◌≡◌ {A = ℕ} 0 1 = cc in absurd (omega arith)
    by-formed x y a short three false fx c fy e = let z : ◌≡◌ {A = ℕ} 0 1 = cc in absurd (omega arith)

    by-fields : (fs : List (List ℕ)) → fields text ≡ fs → length text ≤ 600 → rule_fields (bad_byte_in text) fs ≡ rule s o m → Triple text s o m
    by-fields [] three short e = let z : ◌≡◌ {A = ℕ} 0 1 = cc in absurd (omega arith)
    by-fields (x ∷ []) three short e = let z : ◌≡◌ {A = ℕ} 0 1 = cc in absurd (omega arith)
    by-fields (x ∷ y ∷ []) three short e = let z : ◌≡◌ {A = ℕ} 0 1 = cc in absurd (omega arith)
    by-fields (x ∷ y ∷ a ∷ []) three short e = by-formed x y a short three (well_formed x) refl (well_formed y) refl e
    by-fields (x ∷ y ∷ a ∷ v ∷ more) three short e = let z : ◌≡◌ {A = ℕ} 0 1 = cc in absurd (omega arith)

    by_length : (b : Bool) → ltb 600 (length text) ≡ b → cond b (refused too_long) (rule_fields (bad_byte_in text) (fields text)) ≡ rule s o m → Triple text s o m
    by_length true q e = let z : ◌≡◌ {A = ℕ} 0 1 = cc in absurd (omega arith)
    by_length false q e = by-fields (fields text) refl (ltb-false _ _ q) e

-- a well-formed change is one
pub text-change : {text s o : List ℕ} {a d : ℕ} → ChangeText text s o a d → change_of text ≡ change s o a d
unfolding change_of change_by
text-change {text} {s} {o} w =
    rw (
      le-ltb 600 (length text) w.short,
      w.four,
      w.subject,
      w.object,
      w.allows,
      w.denies,
      not_so (same_bytes s o) (λ e. w.different (same-equal s o e)),
    )

-- and a write that says a change is such a text
pub change-text : (text s o : List ℕ) (a d : ℕ) → change_of text ≡ change s o a d → ChangeText text s o a d
unfolding change_of change_by
change-text text s o a d e = by_length (ltb 600 (length text)) refl e
  where
    by-same :
        (x y f g : List ℕ) (n k : ℕ) →
        length text ≤ 600 →
        fields text ≡ x ∷ y ∷ f ∷ g ∷ [] →
        well_formed x ≡ true →
        well_formed y ≡ true →
        read_modes change_letters true f ≡ Some n →
        read_modes change_letters true g ≡ Some k →
        (b : Bool) →
        same_bytes x y ≡ b →
        cond b (refused same_labels) (change x y n k) ≡ change s o a d →
        ChangeText text s o a d
    by-same x y f g n k short four fx fy r w true q e = let z : ◌≡◌ {A = ℕ} 0 1 = cc in absurd (omega arith)
    by-same x y f g n k short four fx fy r w false q e =
        let i : x ≡ s = cc in
        let j : y ≡ o = cc in
        let u : n ≡ a = cc in
        let v : k ≡ d = cc in
        rw (← i, ← j, ← u, ← v)
        (record {
          short = short;
          allow_field = f;
          deny_field = g;
          four = four;
          subject = fx;
          object = fy;
          allows = r;
          denies = w;
          different = λ z. no (sym q ∙ ap (λ (l : List ℕ). same_bytes l y) z ∙ same_refl y);
        })

    by-access :
        (x y f g : List ℕ) →
        length text ≤ 600 →
        fields text ≡ x ∷ y ∷ f ∷ g ∷ [] →
        well_formed x ≡ true →
        well_formed y ≡ true →
        (v : Option ℕ) →
        read_modes change_letters true f ≡ v →
        (u : Option ℕ) →
        read_modes change_letters true g ≡ u →
        change_with x y v u ≡ change s o a d →
        ChangeText text s o a d
    by-access x y f g short four fx fy (Some n) r (Some k) w e = by-same x y f g n k short four fx fy r w (same_bytes x y) refl e
    by-access x y f g short four fx fy (Some n) r None w e = let z : ◌≡◌ {A = ℕ} 0 1 = cc in absurd (omega arith)
    by-access x y f g short four fx fy None r u w e = let z : ◌≡◌ {A = ℕ} 0 1 = cc in absurd (omega arith)

    by-formed :
        (x y f g : List ℕ) →
        length text ≤ 600 →
        fields text ≡ x ∷ y ∷ f ∷ g ∷ [] →
        (b : Bool) →
        well_formed x ≡ b →
        (c : Bool) →
        well_formed y ≡ c →
        cond (b && c) (change_with x y (read_modes change_letters true f) (read_modes change_letters true g)) (refused (bad_label_at (bad_byte_in text))) ≡ change s o a d →
        ChangeText text s o a d
    by-formed x y f g short four true fx true fy e =
        by-access x y f g short four fx fy (read_modes change_letters true f) refl (read_modes change_letters true g) refl e
    by-formed x y f g short four true fx false fy e = let z : ◌≡◌ {A = ℕ} 0 1 = cc in absurd (omega arith)
    by-formed x y f g short four false fx c fy e = let z : ◌≡◌ {A = ℕ} 0 1 = cc in absurd (omega arith)

    by-fields : (fs : List (List ℕ)) → fields text ≡ fs → length text ≤ 600 → change_fields (bad_byte_in text) fs ≡ change s o a d → ChangeText text s o a d
    by-fields [] four short e = let z : ◌≡◌ {A = ℕ} 0 1 = cc in absurd (omega arith)
    by-fields (x ∷ []) four short e = let z : ◌≡◌ {A = ℕ} 0 1 = cc in absurd (omega arith)
    by-fields (x ∷ y ∷ []) four short e = let z : ◌≡◌ {A = ℕ} 0 1 = cc in absurd (omega arith)
    by-fields (x ∷ y ∷ f ∷ []) four short e = let z : ◌≡◌ {A = ℕ} 0 1 = cc in absurd (omega arith)
    by-fields (x ∷ y ∷ f ∷ g ∷ []) four short e = by-formed x y f g short four (well_formed x) refl (well_formed y) refl e
    by-fields (x ∷ y ∷ f ∷ g ∷ v ∷ more) four short e = let z : ◌≡◌ {A = ℕ} 0 1 = cc in absurd (omega arith)

    by_length : (b : Bool) → ltb 600 (length text) ≡ b → cond b (refused too_long) (change_fields (bad_byte_in text) (fields text)) ≡ change s o a d → ChangeText text s o a d
    by_length true q e = let z : ◌≡◌ {A = ℕ} 0 1 = cc in absurd (omega arith)
    by_length false q e = by-fields (fields text) refl (ltb-false _ _ q) e

pub accepted_as : (t : Table) (j : Judged) → was_accepted j ≡ true → j ≡ is_accepted (table_after t j)
accepted_as t is_skipped e = absurd (no e)
accepted_as t (is_refused n) e = absurd (no e)
accepted_as t (is_accepted z) e = refl

-- its labels are two
pub triple_apart : {text s o : List ℕ} {m : ℕ} → Triple text s o m → same_bytes s o ≡ false
triple_apart {text} w = (subst Sound (triple_rule w) (rule-sound text)).0.apart

-- A WELL-FORMED TRIPLE WITH ROOM FOR IT
pub triple_sets : (t : Table) (text s o : List ℕ) (m : ℕ) → SoundTable t → Triple text s o m → has_room t s o ≡ true → SetsPair t (table_after t (judged t (rule_of text))) s o m
triple_sets t text s o m h w room =
    line_sets t (table_after t (judged t (rule_of text))) text s o m h (triple_rule w)
    (accepted_as t (judged t (rule_of text)) (ap (λ (x : Said). was_accepted (judged t x)) (triple_rule w) ∙ rule-accepted t s o m (triple_apart w) ∙ room))

-- ANY ACCEPTED CHANGE
modes_so_far : (rules : List Rule) (f : Option ℕ) → modes_of_rule f rules ≡ modes_or_none (modes_found rules f)
modes_so_far rules (Some k) = refl
modes_so_far rules None = refl

pub change-sets :
    (t t' : Table) (text s o : List ℕ) (a d : ℕ) →
    SoundTable t →
    change_of text ≡ change s o a d →
    judged t (change_of text) ≡ is_accepted t' →
    SetsPair t t' s o (changed (modes_or_none (modes_between t s o)) a d)
change-sets t t' text s o a d h e q =
    subst (λ (m : ℕ). SetsPair t t' s o (changed m a d)) (modes_so_far t.rules (pair_in t (subject_at t s o) (object_at t s o)) ∙ ap modes_or_none (pair_read t s o h))
    (paired_sets h (change_paired t t' s o a d h (subst Sound e (change-sound text)) (ap (judged t) (sym e) ∙ q)))

-- The fresh table is sane, and a line of rule text and a change-rule write leave a sane table sane: a law for labels that enter, and one for
-- a pair that is set. Assumes nothing.
use mathlib.Core.Path.{◌≡◌, refl, sym, ap, ◌∙◌, subst}
use mathlib.Core.Bool.{Bool, true, false, ◌&&◌}
use mathlib.Core.List.{List, [], ◌++◌}
use Prim.Native.Nat.{ℕ, zero, suc, ◌<◌}
use native.Mathlib.Omega.{arith}
use lib.Dec.{eqb, ltb}
use borrow.Author.Tests.{eqb-true, eq-eqb, ne_eqb, ltb-true}
use lib.ListN.{length, get_or, take, drop, take-append-drop}
use lib.Seq.{take_at}
use Rattle.search.specs.Search.{first, all, put}
use Rattle.search.specs.Bytes.{same_bytes}
use Rattle.std.proofs.Common.{Option, Some, None, Result, Ok, Err}
use Rattle.search.proofs.Laws.{no, and_both, same_refl, same-equal, same_sym, all-at, all-put, first-is, length-put, Same, distinct_put, Front, front-more, front_length}
use Rattle.alphabet.specs.Alphabet.{label_byte, well_formed}
use Rattle.modes.specs.Modes.{known_modes}
use Rattle.store.specs.declared.Rule.{Rule}
use Rattle.store.specs.Table.{Table, fresh, label_in, labels_entered, enter, is_pair, pair_in, sound_rule, sound_mapping, sound_table, label_numbered, rule_numbered}
use Rattle.store.proofs.Laws.{sound_more}
use Rattle.store.proofs.Pairs.{enter-front, enter-other, enter-once, enter-all}
use Rattle.rules.specs.declared.Spot.{Spot}
use Rattle.refusals.specs.declared.Refusal.{Refusal}
use Rattle.rules.specs.Rules.{pair_labels}
use Rattle.rules.specs.Within.{subject_number_of, object_number_of, labels_after, rule_of_pair, placing, with_pair_at, modes_of_rule}
use Rattle.rules.proofs.Pairs as pairs
use Rattle.rules.proofs.Laws.{Room, placed, place-count, sound-rule}
use Rattle.lines.specs.Lines.{Said, skipped, refused, rule, change}
use Rattle.lines.proofs.Laws.{Taken, Sound}
use Rattle.writes.specs.Writes.{changed, judged}
use Rattle.writes.specs.Within.{setting_at}
use Rattle.writes.specs.declared.Setting.TheVariants as setting
use Rattle.store.specs.Judged.{is_accepted}
use Rattle.writes.proofs.Laws.{changed-known, rule-at, change-at}
use Rattle.grown.specs.Sane.{two_labels, Sane}

-- ---- tests that tell labels and rules apart

-- two rules of one pair
abbrev pub same_pair : Rule → Rule → Bool
same_pair r = is_pair r.subject r.object

pub same-pair : Same same_pair
unfolding is_pair
same-pair =
    record {
      itself = λ r. rw (eq-eqb r.subject r.subject refl, eq-eqb r.object r.object refl);
      alike = λ r q e z.
          let b = and_both (eqb q.subject r.subject) (eqb q.object r.object) e in
          rw (eqb-true q.subject r.subject b.0, eqb-true q.object r.object b.1);
    }

-- labels that have the same number are the same
pub one_label : (ls : List (List ℕ)) (x y : List ℕ) (i : ℕ) → first (same_bytes x) ls ≡ Some i → first (same_bytes y) ls ≡ Some i → x ≡ y
one_label ls x y i e q =
    same-equal x (get_or ls i []) (first-is (same_bytes x) [] ls i e).1
    ∙ sym (same-equal y (get_or ls i []) (first-is (same_bytes y) [] ls i q).1)

-- the five stay in front
pub five-front : {ls : List (List ℕ)} → take 5 ls ≡ fresh.labels → Front fresh.labels ls
five-front {ls} e = record { rest = drop 5 ls; is = sym (take-append-drop 5 ls) ∙ ap (λ (f : List (List ℕ)). f ++ drop 5 ls) e }

pub front-five : {ls : List (List ℕ)} → Front fresh.labels ls → take 5 ls ≡ fresh.labels
front-five f = rw f.is (take_at fresh.labels f.rest 5 refl)

-- ---- a pair is set

-- the parts of a sound table
pub sound-parts :
    (t : Table) (n : ℕ) →
    sound_table n t ≡ true →
    (all (sound_rule n) t.rules ≡ true) × (all (sound_mapping n) t.mappings ≡ true) × (all (λ (k : ℕ). ltb k n) t.onlycap ≡ true)
unfolding sound_table
sound-parts t n e =
    let a = and_both _ _ e in
    let b = and_both _ _ a.0 in
    (b.0, b.1, a.1)

pub sound-whole :
    (t : Table) (n : ℕ) →
    all (sound_rule n) t.rules ≡ true →
    all (sound_mapping n) t.mappings ≡ true →
    all (λ (k : ℕ). ltb k n) t.onlycap ≡ true →
    sound_table n t ≡ true
unfolding sound_table
sound-whole t n a b c = rw (a, b, c)

module _ (t : Table) (s o : List ℕ) where
  -- the numbers that the two labels have or get, and the place of their rule
  abbrev pub subject_at : ℕ
  subject_at = subject_number_of t (label_in t s)

  abbrev pub object_at : ℕ
  object_at = object_number_of t (label_in t s) (label_in t o)

-- the labels enter, and the rule is put in its place
abbrev pub paired : Table → List ℕ → List ℕ → ℕ → Table
paired t s o m =
    record {
      labels = pair_labels t s o;
      rules = put (pair_in t (subject_at t s o) (object_at t s o)) t.rules (record { subject = subject_at t s o; object = object_at t s o; modes = m });
      mappings = t.mappings;
      onlycap = t.onlycap;
    }

module _ (t : Table) (s o : List ℕ) (taken : Taken s o) where
  apart : same_bytes o s ≡ false
  apart = same_sym o s ∙ taken.apart

  pub subject_number : first (same_bytes s) (pair_labels t s o) ≡ Some (subject_at t s o)
  subject_number = pairs.subject_number t s o taken.apart

  pub object_number : first (same_bytes o) (pair_labels t s o) ≡ Some (object_at t s o)
  object_number = pairs.object_number t s o taken.apart

  pub pair-length : length (pair_labels t s o) ≡ labels_after t (label_in t s) (label_in t o)
  pair-length = pairs.pair-length t s o taken.apart

  pub pair-front : Front t.labels (pair_labels t s o)
  pair-front = front-more (enter-front t.labels s) (enter-front (enter t.labels s) o)

  -- the two numbers differ
  pub pair-apart : subject_at t s o ≡ object_at t s o → ⊥
  pair-apart e =
      let q = one_label (pair_labels t s o) s o (object_at t s o) (subject_number ∙ ap Some e) object_number in
      no (sym taken.apart ∙ ap (λ (x : List ℕ). same_bytes x o) q ∙ same_refl o)

  -- what a pair with a place makes of the tables
  pub paired_is : (m : ℕ) (spot : Spot) → placing t s o ≡ Ok spot → with_pair_at t s o spot m ≡ paired t s o m
  unfolding placing with_pair_at
  paired_is m spot e =
      let room = placed (length t.labels) (length t.rules) (label_in t s) (label_in t o) (rule_of_pair t (label_in t s) (label_in t o)) spot e in
      ap (λ (z : Spot). with_pair_at t s o z m) room.same
      ∙ ap (λ (f : Option ℕ). record { labels = labels_entered f (enter t.labels s) o; rules = (paired t s o m).rules; mappings = t.mappings; onlycap = t.onlycap }) (sym (enter-other t.labels s o apart))

  pub pair-room : (spot : Spot) → placing t s o ≡ Ok spot → Room (length t.labels) (length t.rules) (label_in t s) (label_in t o) (rule_of_pair t (label_in t s) (label_in t o)) spot
  unfolding placing
  pair-room spot e = placed (length t.labels) (length t.rules) (label_in t s) (label_in t o) (rule_of_pair t (label_in t s) (label_in t o)) spot e

  pub pair-sound : (m : ℕ) → sound_table (length t.labels) t ≡ true → known_modes m ≡ true → sound_table (length (pair_labels t s o)) (paired t s o m) ≡ true
  pair-sound m sound known =
      let n = length (pair_labels t s o) in
      let a = sound-parts t n (sound_more (length t.labels) n (front_length pair-front) t sound) in
      let new : Rule = record { subject = subject_at t s o; object = object_at t s o; modes = m } in
      sound-whole (paired t s o m) n (all-put (sound_rule n) (pair_in t (subject_at t s o) (object_at t s o)) t.rules new a.0 rule-sound-new) a.1 a.2
    where
      rule-sound-new : sound_rule (length (pair_labels t s o)) (record { subject = subject_at t s o; object = object_at t s o; modes = m }) ≡ true
      rule-sound-new =
          sound-rule (length (pair_labels t s o)) (record { subject = subject_at t s o; object = object_at t s o; modes = m })
          (first-is (same_bytes s) [] (pair_labels t s o) (subject_at t s o) subject_number).0
          (first-is (same_bytes o) [] (pair_labels t s o) (object_at t s o) object_number).0
          known

  pub pair-sane : (m : ℕ) (spot : Spot) → Sane t → known_modes m ≡ true → placing t s o ≡ Ok spot → Sane (paired t s o m)
  pair-sane m spot h known e =
      let room = pair-room spot e in
      let new : Rule = record { subject = subject_at t s o; object = object_at t s o; modes = m } in
      record {
        five = front-five (front-more (five-front h.five) pair-front);
        labels_once =
            record {
              formed = enter-all (enter t.labels s) o well_formed (enter-all t.labels s well_formed h.labels_once.formed taken.subject) taken.object;
              label_once = enter-once (enter t.labels s) o (enter-once t.labels s h.labels_once.label_once);
            };
        two_labels_is = all-put two_labels (pair_in t (subject_at t s o) (object_at t s o)) t.rules new h.two_labels_is (rw (ne_eqb (subject_at t s o) (object_at t s o) pair-apart));
        pair_once = distinct_put same_pair (record { subject = 0; object = 0; modes = 0 }) t.rules new same-pair h.pair_once;
        sound = pair-sound m h.sound known;
        mapping_once = h.mapping_once;
        levels = h.levels;
        in_words = h.in_words;
        labels = rw pair-length room.labels;
        mappings = h.mappings;
        onlycap = h.onlycap;
        rules = rw length-put (place-count (pair_in t (subject_at t s o) (object_at t s o)) (length t.rules) 256 h.rules room.rules);
      }

-- ---- what a line of rule text and a change-rule write do: a pair is set

-- an accepted write that sets a pair to modes m
pub record Paired (t t' : Table) (s o : List ℕ) (m : ℕ) : Type 0 where
  pub taken : Taken s o
  pub known : known_modes m ≡ true
  pub spot : Spot
  pub at : placing t s o ≡ Ok spot
  pub is : t' ≡ paired t s o m

pub paired_sane : {t t' : Table} {s o : List ℕ} {m : ℕ} → Sane t → Paired t t' s o m → Sane t'
paired_sane {t} {s = s} {o = o} {m = m} h q = subst Sane (sym q.is) (pair-sane t s o q.taken m q.spot h q.known q.at)

-- a stored rule names stored labels, and its modes are those of a rule's letters
pub rule-known : (n : ℕ) (r : Rule) → sound_rule n r ≡ true → (r.subject < n) × (r.object < n) × (known_modes r.modes ≡ true)
unfolding sound_rule
rule-known n r e =
    let a = and_both (ltb r.subject n && ltb r.object n) (known_modes r.modes) e in
    let b = and_both (ltb r.subject n) (ltb r.object n) a.0 in
    (ltb-true _ _ b.0, ltb-true _ _ b.1, a.1)

pub stored_known : (t : Table) (n : ℕ) → sound_table n t ≡ true → (k : ℕ) → k < length t.rules → ((rule_numbered t k).subject < n) × ((rule_numbered t k).object < n) × (known_modes (rule_numbered t k).modes ≡ true)
stored_known t n sound k h = rule-known n (rule_numbered t k) (all-at (sound_rule n) (record { subject = 0; object = 0; modes = 0 }) t.rules (sound-parts t n sound).0 k h)

pub modes-stored : (t : Table) (n : ℕ) → sound_table n t ≡ true → (i j : ℕ) → known_modes (modes_of_rule (pair_in t i j) t.rules) ≡ true
unfolding known_modes
modes-stored t n sound i j = by_case (pair_in t i j) (first-is (is_pair i j) (record { subject = 0; object = 0; modes = 0 }) t.rules)
  where
    by_case :
        (f : Option ℕ) →
        ((k : ℕ) → f ≡ Some k → (k < length t.rules) × (is_pair i j (get_or t.rules k (record { subject = 0; object = 0; modes = 0 })) ≡ true)) →
        known_modes (modes_of_rule f t.rules) ≡ true
    by_case (Some k) h = (stored_known t n sound k (h k refl).0).2
    by_case None h = refl

-- a rule is set wholly
pub rule_paired : (t t' : Table) (s o : List ℕ) (m : ℕ) → sound_table (length t.labels) t ≡ true → Sound (rule s o m) → judged t (rule s o m) ≡ is_accepted t' → Paired t t' s o m
rule_paired t t' s o m sound f e = by_place (placing t s o) refl (sym (rule-at t sound s o f.0 m) ∙ e)
  where
    by_place : (q : Result Spot Refusal) → placing t s o ≡ q → setting_at t s o (setting.Rule m) q ≡ is_accepted t' → Paired t t' s o m
    by_place (Err n) w e = let z : ◌≡◌ {A = ℕ} 0 1 = cc in absurd (omega arith)
    by_place (Ok spot) w e =
        let z : with_pair_at t s o spot m ≡ t' = cc in
        record { taken = f.0; known = f.1; spot = spot; at = w; is = sym z ∙ paired_is t s o f.0 m spot w }

-- a change starts from the modes that its pair has
abbrev pub modes_from : Table → List ℕ → List ℕ → ℕ
modes_from t s o = modes_of_rule (pair_in t (subject_at t s o) (object_at t s o)) t.rules

pub change_paired :
    (t t' : Table) (s o : List ℕ) (a d : ℕ) →
    sound_table (length t.labels) t ≡ true →
    Sound (change s o a d) →
    judged t (change s o a d) ≡ is_accepted t' →
    Paired t t' s o (changed (modes_from t s o) a d)
change_paired t t' s o a d sound f e = by_place (placing t s o) refl (sym (change-at t sound s o f.0 a d) ∙ e)
  where
    by_place : (q : Result Spot Refusal) → placing t s o ≡ q → setting_at t s o (setting.Change a d) q ≡ is_accepted t' → Paired t t' s o (changed (modes_from t s o) a d)
    by_place (Err n) w e = let z : ◌≡◌ {A = ℕ} 0 1 = cc in absurd (omega arith)
    by_place (Ok spot) w e =
        let z : with_pair_at t s o spot (changed (modes_of_rule spot.rule t.rules) a d) ≡ t' = cc in
        let same = (pair-room t s o f.0 spot w).same in
        record {
          taken = f.0;
          known = changed-known (modes_from t s o) a d (modes-stored t (length t.labels) sound (subject_at t s o) (object_at t s o)) f.1;
          spot = spot;
          at = w;
          is =
              sym z
              ∙ ap (λ (x : Spot). with_pair_at t s o spot (changed (modes_of_rule x.rule t.rules) a d)) same
              ∙ paired_is t s o f.0 (changed (modes_from t s o) a d) spot w;
        }

-- ---- one law for each kind of write

-- a fresh table
pub fresh-sane : Sane fresh
unfolding all first same_bytes well_formed label_byte sound_table
fresh-sane =
    record {
      five = refl;
      labels_once = record { formed = refl; label_once = once };
      two_labels_is = refl;
      pair_once = λ k h. absurd (omega arith);
      sound = refl;
      mapping_once = λ k h. absurd (omega arith);
      levels = refl;
      in_words = λ k h. absurd (omega arith);
      labels = omega arith;
      rules = omega arith;
      mappings = omega arith;
      onlycap = omega arith;
    }
  where
    once : (k : ℕ) → k < 5 → label_in fresh (label_numbered fresh k) ≡ Some k
    once zero h = refl
    once (suc zero) h = refl
    once (suc (suc zero)) h = refl
    once (suc (suc (suc zero))) h = refl
    once (suc (suc (suc (suc zero)))) h = refl
    once (suc (suc (suc (suc (suc k))))) h = absurd (omega arith)

-- a line of rule text, and a change-rule write
pub said-sane : (t t' : Table) (said : Said) → Sane t → Sound said → judged t said ≡ is_accepted t' → Sane t'
said-sane t t' skipped h f e = let z : ◌≡◌ {A = ℕ} 0 1 = cc in absurd (omega arith)
said-sane t t' (refused n) h f e = let z : ◌≡◌ {A = ℕ} 0 1 = cc in absurd (omega arith)
said-sane t t' (rule s o m) h f e = paired_sane h (rule_paired t t' s o m h.sound f e)
said-sane t t' (change s o a d) h f e = paired_sane h (change_paired t t' s o a d h.sound f e)

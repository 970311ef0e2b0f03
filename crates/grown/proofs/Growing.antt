-- Every other kind of write leaves a sane table sane, one law for each; and so every grown table is sane. Assumes nothing.
use mathlib.Core.Path.{◌≡◌, refl, sym, ap, ◌∙◌, subst}
use mathlib.Core.Bool.{Bool, true, false, cond}
use mathlib.Core.List.{List, [], map}
use mathlib.Core.Logic.{◌⊎◌, inl, inr}
use Prim.Native.Nat.{ℕ, zero, suc, ◌<◌, ◌≤◌}
use native.Mathlib.Omega.{arith}
use lib.Dec.{eqb, ltb}
use borrow.Author.Tests.{eqb-true, eqb-false, eq-eqb, lt-ltb, ltb-true, ltb-false}
use lib.ListN.{length, get_or, length-map}
use Rattle.search.specs.Search.{first, all, put, place_of}
use Rattle.search.specs.Within.{count_after}
use Rattle.search.specs.Bytes.{same_bytes}
use Rattle.std.proofs.Common.{Option, Some, None}
use Rattle.search.proofs.Laws.{all-at, all-put, first-is, first-place, put-at, put_other, length-put, Same, Distinct, distinct_put, Front, front_same, front-more, front_length, all_map, all_made, distinct_map}
use Rattle.refusals.specs.Refusals.{too_long, bad_label_at}
use Rattle.alphabet.specs.Alphabet.{well_formed, fields, bad_byte}
use Rattle.numbers.specs.Categories.{is_mapping_level, no_categories, known_set, InWords}
use Rattle.numbers.specs.declared.CategorySet.{CategorySet}
use Rattle.store.specs.declared.Rule.{Rule}
use Rattle.store.specs.declared.Mapping.{Mapping}
use Rattle.store.proofs.Pairs.{enter-front, enter-length, enter-number, enter-once, enter-all}
use Rattle.store.specs.Table.{Table, label_in, enter, names, mapping_in, is_pair, sound_rule, sound_mapping, no_place, number_in}
use Rattle.store.proofs.Laws.{sound_more}
use Rattle.rules.proofs.Laws.{place-count}
use Rattle.revoke.proofs.Laws.{revoked-sound}
use Rattle.lines.specs.Lines.{rule_of, change_of}
use Rattle.lines.proofs.Laws.{rule-sound, change-sound}
use Rattle.revoke.specs.Revoke.{has_subject, revoked_rule, without_modes, revoke_write}
use Rattle.onlycap.specs.Onlycap.{onlycap_write}
use Rattle.onlycap.specs.Within.{joined, different_joined, labels_joined}
use Rattle.onlycap.proofs.Laws.{by_case}
use Rattle.store.specs.Judged.{Judged, is_refused, is_accepted, table_after}
use Rattle.lists.specs.Reader.{Write, change, revoke, onlycap, mapping, judge_write}
use Rattle.cipso.specs.Cipso as cipso
use Rattle.cipso.proofs.Laws.{Maps, maps}
use Rattle.grown.specs.Grown.{Grown, from_fresh, by_line, by_write}
use Rattle.grown.specs.Sane.{at_mapping_level, two_labels, Sane}
use Rattle.grown.proofs.Sane.{same_pair, sound-parts, sound-whole, five-front, front-five, fresh-sane, said-sane}

-- ---- revoke-subject: rules lose their modes, and nothing else changes

module _ (n : ℕ) where
  same_subject : (r : Rule) → (revoked_rule n r).subject ≡ r.subject
  same_subject r = by-test (has_subject n r)
    where
      by-test : (b : Bool) → (cond b (record { subject = r.subject; object = r.object; modes = 0 }) r).subject ≡ r.subject
      by-test true = refl
      by-test false = refl

  same_object : (r : Rule) → (revoked_rule n r).object ≡ r.object
  same_object r = by-test (has_subject n r)
    where
      by-test : (b : Bool) → (cond b (record { subject = r.subject; object = r.object; modes = 0 }) r).object ≡ r.object
      by-test true = refl
      by-test false = refl

  revoked-apart : (r : Rule) → two_labels r ≡ true → two_labels (revoked_rule n r) ≡ true
  revoked-apart r e = rw (same_subject r, same_object r) e

  revoked-pair : (r q : Rule) → same_pair (revoked_rule n r) (revoked_rule n q) ≡ same_pair r q
  unfolding is_pair
  revoked-pair r q = rw (same_subject r, same_object r, same_subject q, same_object q)

  cleared-sane : (t : Table) → Sane t → Sane (without_modes t (Some n))
  cleared-sane t h =
      let a = sound-parts t (length t.labels) h.sound in
      record {
        five = h.five;
        labels_once = record { formed = h.labels_once.formed; label_once = h.labels_once.label_once };
        two_labels_is = all_map two_labels two_labels (revoked_rule n) revoked-apart t.rules h.two_labels_is;
        pair_once = distinct_map same_pair (record { subject = 0; object = 0; modes = 0 }) (revoked_rule n) revoked-pair t.rules h.pair_once;
        sound =
            sound-whole (without_modes t (Some n)) (length t.labels)
            (all_map (sound_rule (length t.labels)) (sound_rule (length t.labels)) (revoked_rule n) (revoked-sound (length t.labels) n) t.rules a.0)
            a.1
            a.2;
        mapping_once = h.mapping_once;
        levels = h.levels;
        in_words = h.in_words;
        labels = h.labels;
        rules = rw length-map h.rules;
        mappings = h.mappings;
        onlycap = h.onlycap;
      }

revoke-sane : (t : Table) (label : List ℕ) → Sane t → Sane (table_after t (revoke_write label t))
unfolding revoke_write
revoke-sane t label h = by_tests (ltb 600 (length label)) (well_formed label) (label_in t label)
  where
    by_tests : (a b : Bool) (f : Option ℕ) → Sane (table_after t (cond a (is_refused too_long) (cond b (is_accepted (without_modes t f)) (is_refused (bad_label_at (bad_byte label))))))
    by_tests true b f = h
    by_tests false true (Some n) = cleared-sane n t h
    by_tests false true None = h
    by_tests false false f = h

-- ---- the onlycap list: labels enter, and the list is replaced

module _ (ls fs : List (List ℕ)) where
  joined-front : (n : ℕ) → Front ls (joined ls fs n)
  unfolding joined
  joined-front zero = front_same ls
  joined-front (suc n) = front-more (joined-front n) (enter-front (joined ls fs n) (get_or fs n []))

  joined_once : Distinct same_bytes [] ls → (n : ℕ) → Distinct same_bytes [] (joined ls fs n)
  unfolding joined
  joined_once once zero = once
  joined_once once (suc n) = enter-once (joined ls fs n) (get_or fs n []) (joined_once once n)

  joined-all : (q : List ℕ → Bool) → all q ls ≡ true → all q fs ≡ true → (n : ℕ) → n ≤ length fs → all q (joined ls fs n) ≡ true
  unfolding joined
  joined-all q e f zero h = e
  joined-all q e f (suc n) h = enter-all (joined ls fs n) (get_or fs n []) q (joined-all q e f n (omega arith)) (all-at q [] fs f n h)

-- the five are there, so a number is that of a label
number-below : (ls : List (List ℕ)) (l : List ℕ) → 5 ≤ length ls → number_in ls l < length ls
number-below ls l h = by_case (first (same_bytes l) ls) (first-is (same_bytes l) [] ls)
  where
    by_case : (f : Option ℕ) → ((i : ℕ) → f ≡ Some i → (i < length ls) × (same_bytes l (get_or ls i []) ≡ true)) → place_of f 0 < length ls
    by_case (Some i) q = (q i refl).0
    by_case None q = omega arith

abbrev none : Mapping
none = record { label = 0; level = 0; set = no_categories }

-- labels that enter, and what then is in the mappings and the onlycap list, with the rules as they were
entered-sane :
    (t : Table) (ls : List (List ℕ)) (ms : List Mapping) (os : List ℕ) →
    Sane t →
    Front t.labels ls →
    all well_formed ls ≡ true →
    Distinct same_bytes [] ls →
    length ls ≤ 64 →
    all (sound_mapping (length ls)) ms ≡ true →
    Distinct (λ (m : Mapping). names m.label) none ms →
    all at_mapping_level ms ≡ true →
    ((k : ℕ) → k < length ms → InWords (get_or ms k none).set) →
    length ms ≤ 32 →
    all (λ (k : ℕ). ltb k (length ls)) os ≡ true →
    length os ≤ 8 →
    Sane (record { labels = ls; rules = t.rules; mappings = ms; onlycap = os })
entered-sane t ls ms os h front formed once few sound-ms once-ms levels-ms words-ms few-ms sound-os few-os =
    record {
      five = front-five (front-more (five-front h.five) front);
      labels_once = record { formed = formed; label_once = once };
      two_labels_is = h.two_labels_is;
      pair_once = h.pair_once;
      sound =
          sound-whole (record { labels = ls; rules = t.rules; mappings = ms; onlycap = os }) (length ls)
          (sound-parts t (length ls) (sound_more (length t.labels) (length ls) (front_length front) t h.sound)).0
          sound-ms
          sound-os;
      mapping_once = once-ms;
      levels = levels-ms;
      in_words = words-ms;
      labels = few;
      rules = h.rules;
      mappings = few-ms;
      onlycap = few-os;
    }

module _ (t : Table) (ls : List (List ℕ)) (h : Sane t) (front : Front t.labels ls) where
  mappings-more : all (sound_mapping (length ls)) t.mappings ≡ true
  mappings-more = (sound-parts t (length ls) (sound_more (length t.labels) (length ls) (front_length front) t h.sound)).1

  onlycap-more : all (λ (k : ℕ). ltb k (length ls)) t.onlycap ≡ true
  onlycap-more = (sound-parts t (length ls) (sound_more (length t.labels) (length ls) (front_length front) t h.sound)).2

  at-least-five : 5 ≤ length ls
  at-least-five = front_length (front-more (five-front h.five) front)

module _ (t : Table) (h : Sane t) where
  emptied-sane : Sane (record { labels = t.labels; rules = t.rules; mappings = t.mappings; onlycap = [] })
  unfolding all
  emptied-sane =
      entered-sane t t.labels t.mappings [] h (front_same t.labels) h.labels_once.formed h.labels_once.label_once h.labels
      (mappings-more t t.labels h (front_same t.labels)) h.mapping_once h.levels h.in_words h.mappings refl (omega arith)

  listed-sane :
      (fs : List (List ℕ)) →
      all well_formed fs ≡ true →
      length (different_joined fs) ≤ 8 →
      length (labels_joined t fs) ≤ 64 →
      Sane (record { labels = labels_joined t fs; rules = t.rules; mappings = t.mappings; onlycap = map (number_in (labels_joined t fs)) (different_joined fs) })
  listed-sane fs formed few room =
      let front = joined-front t.labels fs (length fs) in
      entered-sane t (labels_joined t fs) t.mappings (map (number_in (labels_joined t fs)) (different_joined fs)) h front
      (joined-all t.labels fs well_formed h.labels_once.formed formed (length fs) (omega arith))
      (joined_once t.labels fs h.labels_once.label_once (length fs))
      room
      (mappings-more t (labels_joined t fs) h front)
      h.mapping_once
      h.levels
      h.in_words
      h.mappings
      (all_made (λ (k : ℕ). ltb k (length (labels_joined t fs))) (number_in (labels_joined t fs)) (λ l. lt-ltb _ _ (number-below (labels_joined t fs) l (at-least-five t (labels_joined t fs) h front))) (different_joined fs))
      (rw length-map few)

  onlycap-sane : (text : List ℕ) → Sane (table_after t (onlycap_write text t))
  onlycap-sane text = by_case (λ (j : Judged). Sane (table_after t j)) t text (λ n. h) emptied-sane (λ size formed few room. listed-sane (fields text) formed few room)

-- ---- a CIPSO mapping: a label enters, and its mapping is put in its place

-- two mappings of one label
abbrev same_names_lem : Mapping → Mapping → Bool
same_names_lem m = names m.label

same_names : Same same_names_lem
unfolding names
same_names =
    record {
      itself = λ m. eq-eqb m.label m.label refl;
      alike = λ m q e z. rw (eqb-true q.label m.label e);
    }

module _ (t : Table) (l : List ℕ) (level : ℕ) (s : CategorySet) (h : Sane t) (formed : well_formed l ≡ true) (known : known_set s ≡ true) (words : InWords s) (mapped : is_mapping_level level ≡ true) where
  abbrev numbered : ℕ
  numbered = place_of (label_in t l) (length t.labels)

  abbrev new_mapping : Mapping
  new_mapping = record { label = numbered; level = level; set = s }

  new-sound : sound_mapping (length (enter t.labels l)) new_mapping ≡ true
  unfolding sound_mapping
  new-sound = rw (lt-ltb _ _ (first-is (same_bytes l) [] (enter t.labels l) numbered (enter-number t.labels l)).0, known)

  put-words :
      (f : Option ℕ) →
      place_of f (length t.mappings) < count_after f (length t.mappings) →
      (k : ℕ) →
      k < length (put f t.mappings new_mapping) →
      InWords (get_or (put f t.mappings new_mapping) k none).set
  put-words f place k i = by_place (eqb k (place_of f (length t.mappings))) refl
    where
      short : (g : Option ℕ) → k < count_after g (length t.mappings) → (k ≡ place_of g (length t.mappings) → ⊥) → k < length t.mappings
      short (Some j) a apart = a
      short None a apart = by_order (ltb k (length t.mappings)) refl
        where
          by_order : (b : Bool) → ltb k (length t.mappings) ≡ b → k < length t.mappings
          by_order true e = ltb-true _ _ e
          by_order false e = absurd (apart (omega (arith, a, ltb-false k (length t.mappings) e)))

      by_place : (b : Bool) → eqb k (place_of f (length t.mappings)) ≡ b → InWords (get_or (put f t.mappings new_mapping) k none).set
      by_place true e =
          subst (λ (m : Mapping). InWords m.set)
          (sym (ap (λ (j : ℕ). get_or (put f t.mappings new_mapping) j none) (eqb-true _ _ e) ∙ put-at none f t.mappings new_mapping place))
          words
      by_place false e =
          let apart = eqb-false k (place_of f (length t.mappings)) e in
          let below = short f (rw (← length-put f t.mappings new_mapping) i) apart in
          subst (λ (m : Mapping). InWords m.set) (sym (put_other none f t.mappings new_mapping k below apart)) (h.in_words k below)

  put-sane :
      no_place (label_in t l) (length t.labels) 64 ≡ false →
      no_place (mapping_in t numbered) (length t.mappings) 32 ≡ false →
      Sane (record { labels = enter t.labels l; rules = t.rules; mappings = put (mapping_in t numbered) t.mappings new_mapping; onlycap = t.onlycap })
  put-sane room place =
      let front = enter-front t.labels l in
      entered-sane t (enter t.labels l) (put (mapping_in t numbered) t.mappings new_mapping) t.onlycap h front
      (enter-all t.labels l well_formed h.labels_once.formed formed)
      (enter-once t.labels l h.labels_once.label_once)
      (rw enter-length (place-count (label_in t l) (length t.labels) 64 h.labels room))
      (all-put (sound_mapping (length (enter t.labels l))) (mapping_in t numbered) t.mappings new_mapping (mappings-more t (enter t.labels l) h front) new-sound)
      (distinct_put same_names_lem none t.mappings new_mapping same_names h.mapping_once)
      (all-put at_mapping_level (mapping_in t numbered) t.mappings new_mapping h.levels mapped)
      (put-words (mapping_in t numbered) (first-place (names numbered) none t.mappings))
      (rw length-put (place-count (mapping_in t numbered) (length t.mappings) 32 h.mappings place))
      (onlycap-more t (enter t.labels l) h front)
      h.onlycap

mapping-sane : (t : Table) (text : List ℕ) → Sane t → Sane (table_after t (cipso.mapping_write text t))
mapping-sane t text h = by_case (maps t text)
  where
    by_case : (table_after t (cipso.mapping_write text t) ≡ t) ⊎ Maps t (table_after t (cipso.mapping_write text t)) → Sane (table_after t (cipso.mapping_write text t))
    by_case (inl e) = subst Sane (sym e) h
    by_case (inr w) = subst Sane (sym w.is) (put-sane t w.name w.level w.members h w.formed w.known w.words w.levelled w.labels w.mappings)

-- ---- every single write, and every grown table

write-sane : (t t' : Table) (w : Write) → Sane t → judge_write w t ≡ is_accepted t' → Sane t'
write-sane t t' (change text) h e = said-sane t t' (change_of text) h (change-sound text) e
write-sane t t' (revoke l) h e = subst (λ (j : Judged). Sane (table_after t j)) e (revoke-sane t l h)
write-sane t t' (onlycap text) h e = subst (λ (j : Judged). Sane (table_after t j)) e (onlycap-sane t h text)
write-sane t t' (mapping text) h e = subst (λ (j : Judged). Sane (table_after t j)) e (mapping-sane t text h)

pub grown-sane : {t : Table} → Grown t → Sane t
grown-sane from_fresh = fresh-sane
grown-sane (by_line {t} {t'} line g e) = said-sane t t' (rule_of line) (grown-sane g) (rule-sound line) e
grown-sane (by_write {t} {t'} w g e) = write-sane t t' w (grown-sane g) e

-- Both labels are sought among those that are stored, and the rule by the numbers that they have or get.
use Rattle.std.proofs.Common.{ℕ, ◌≤◌, ◌<◌, ◌≡◌, refl, sym, ◌∙◌, ap, List, get_or, arith, Option}
use borrow.Author.Tests.{lt-ltb, le-ltb}
use Rattle.search.specs.Within.{count_after}
use Rattle.search.specs.Search.{first, place_of, entries}
use Rattle.search.specs.Bytes.{same_bytes}
use Rattle.search.proofs.Laws.{count_le, found-place}
use Rattle.store.specs.Table.{is_pair, no_place}
use Rattle.store.specs.Layout.{label_at, rule_at}
use Rattle.places.specs.declared.Numbered.{Numbered}
use Rattle.rules.proofs.Laws.{placing-store, stored, ruled, subject_found, object_found, rule_found}
use Rattle.rules.proofs.find_place.Goals as goal

abbrev numbers : Option ℕ → ℕ → Numbered
numbers f n = record { number = place_of f n; count = count_after f n }

same_numbers : {f g : Option ℕ} {m n : ℕ} → f ≡ g → m ≡ n → numbers f m ≡ numbers g n
same_numbers p q = rw (p, q)

same-rule : (e : List ℕ) (n : ℕ) {a a' b b' : ℕ} → a ≡ a' → b ≡ b' → first (is_pair a b) (entries (rule_at e) n) ≡ first (is_pair a' b') (entries (rule_at e) n)
same-rule e n p q = rw (p, q)

-- the numbers that the two labels have or get
record Known (l e w s o : List ℕ) (a b : Numbered) : Type 0 where
  pub subject_number : a.number ≡ place_of (subject_found l e w s o) (stored l e w s o)
  pub object_number : b.number ≡ place_of (object_found l e w s o) (count_after (subject_found l e w s o) (stored l e w s o))
  pub object-count : b.count ≡ count_after (object_found l e w s o) (count_after (subject_found l e w s o) (stored l e w s o))
  pub subject-in : place_of (subject_found l e w s o) (stored l e w s o) < count_after (subject_found l e w s o) (stored l e w s o)
  pub object-in :
      place_of (object_found l e w s o) (count_after (subject_found l e w s o) (stored l e w s o))
      < count_after (object_found l e w s o) (count_after (subject_found l e w s o) (stored l e w s o))
  pub grows :
      count_after (subject_found l e w s o) (stored l e w s o)
      ≤ count_after (object_found l e w s o) (count_after (subject_found l e w s o) (stored l e w s o))

known :
    (l e w s o : List ℕ) (x y : Option ℕ) (a b : Numbered) →
    x ≡ subject_found l e w s o →
    y ≡ object_found l e w s o →
    a ≡ numbers x (stored l e w s o) →
    b ≡ numbers y a.count →
    Known l e w s o a b
known l e w s o x y a b hx hy ha hb =
    let n = stored l e w s o in
    let fs = subject_found l e w s o in
    let fo = object_found l e w s o in
    let subject-is : a ≡ numbers fs n = ha ∙ same_numbers hx refl in
    let object-is : b ≡ numbers fo (count_after fs n) = hb ∙ same_numbers hy (ap (λ (z : Numbered). z.count) subject-is) in
    record {
      subject_number = ap (λ (z : Numbered). z.number) subject-is;
      object_number = ap (λ (z : Numbered). z.number) object-is;
      object-count = ap (λ (z : Numbered). z.count) object-is;
      subject-in = found-place (same_bytes s) (label_at l) n n (omega arith);
      object-in = found-place (same_bytes o) (label_at l) n (count_after fs n) (count_le fs n).0;
      grows = (count_le fo (count_after fs n)).0;
    }

-- the pair's rule, by these numbers
rule-is : (l e w s o : List ℕ) (a b : Numbered) (r : Option ℕ) → Known l e w s o a b → r ≡ first (is_pair a.number b.number) (entries (rule_at e) (ruled l e w s o)) → r ≡ rule_found l e w s o
rule-is l e w s o a b r d h = h ∙ same-rule e (ruled l e w s o) d.subject_number d.object_number

pub returns-then-b-gt-LABEL_LIMIT : goal.returns-then-b-gt-LABEL_LIMIT
returns-then-b-gt-LABEL_LIMIT c =
    let a = c.args in
    let d = known a.tables.labels.now a.tables.entries.now a.tables.words.now a.subject.now a.object.now _ _ _ _ c.find_label-s.ensures c.find_label-o.ensures c.number_for-a.ensures c.number_for-b.ensures in
    let n = get_or a.tables.words.now 0 0 in
    let fs = first (same_bytes a.subject.now) (entries (label_at a.tables.labels.now) n) in
    let fo = first (same_bytes a.object.now) (entries (label_at a.tables.labels.now) n) in
    let h : 64 < count_after fo (count_after fs n) = omega (arith, d.object-count) in
    sym (placing-store a.tables.labels.now a.tables.entries.now a.tables.words.now a.subject.now a.object.now ∙ rw (lt-ltb _ _ h))

pub overflow_cast-a : goal.overflow_cast-a
overflow_cast-a c =
    let a = c.args in
    let d = known a.tables.labels.now a.tables.entries.now a.tables.words.now a.subject.now a.object.now _ _ _ _ c.find_label-s.ensures c.find_label-o.ensures c.number_for-a.ensures c.number_for-b.ensures in
    omega (arith, d.subject_number, d.object-count, d.subject-in, d.grows, c.if-b-gt-LABEL_LIMIT.false)

pub overflow_cast-b : goal.overflow_cast-b
overflow_cast-b c =
    let a = c.args in
    let d = known a.tables.labels.now a.tables.entries.now a.tables.words.now a.subject.now a.object.now _ _ _ _ c.find_label-s.ensures c.find_label-o.ensures c.number_for-a.ensures c.number_for-b.ensures in
    omega (arith, d.object_number, d.object-count, d.object-in, c.if-b-gt-LABEL_LIMIT.false)

pub returns-then-full : goal.returns-then-full
returns-then-full c =
    let a = c.args in
    let d = known a.tables.labels.now a.tables.entries.now a.tables.words.now a.subject.now a.object.now _ _ _ _ c.find_label-s.ensures c.find_label-o.ensures c.number_for-a.ensures c.number_for-b.ensures in
    let n = get_or a.tables.words.now 0 0 in
    let fs = first (same_bytes a.subject.now) (entries (label_at a.tables.labels.now) n) in
    let fo = first (same_bytes a.object.now) (entries (label_at a.tables.labels.now) n) in
    let h : count_after fo (count_after fs n) ≤ 64 = omega (arith, d.object-count, c.if-b-gt-LABEL_LIMIT.false) in
    let r = rule-is a.tables.labels.now a.tables.entries.now a.tables.words.now a.subject.now a.object.now _ _ _ d c.find_pair-rule.ensures in
    let f = ap (λ (x : Option ℕ). no_place x (get_or a.tables.words.now 1 0) 256) (sym r) ∙ sym c.full.ensures ∙ c.if-full.true in
    sym (placing-store a.tables.labels.now a.tables.entries.now a.tables.words.now a.subject.now a.object.now ∙ rw (le-ltb _ _ h, f))

pub returns : goal.returns
returns c =
    let a = c.args in
    let d = known a.tables.labels.now a.tables.entries.now a.tables.words.now a.subject.now a.object.now _ _ _ _ c.find_label-s.ensures c.find_label-o.ensures c.number_for-a.ensures c.number_for-b.ensures in
    let n = get_or a.tables.words.now 0 0 in
    let fs = first (same_bytes a.subject.now) (entries (label_at a.tables.labels.now) n) in
    let fo = first (same_bytes a.object.now) (entries (label_at a.tables.labels.now) n) in
    let h : count_after fo (count_after fs n) ≤ 64 = omega (arith, d.object-count, c.if-b-gt-LABEL_LIMIT.false) in
    let r = rule-is a.tables.labels.now a.tables.entries.now a.tables.words.now a.subject.now a.object.now _ _ _ d c.find_pair-rule.ensures in
    let f = ap (λ (x : Option ℕ). no_place x (get_or a.tables.words.now 1 0) 256) (sym r) ∙ sym c.full.ensures ∙ c.if-full.false in
    sym (placing-store a.tables.labels.now a.tables.entries.now a.tables.words.now a.subject.now a.object.now ∙ rw (le-ltb _ _ h, f) (cc (c.find_label-s.ensures, c.find_label-o.ensures, r)))

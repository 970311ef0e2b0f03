-- Each number is the place that was found or the next.
use Rattle.std.proofs.Common.{ℕ, ◌<◌, ◌≡◌, sym, ◌∙◌, ap, List, get_or, arith, Option}
use mathlib.Core.Path.{subst}
use Rattle.search.specs.Within.{count_after}
use Rattle.search.specs.Search.{place_of}
use Rattle.store.specs.Layout.{store}
use Rattle.places.specs.declared.Numbered.{Numbered}
use Rattle.rules.specs.declared.Spot.{Spot}
use Rattle.rules.specs.Within.{Placed}
use Rattle.rules.proofs.Laws.{Facts, facts, rule_set, same_store, same-entered, same-rule, same-words}
use Rattle.rules.proofs.Laid.{pair-laid}
use Rattle.rules.proofs.set_pair.Goals as goal

abbrev numbers : Option ℕ → ℕ → Numbered
numbers f n = record { number = place_of f n; count = count_after f n }

-- the numbers that its parts have or get
record Known (n r : ℕ) (spot : Spot) (a b d : Numbered) : Type 0 where
  pub subject_number : a.number ≡ place_of spot.subject n
  pub subject-count : a.count ≡ count_after spot.subject n
  pub object_number : b.number ≡ place_of spot.object (count_after spot.subject n)
  pub object-count : b.count ≡ count_after spot.object (count_after spot.subject n)
  pub rule_number : d.number ≡ place_of spot.rule r
  pub rule-count : d.count ≡ count_after spot.rule r

known : (n r : ℕ) (spot : Spot) (a b d : Numbered) → a ≡ numbers spot.subject n → b ≡ numbers spot.object a.count → d ≡ numbers spot.rule r → Known n r spot a b d
known n r spot a b d ha hb hd =
    let count : a.count ≡ count_after spot.subject n = ap (λ (z : Numbered). z.count) ha in
    let object-is : b ≡ numbers spot.object (count_after spot.subject n) = hb ∙ ap (λ (m : ℕ). numbers spot.object m) count in
    record {
      subject_number = ap (λ (z : Numbered). z.number) ha;
      subject-count = count;
      object_number = ap (λ (z : Numbered). z.number) object-is;
      object-count = ap (λ (z : Numbered). z.count) object-is;
      rule_number = ap (λ (z : Numbered). z.number) hd;
      rule-count = ap (λ (z : Numbered). z.count) hd;
    }

-- where the pair goes, in the store as it was
fits : (l e w s o : List ℕ) (spot : Spot) → Placed (store l e w) s o spot → Facts (get_or w 0 0) (get_or w 1 0) spot
fits l e w s o spot q = facts (store l e w) s o spot q

pub enter-requires : goal.enter-requires
enter-requires c =
    let a = c.args in
    let f = fits a.state.now.labels.now a.state.now.entries.now a.state.now.words.now a.subject.now a.object.now a.spot c.requires in
    (c.requires.sizes.labels, omega (arith, f.subject, f.grows.1, f.labels), c.requires.subject)

pub enter-requires-2 : goal.enter-requires-2
enter-requires-2 c =
    let a = c.args in
    let f = fits a.state.now.labels.now a.state.now.entries.now a.state.now.words.now a.subject.now a.object.now a.spot c.requires in
    let d = known (get_or a.state.now.words.now 0 0) (get_or a.state.now.words.now 1 0) a.spot _ _ _ c.number_for-a.ensures c.number_for-b.ensures c.number_for-c.ensures in
    let h : place_of a.spot.object c.number_for-a.result.count < 64 = subst (λ (m : ℕ). place_of a.spot.object m < 64) (sym d.subject-count) (omega (arith, f.object, f.labels)) in
    (c.enter.auto.labels ∙ c.requires.sizes.labels, h, c.requires.object)

pub overflow_cast-a : goal.overflow_cast-a
overflow_cast-a c =
    let a = c.args in
    let f = fits a.state.now.labels.now a.state.now.entries.now a.state.now.words.now a.subject.now a.object.now a.spot c.requires in
    let d = known (get_or a.state.now.words.now 0 0) (get_or a.state.now.words.now 1 0) a.spot _ _ _ c.number_for-a.ensures c.number_for-b.ensures c.number_for-c.ensures in
    omega (arith, d.subject_number, f.subject, f.grows.1, f.labels)

pub overflow_cast-b : goal.overflow_cast-b
overflow_cast-b c =
    let a = c.args in
    let f = fits a.state.now.labels.now a.state.now.entries.now a.state.now.words.now a.subject.now a.object.now a.spot c.requires in
    let d = known (get_or a.state.now.words.now 0 0) (get_or a.state.now.words.now 1 0) a.spot _ _ _ c.number_for-a.ensures c.number_for-b.ensures c.number_for-c.ensures in
    omega (arith, d.object_number, f.object, f.labels)

pub write_rule-requires : goal.write_rule-requires
write_rule-requires c =
    let a = c.args in
    let f = fits a.state.now.labels.now a.state.now.entries.now a.state.now.words.now a.subject.now a.object.now a.spot c.requires in
    let d = known (get_or a.state.now.words.now 0 0) (get_or a.state.now.words.now 1 0) a.spot _ _ _ c.number_for-a.ensures c.number_for-b.ensures c.number_for-c.ensures in
    (omega (arith, c.requires.sizes.entries), omega (arith, d.rule_number, f.rule, f.rules))

pub returns-clause-stored : goal.returns-clause-stored
unfolding rule_set
returns-clause-stored c =
    let a = c.args in
    let d = known (get_or a.state.now.words.now 0 0) (get_or a.state.now.words.now 1 0) a.spot _ _ _ c.number_for-a.ensures c.number_for-b.ensures c.number_for-c.ensures in
    same_store
    (c.enter-2.ensures.labels_after ∙ same-entered a.spot.object a.object.now c.enter.ensures.labels_after d.subject-count)
    (c.write_rule.ensures ∙ same-rule a.state.now.entries.now a.modes d.rule_number d.subject_number d.object_number)
    (same-words a.state.now.words.now 1 d.object-count d.rule-count)
    ∙ pair-laid (store a.state.now.labels.now a.state.now.entries.now a.state.now.words.now) a.subject.now a.object.now a.spot a.modes c.requires c.enter.ensures.bytes

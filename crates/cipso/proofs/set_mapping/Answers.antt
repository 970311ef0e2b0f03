-- Each number is the place that was found or the next.
use Rattle.std.proofs.Common.{List, ℕ, ◌≡◌, get_or, ap, ◌∙◌, arith, Option}
use Rattle.search.specs.Within.{count_after}
use Rattle.search.specs.Search.{place_of}
use Rattle.store.specs.Layout.{store}
use Rattle.store.specs.Lent.{lent_mut}
use Rattle.places.specs.declared.Numbered.{Numbered}
use Rattle.rules.proofs.Laws.{same_store}
use Rattle.cipso.specs.declared.Spot.{Spot}
use Rattle.cipso.specs.Within.{Placed}
use Rattle.cipso.proofs.Laws.{Facts, facts, mapping_set, mapping-laid, same_numbers, same-words, same-counts}
use Rattle.cipso.proofs.set_mapping.Goals as goal

abbrev numbers : Option ℕ → ℕ → Numbered
numbers f n = record { number = place_of f n; count = count_after f n }

-- where the mapping goes, in the store as it was
fits : (l e w x : List ℕ) (spot : Spot) → Placed (store l e w) x spot → Facts (get_or w 0 0) (get_or w 2 0) spot
fits l e w x spot q = facts (store l e w) x spot q

pub enter-requires : goal.enter-requires
enter-requires c =
    let a = c.args in
    let f = fits a.state.now.labels.now a.state.now.entries.now a.state.now.words.now a.label.now a.spot c.requires in
    (c.requires.sizes.labels, omega (arith, f.label, f.labels), c.requires.label)

pub overflow_cast-a : goal.overflow_cast-a
overflow_cast-a c =
    let a = c.args in
    let f = fits a.state.now.labels.now a.state.now.entries.now a.state.now.words.now a.label.now a.spot c.requires in
    let n : c.number_for-a.result.number ≡ place_of a.spot.label (get_or a.state.now.words.now 0 0) = ap (λ (z : Numbered). z.number) c.number_for-a.ensures in
    omega (arith, n, f.label, f.labels)

pub write_mapping-requires : goal.write_mapping-requires
write_mapping-requires c =
    let a = c.args in
    let f = fits a.state.now.labels.now a.state.now.entries.now a.state.now.words.now a.label.now a.spot c.requires in
    let m : c.number_for-b.result.number ≡ place_of a.spot.mapping (get_or a.state.now.words.now 2 0) = ap (λ (z : Numbered). z.number) c.number_for-b.ensures in
    (omega (arith, c.requires.sizes.entries), omega (arith, c.requires.sizes.words), omega (arith, m, f.mapping, f.mappings))

pub returns-clause-stored : goal.returns-clause-stored
unfolding mapping_set
returns-clause-stored c =
    let a = c.args in
    let number = λ (z : Numbered). z.number in
    let count = λ (z : Numbered). z.count in
    same_store
    c.enter.ensures.labels_after
    (c.write_mapping.ensures.entries_after ∙ same_numbers a.state.now.entries.now a.level a.set (ap number c.number_for-b.ensures) (ap number c.number_for-a.ensures))
    (same-counts (c.write_mapping.ensures.words_after ∙ same-words a.state.now.words.now a.level a.set (ap number c.number_for-b.ensures) (ap number c.number_for-a.ensures)) (ap count c.number_for-a.ensures) (ap count c.number_for-b.ensures))
    ∙ mapping-laid (lent_mut a.state.now) a.label.now a.spot a.level a.set c.requires c.enter.ensures.bytes

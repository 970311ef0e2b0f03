-- The label is sought among those that are stored, and its mapping by the number that it has or gets.
use Rattle.std.proofs.Common.{List, ℕ, ◌≡◌, get_or, sym, ◌∙◌, ap, Option}
use Rattle.search.specs.Within.{count_after}
use Rattle.search.specs.Search.{first, place_of, entries}
use Rattle.store.specs.Table.{names, no_place}
use Rattle.store.specs.Layout.{mapping_at}
use Rattle.places.specs.declared.Numbered.{Numbered}
use Rattle.cipso.proofs.Laws.{placing-store, label_found, mapping_found, same-mapping}
use Rattle.cipso.proofs.find_place.Goals as goal

-- the mapping of the number that the label has or gets
mapping-is :
    (l e w x : List ℕ) (f m : Option ℕ) (a : Numbered) →
    f ≡ label_found l e w x →
    a ≡ record { number = place_of f (get_or w 0 0); count = count_after f (get_or w 0 0) } →
    m ≡ first (names a.number) (entries (mapping_at e w) (get_or w 2 0)) →
    m ≡ mapping_found l e w x
mapping-is l e w x f m a hf ha hm =
    hm ∙ same-mapping e w (get_or w 2 0) (ap (λ (y : Numbered). y.number) ha ∙ ap (λ (y : Option ℕ). place_of y (get_or w 0 0)) hf)

pub returns-then-full : goal.returns-then-full
returns-then-full c =
    let a = c.args in
    let f = ap (λ (y : Option ℕ). no_place y (get_or a.tables.words.now 0 0) 64) (sym c.find_label-l.ensures) ∙ sym c.full.ensures ∙ c.if-full.true in
    sym (placing-store a.tables.labels.now a.tables.entries.now a.tables.words.now a.label.now ∙ rw f)

pub returns-then-full-2 : goal.returns-then-full-2
returns-then-full-2 c =
    let a = c.args in
    let is = mapping-is a.tables.labels.now a.tables.entries.now a.tables.words.now a.label.now _ _ _ c.find_label-l.ensures c.number_for-a.ensures (c.find_mapping-m.ensures a.tables.words.now) in
    let f = ap (λ (y : Option ℕ). no_place y (get_or a.tables.words.now 0 0) 64) (sym c.find_label-l.ensures) ∙ sym c.full.ensures ∙ c.if-full.false in
    let g = ap (λ (y : Option ℕ). no_place y (get_or a.tables.words.now 2 0) 32) (sym is) ∙ sym c.full-2.ensures ∙ c.if-full-2.true in
    sym (placing-store a.tables.labels.now a.tables.entries.now a.tables.words.now a.label.now ∙ rw (f, g))

pub returns : goal.returns
returns c =
    let a = c.args in
    let is = mapping-is a.tables.labels.now a.tables.entries.now a.tables.words.now a.label.now _ _ _ c.find_label-l.ensures c.number_for-a.ensures (c.find_mapping-m.ensures a.tables.words.now) in
    let f = ap (λ (y : Option ℕ). no_place y (get_or a.tables.words.now 0 0) 64) (sym c.find_label-l.ensures) ∙ sym c.full.ensures ∙ c.if-full.false in
    let g = ap (λ (y : Option ℕ). no_place y (get_or a.tables.words.now 2 0) 32) (sym is) ∙ sym c.full-2.ensures ∙ c.if-full-2.false in
    sym (placing-store a.tables.labels.now a.tables.entries.now a.tables.words.now a.label.now ∙ rw (f, g) (cc (c.find_label-l.ensures, is)))

-- Each answer is that of the definition, by the tests that led to it.
use Rattle.std.proofs.Common.{List, ℕ, get_or, sym, ap, ◌∙◌, arith}
use Rattle.search.specs.Search.{first, entries}
use Rattle.search.specs.Bytes.{same_bytes}
use Rattle.numbers.specs.Categories.{same_set}
use Rattle.numbers.specs.declared.CategorySet.{CategorySet}
use Rattle.store.specs.Layout.{label_at}
use Rattle.lookups.proofs.Laws.{mapping-below, both-none, both-level, both-set, both-label}
use Rattle.lookups.proofs.has_both.Goals as goal

pub returns-in_default : goal.returns-in_default
returns-in_default c =
    let a = c.args in
    sym (both-none a.tables.labels.now a.tables.entries.now a.tables.words.now a.level a.set a.n (sym (c.find_mapping.ensures a.tables.words.now) ∙ c.in_default.is))

pub overflow_add-k : goal.overflow_add-k
overflow_add-k c = omega (arith, mapping-below _ _ _ _ _ (sym (c.find_mapping.ensures c.args.tables.words.now) ∙ c.in-Some.is), c.args.tables.counts.mappings)

pub bounds-tables-k : goal.bounds-tables-k
bounds-tables-k c =
    omega (arith, mapping-below _ _ _ _ _ (sym (c.find_mapping.ensures c.args.tables.words.now) ∙ c.in-Some.is), c.args.tables.counts.mappings, c.args.tables.sizes.entries)

pub returns-then-tables-k : goal.returns-then-tables-k
returns-then-tables-k c =
    let a = c.args in
    sym (both-level a.tables.labels.now a.tables.entries.now a.tables.words.now a.level a.set a.n (sym (c.find_mapping.ensures a.tables.words.now) ∙ c.in-Some.is) c.if-tables-k.true)

pub set_at-held-requires : goal.set_at-held-requires
set_at-held-requires c =
    (omega (arith, c.args.tables.sizes.words), omega (arith, mapping-below _ _ _ _ _ (sym (c.find_mapping.ensures c.args.tables.words.now) ∙ c.in-Some.is), c.args.tables.counts.mappings))

pub returns-then-not-same_set : goal.returns-then-not-same_set
returns-then-not-same_set c =
    let a = c.args in
    sym
    (both-set a.tables.labels.now a.tables.entries.now a.tables.words.now a.level a.set a.n (sym (c.find_mapping.ensures a.tables.words.now) ∙ c.in-Some.is) c.if-tables-k.false
    (ap (λ (x : CategorySet). same_set x a.set) (sym c.set_at-held.ensures) ∙ sym c.same_set.ensures ∙ c.if-not-same_set.true))

pub returns-in_default-find_label : goal.returns-in_default-find_label
returns-in_default-find_label c =
    let a = c.args in
    sym
    (both-label a.tables.labels.now a.tables.entries.now a.tables.words.now a.level a.set a.n (sym (c.find_mapping.ensures a.tables.words.now) ∙ c.in-Some.is) c.if-tables-k.false
    (ap (λ (x : CategorySet). same_set x a.set) (sym c.set_at-held.ensures) ∙ sym c.same_set.ensures ∙ c.if-not-same_set.false) c.requires
    (ap (λ (b : List ℕ). first (same_bytes b) (entries (label_at a.tables.labels.now) (get_or a.tables.words.now 0 0))) (sym c.label_at-own.ensures.bytes) ∙ sym c.find_label.ensures ∙ c.in_default-find_label.is))

pub returns : goal.returns
returns c =
    let a = c.args in
    sym
    (both-label a.tables.labels.now a.tables.entries.now a.tables.words.now a.level a.set a.n (sym (c.find_mapping.ensures a.tables.words.now) ∙ c.in-Some.is) c.if-tables-k.false
    (ap (λ (x : CategorySet). same_set x a.set) (sym c.set_at-held.ensures) ∙ sym c.same_set.ensures ∙ c.if-not-same_set.false) c.requires
    (ap (λ (b : List ℕ). first (same_bytes b) (entries (label_at a.tables.labels.now) (get_or a.tables.words.now 0 0))) (sym c.label_at-own.ensures.bytes) ∙ sym c.find_label.ensures ∙ c.in-Some-find_label.is))

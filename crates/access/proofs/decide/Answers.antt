-- What rules 1 to 4 leave open rules 5 to 7 decide, by the numbers of the two labels.
use Rattle.std.proofs.Common.{sym, ◌∙◌}
use Rattle.store.specs.Table.{label_in}
use Rattle.store.specs.Layout.{table_of}
use Rattle.store.specs.LentWithin.{tested}
use Rattle.places.proofs.Laws.{first-held}
use Rattle.access.specs.Within.{ruling_of}
use Rattle.access.proofs.Laws.{without, denied-same, answered-same, decide-is, same_numbers, numbers-below, ruled-by}
use Rattle.access.proofs.decide.Goals as goal

pub returns-then-not-capable : goal.returns-then-not-capable
returns-then-not-capable c =
    let a = c.args in
    let t = table_of (tested a.tables) in
    sym (decide-is t a.subject.now a.object.now a.wanted a.capable _ (sym c.by_marks.ensures ∙ c.in-Denies.is)
    ∙ without t (label_in t a.subject.now) a.capable _ (rw c.if-not-capable.true))

-- both labels are sought in the same store
pub find_label_hinted-o-requires : goal.find_label_hinted-o-requires
find_label_hinted-o-requires c =
    (c.args.tables.sizes.labels, c.args.tables.counts.labels, first-held c.args.tables.labels.now _ c.args.subject.now _ c.find_label-s-in-Undecided.ensures)

pub by_numbers-ruling-requires-clause-numbers_fit : goal.by_numbers-ruling-requires-clause-numbers_fit
by_numbers-ruling-requires-clause-numbers_fit c =
    let a = c.args in
    (numbers-below a.tables.labels.now a.tables.entries.now a.tables.words.now c.args.tables.sizes c.args.tables.counts a.subject.now a.object.now _ _ c.find_label-s-in-Undecided.ensures c.find_label_hinted-o.ensures).1

pub returns-in-Grants : goal.returns-in-Grants
returns-in-Grants c =
    let a = c.args in
    sym (decide-is (table_of (tested a.tables)) a.subject.now a.object.now a.wanted a.capable _ (sym c.by_marks.ensures ∙ c.in-Grants.is))

pub returns-else-not-capable : goal.returns-else-not-capable
returns-else-not-capable c =
    let a = c.args in
    c.denied.ensures
    ∙ denied-same a.tables.labels.now a.tables.entries.now a.tables.words.now _ _ _ _ c.find_label-s.ensures
    ∙ sym (decide-is (table_of (tested a.tables)) a.subject.now a.object.now a.wanted a.capable _ (sym c.by_marks.ensures ∙ c.in-Denies.is))

pub returns-in-Undecided : goal.returns-in-Undecided
returns-in-Undecided c =
    let a = c.args in
    let t = table_of (tested a.tables) in
    let s = c.find_label-s-in-Undecided.ensures in
    let o = c.find_label_hinted-o.ensures in
    let same = c.same_label-same.ensures ∙ same_numbers t.labels a.subject.now a.object.now _ _ s o in
    c.answered.ensures
    ∙ answered-same a.tables.labels.now a.tables.entries.now a.tables.words.now a.subject.now _ a.capable c.by_numbers-ruling.result (ruling_of t a.subject.now a.object.now a.wanted) s
    (c.by_numbers-ruling.ensures ∙ ruled-by a.tables.labels.now a.tables.entries.now a.tables.words.now a.subject.now a.object.now _ _ _ a.wanted same s o)
    ∙ sym (decide-is t a.subject.now a.object.now a.wanted a.capable _ (sym c.by_marks.ensures ∙ c.in-Undecided.is))

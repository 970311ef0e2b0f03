-- What rules 1 to 4 leave open rules 5 to 7 decide, by the bytes of the two labels and their numbers.
use Rattle.std.proofs.Common.{sym, ◌∙◌}
use Rattle.store.specs.Layout.{table_of}
use Rattle.store.specs.LentWithin.{tested}
use Rattle.access.proofs.Laws.{numbers-below, ruled-by}
use Rattle.new_object.proofs.Laws.{by_a_mark, denied-by_a_mark, by-one-label, by_the_others}
use Rattle.new_object.proofs.by_rules.Goals as goal

pub returns-then-same_bytes : goal.returns-then-same_bytes
returns-then-same_bytes c =
    let a = c.args in
    sym (by-one-label (table_of (tested a.tables)) a.creator.now a.folder.now a.folder_transmutes a.is_folder (sym c.by_marks.ensures ∙ c.in-Undecided.is) (sym c.same_bytes.ensures ∙ c.if-same_bytes.true))

pub by_numbers-ruling-requires-clause-numbers_fit : goal.by_numbers-ruling-requires-clause-numbers_fit
by_numbers-ruling-requires-clause-numbers_fit c =
    let a = c.args in
    (numbers-below a.tables.labels.now a.tables.entries.now a.tables.words.now c.args.tables.sizes c.args.tables.counts a.creator.now a.folder.now _ _ c.find_label-s.ensures c.find_label-o.ensures).1

pub returns-in-Grants : goal.returns-in-Grants
returns-in-Grants c =
    let a = c.args in
    sym (by_a_mark (table_of (tested a.tables)) a.creator.now a.folder.now a.folder_transmutes a.is_folder _ (sym c.by_marks.ensures ∙ c.in-Grants.is))

pub returns-in-Denies : goal.returns-in-Denies
returns-in-Denies c =
    let a = c.args in
    sym (denied-by_a_mark (table_of (tested a.tables)) a.creator.now a.folder.now a.folder_transmutes a.is_folder _ (sym c.by_marks.ensures ∙ c.in-Denies.is))

pub returns-else-same_bytes : goal.returns-else-same_bytes
returns-else-same_bytes c =
    let a = c.args in
    c.by_verdict.ensures
    ∙ by_the_others (table_of (tested a.tables)) a.creator.now a.folder.now a.folder_transmutes a.is_folder (sym c.by_marks.ensures ∙ c.in-Undecided.is) c.by_numbers-ruling.result
    (c.by_numbers-ruling.ensures
    ∙ ruled-by a.tables.labels.now a.tables.entries.now a.tables.words.now a.creator.now a.folder.now _ _ _ _
    (sym c.if-same_bytes.false ∙ c.same_bytes.ensures)
    c.find_label-s.ensures
    c.find_label-o.ensures)

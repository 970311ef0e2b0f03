-- The definition's tests are made in their order.
use Rattle.std.proofs.Common.{Ok, ap, ◌∙◌}
use Rattle.std.proofs.lemmas.Result.{err_from_is_err_and}
use Rattle.store.specs.Layout.{Store, table_of}
use Rattle.store.specs.Pairs.{modes_between}
use Rattle.new_object.specs.NewObject.{object_label_for, object_label, object_label_of}
use Rattle.new_object.proofs.object_label.Goals as goal

pub returns-in_err-tables : goal.returns-in_err-tables
unfolding object_label_of
returns-in_err-tables c =
    let p = err_from_is_err_and c.from_residual.result c.from_residual.ensures.1 in
    let t = c.in_err-tables.ensures.err in
    rw (p.1, p.2, t.0, t.1)

pub returns-in_err-check_label : goal.returns-in_err-check_label
unfolding object_label_of object_label
returns-in_err-check_label c =
    let p = err_from_is_err_and c.from_residual-in_err-check_label.result c.from_residual-in_err-check_label.ensures.1 in
    let l = c.in_err-check_label.ensures.err in
    rw (p.1, p.2, l.0, c.in_ok-tables.ensures.ok.1, l.1)

pub returns-in_err-check_label-2 : goal.returns-in_err-check_label-2
unfolding object_label_of object_label
returns-in_err-check_label-2 c =
    let p = err_from_is_err_and c.from_residual-in_err-check_label-2.result c.from_residual-in_err-check_label-2.ensures.1 in
    let l = c.in_err-check_label-2.ensures.err in
    rw (p.1, p.2, l.0, c.in_ok-tables.ensures.ok.1, c.in_ok-check_label.ensures.ok, l.1)

pub returns : goal.returns
unfolding object_label_of object_label
returns c =
    let a = c.args in
    rw (c.in_ok-tables.ensures.ok.1, c.in_ok-check_label.ensures.ok, c.in_ok-check_label-2.ensures.ok)
    (ap Ok (c.by_rules.ensures ∙ ap (λ (s : Store). object_label_for a.creator.now a.folder.now (modes_between (table_of s) a.creator.now a.folder.now) a.folder_transmutes a.is_folder) c.in_ok-tables.ensures.ok.0))

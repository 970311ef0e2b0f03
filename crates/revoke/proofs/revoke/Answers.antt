-- Each answer by the tests in their order, and the rules of the label's first number.
use Rattle.std.proofs.Common.{sym, ◌∙◌, ap, arith, Some, None, Ok}
use Rattle.std.proofs.lemmas.Result.{err_from_is_err_and}
use Rattle.store.specs.Layout.{Store, store}
use Rattle.store.proofs.Laws.{undamaged-is}
use Rattle.revoke.proofs.Laws.{found-stored}
use Rattle.revoke.proofs.Laid.{revoke-damaged, revoke-long, revoke-unformed, revoke-found}
use Rattle.revoke.proofs.revoke.Goals as goal

pub returns-in_err-check-clause-value : goal.returns-in_err-check-clause-value
returns-in_err-check-clause-value c =
    let a = c.args in
    let s = store a.labels.now a.entries.now a.words.now in
    let p = err_from_is_err_and c.from_residual.result c.from_residual.ensures.1 in
    let e = c.in_err-check.ensures.err in
    rw (p.1, p.2, e.0) (revoke-damaged s a.label.now e.1).0

pub returns-in_err-check-clause-entries_after : goal.returns-in_err-check-clause-entries_after
returns-in_err-check-clause-entries_after c =
    let a = c.args in
    let s = store a.labels.now a.entries.now a.words.now in
    ap (λ (x : Store). x.entries) (revoke-damaged s a.label.now c.in_err-check.ensures.err.1).1

pub returns-then-label-gt-LINE_LIMIT-clause-value : goal.returns-then-label-gt-LINE_LIMIT-clause-value
returns-then-label-gt-LINE_LIMIT-clause-value c =
    let a = c.args in
    let s = store a.labels.now a.entries.now a.words.now in
    (revoke-long s a.label.now c.in_ok-check.ensures.ok c.if-label-gt-LINE_LIMIT.true).0

pub returns-then-label-gt-LINE_LIMIT-clause-entries_after : goal.returns-then-label-gt-LINE_LIMIT-clause-entries_after
returns-then-label-gt-LINE_LIMIT-clause-entries_after c =
    let a = c.args in
    let s = store a.labels.now a.entries.now a.words.now in
    ap (λ (x : Store). x.entries) (revoke-long s a.label.now c.in_ok-check.ensures.ok c.if-label-gt-LINE_LIMIT.true).1

pub returns-in_err-check_label-clause-value : goal.returns-in_err-check_label-clause-value
returns-in_err-check_label-clause-value c =
    let a = c.args in
    let s = store a.labels.now a.entries.now a.words.now in
    let p = err_from_is_err_and c.from_residual-in_err-check_label.result c.from_residual-in_err-check_label.ensures.1 in
    let e = c.in_err-check_label.ensures.err in
    rw (p.1, p.2, e.0) (revoke-unformed s a.label.now c.in_ok-check.ensures.ok c.if-label-gt-LINE_LIMIT.false e.1).0

pub returns-in_err-check_label-clause-entries_after : goal.returns-in_err-check_label-clause-entries_after
returns-in_err-check_label-clause-entries_after c =
    let a = c.args in
    let s = store a.labels.now a.entries.now a.words.now in
    ap (λ (x : Store). x.entries) (revoke-unformed s a.label.now c.in_ok-check.ensures.ok c.if-label-gt-LINE_LIMIT.false c.in_err-check_label.ensures.err.1).1

pub bounds-words-0 : goal.bounds-words-0
bounds-words-0 c =
    let a = c.args in
    let s = store a.labels.now a.entries.now a.words.now in
    let u = undamaged-is s c.in_ok-check.ensures.ok in
    omega (arith, u.sizes.words)

pub bounds-words-1 : goal.bounds-words-1
bounds-words-1 c =
    let a = c.args in
    let s = store a.labels.now a.entries.now a.words.now in
    let u = undamaged-is s c.in_ok-check.ensures.ok in
    omega (arith, u.sizes.words)

pub find_label-requires : goal.find_label-requires
find_label-requires c =
    let a = c.args in
    let s = store a.labels.now a.entries.now a.words.now in
    let u = undamaged-is s c.in_ok-check.ensures.ok in
    (u.sizes.labels, u.counts.labels)

pub returns-in_default-clause-value : goal.returns-in_default-clause-value
returns-in_default-clause-value c =
    let a = c.args in
    let s = store a.labels.now a.entries.now a.words.now in
    (revoke-found s a.label.now c.in_ok-check.ensures.ok c.if-label-gt-LINE_LIMIT.false c.in_ok-check_label.ensures.ok None (sym (sym c.find_label.ensures ∙ c.in_default.is))).0

pub returns-in_default-clause-entries_after : goal.returns-in_default-clause-entries_after
returns-in_default-clause-entries_after c =
    let a = c.args in
    let s = store a.labels.now a.entries.now a.words.now in
    (revoke-found s a.label.now c.in_ok-check.ensures.ok c.if-label-gt-LINE_LIMIT.false c.in_ok-check_label.ensures.ok None (sym (sym c.find_label.ensures ∙ c.in_default.is))).1

pub overflow_cast-i : goal.overflow_cast-i
overflow_cast-i c =
    let a = c.args in
    let s = store a.labels.now a.entries.now a.words.now in
    let u = undamaged-is s c.in_ok-check.ensures.ok in
    let number = found-stored s a.label.now c.in-Some.i (sym c.find_label.ensures ∙ c.in-Some.is) in
    omega (arith, number, u.counts.labels)

pub clear-requires : goal.clear-requires
clear-requires c =
    let a = c.args in
    let s = store a.labels.now a.entries.now a.words.now in
    let u = undamaged-is s c.in_ok-check.ensures.ok in
    (omega (arith, u.sizes.entries), omega (arith, u.counts.rules))

pub returns-clause-value : goal.returns-clause-value
returns-clause-value c =
    let a = c.args in
    let s = store a.labels.now a.entries.now a.words.now in
    ap Ok c.clear.ensures.value ∙ (revoke-found s a.label.now c.in_ok-check.ensures.ok c.if-label-gt-LINE_LIMIT.false c.in_ok-check_label.ensures.ok (Some c.in-Some.i) (sym (sym c.find_label.ensures ∙ c.in-Some.is))).0

pub returns-clause-entries_after : goal.returns-clause-entries_after
returns-clause-entries_after c =
    let a = c.args in
    let s = store a.labels.now a.entries.now a.words.now in
    c.clear.ensures.entries_after ∙ (revoke-found s a.label.now c.in_ok-check.ensures.ok c.if-label-gt-LINE_LIMIT.false c.in_ok-check_label.ensures.ok (Some c.in-Some.i) (sym (sym c.find_label.ensures ∙ c.in-Some.is))).1

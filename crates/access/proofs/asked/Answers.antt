-- The definition's tests are made in their order.
use Rattle.std.proofs.Common.{ap, sym, ◌∙◌}
use Rattle.std.proofs.lemmas.Result.{err_from_is_err_and}
use borrow.Author.Tests.{eq-eqb, ne_eqb}
use Rattle.store.specs.Layout.{Store, table_of}
use Rattle.access.specs.Access.{decide, answer, question_of}
use Rattle.access.proofs.asked.Goals as goal

pub returns-in_err-tables : goal.returns-in_err-tables
unfolding question_of
returns-in_err-tables c =
    let p = err_from_is_err_and c.from_residual.result c.from_residual.ensures.1 in
    let t = c.in_err-tables.ensures.err in
    rw (p.1, p.2, t.0, t.1)

pub returns-in_err-check_label : goal.returns-in_err-check_label
unfolding question_of answer
returns-in_err-check_label c =
    let p = err_from_is_err_and c.from_residual-in_err-check_label.result c.from_residual-in_err-check_label.ensures.1 in
    let l = c.in_err-check_label.ensures.err in
    rw (p.1, p.2, l.0, c.in_ok-tables.ensures.ok.1, l.1)

pub returns-in_err-check_label-2 : goal.returns-in_err-check_label-2
unfolding question_of answer
returns-in_err-check_label-2 c =
    let p = err_from_is_err_and c.from_residual-in_err-check_label-2.result c.from_residual-in_err-check_label-2.ensures.1 in
    let l = c.in_err-check_label-2.ensures.err in
    rw (p.1, p.2, l.0, c.in_ok-tables.ensures.ok.1, c.in_ok-check_label.ensures.ok, l.1)

pub returns-then-request-eq0 : goal.returns-then-request-eq0
unfolding question_of answer
returns-then-request-eq0 c =
    rw (c.in_ok-tables.ensures.ok.1, c.in_ok-check_label.ensures.ok, c.in_ok-check_label-2.ensures.ok, eq-eqb _ _ c.if-request-eq0.true)

pub returns-in_default : goal.returns-in_default
unfolding question_of answer
returns-in_default c =
    rw (
      c.in_ok-tables.ensures.ok.1,
      c.in_ok-check_label.ensures.ok,
      c.in_ok-check_label-2.ensures.ok,
      ne_eqb _ _ c.if-request-eq0.false,
      sym c.read_modes.ensures ∙ c.in_default.is,
    )

pub returns : goal.returns
unfolding question_of answer
returns c =
    let a = c.args in
    rw (
      c.in_ok-tables.ensures.ok.1,
      c.in_ok-check_label.ensures.ok,
      c.in_ok-check_label-2.ensures.ok,
      ne_eqb _ _ c.if-request-eq0.false,
      sym c.read_modes.ensures ∙ c.in-Some.is,
    )
    (c.decide.ensures ∙ ap (λ (s : Store). decide (table_of s) a.subject.now a.object.now c.in-Some.wanted a.capable) c.in_ok-tables.ensures.ok.0)

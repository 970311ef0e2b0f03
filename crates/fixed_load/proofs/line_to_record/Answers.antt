-- By what the line says.
use Rattle.std.proofs.Common.{sym, ◌∙◌}
use Rattle.std.proofs.lemmas.Result.{err_from_is_err_and}
use Rattle.fixed_load.proofs.Laws.{from-line, as_answered}
use Rattle.fixed_load.proofs.line_to_record.Goals as goal

pub returns-in_err-rule : goal.returns-in_err-rule
returns-in_err-rule c =
    let p = err_from_is_err_and c.from_residual.result c.from_residual.ensures.1 in
    let e = as_answered _ _ c.args.out.now (from-line c.args.line.now _ c.without_newline-text.ensures _ (sym c.in_err-rule.ensures.said)) in
    record { value = rw (p.1, p.2) e.0; out_after = e.1 }

pub returns-in_default : goal.returns-in_default
returns-in_default c =
    let s = rw c.in_default.is at c.in_ok-rule.ensures.said in
    let e = as_answered _ _ c.args.out.now (from-line c.args.line.now _ c.without_newline-text.ensures _ (sym s)) in
    record { value = e.0; out_after = e.1 }

pub returns : goal.returns
returns c =
    let s = rw c.in-Some.is at c.in_ok-rule.ensures.said in
    let e = as_answered _ _ c.args.out.now (from-line c.args.line.now _ c.without_newline-text.ensures _ (sym s)) in
    record { value = c.put_record.ensures.value ∙ e.0; out_after = c.put_record.ensures.out_after ∙ e.1 }

-- Each answer is that of the definition, by the tests that led to it.
use Rattle.std.proofs.Common.{Err, ap, sym, ◌∙◌, arith}
use Rattle.std.proofs.lemmas.Result.{err_from_is_err_and}
use Rattle.lines.specs.Within.{rule_kind}
use Rattle.lines.proofs.Laws.{rule_meets}
use Rattle.lines.proofs.Answers.{two_of, labels_give, in_line, rule-two, rule-four, rule-labels, rule-bad, rule-judged}
use Rattle.lines.proofs.rule_line.Goals as goal

pub returns-in_err-labels : goal.returns-in_err-labels
returns-in_err-labels c =
    let p = err_from_is_err_and c.from_residual.result c.from_residual.ensures.1 in
    let w = rule_meets _ _ (labels_give rule_kind _ c.in_err-labels.ensures ∙ sym (p.1 ∙ ap Err p.2)) in
    record { value = w.0; said = w.1.0; rule_inside = w.1.1.0; rule_held = w.1.1.1 }

pub returns-in_default : goal.returns-in_default
returns-in_default c =
    let w = rule_meets _ _ (labels_give rule_kind _ (rw c.in_default.is at c.in_ok-labels.ensures)) in
    record { value = w.0; said = w.1.0; rule_inside = w.1.1.0; rule_held = w.1.1.1 }

pub returns-in_default-next_field_in : goal.returns-in_default-next_field_in
returns-in_default-next_field_in c =
    let labels = sym (rw c.in-Some.is at c.in_ok-labels.ensures) in
    let w = rule_meets _ _ (rule-two _ _ labels (sym c.next_field_in.ensures ∙ c.in_default-next_field_in.is)) in
    record { value = w.0; said = w.1.0; rule_inside = w.1.1.0; rule_held = w.1.1.1 }

pub returns-in_default-next_field_in-2 : goal.returns-in_default-next_field_in-2
returns-in_default-next_field_in-2 c =
    let labels = sym (rw c.in-Some.is at c.in_ok-labels.ensures) in
    let w = rule_meets _ _ (rule-four _ _ labels (sym c.in-Part.ensures) (sym c.next_field_in-2.ensures ∙ c.in_default-next_field_in-2.is)) in
    record { value = w.0; said = w.1.0; rule_inside = w.1.1.0; rule_held = w.1.1.1 }

pub check_formed-requires : goal.check_formed-requires
check_formed-requires c = two_of _ _ (sym (rw c.in-Some.is at c.in_ok-labels.ensures))

pub returns-in_err-check_formed : goal.returns-in_err-check_formed
returns-in_err-check_formed c =
    let labels = sym (rw c.in-Some.is at c.in_ok-labels.ensures) in
    let p = err_from_is_err_and c.from_residual-in_err-check_formed.result c.from_residual-in_err-check_formed.ensures.1 in
    let w = rule_meets _ _ (rule-labels _ _ labels (sym c.in-Part.ensures) (sym c.in-End.ensures) c.in_err-check_formed.ensures.err.1 ∙ ap Err (sym c.in_err-check_formed.ensures.err.0) ∙ sym (p.1 ∙ ap Err p.2)) in
    record { value = w.0; said = w.1.0; rule_inside = w.1.1.0; rule_held = w.1.1.1 }

pub slice_bounds-read_modes-count : goal.slice_bounds-read_modes-count
slice_bounds-read_modes-count c = let i = in_line _ c.in-Some.labels.pair.object.end (sym c.in-Part.ensures) in omega (arith, i.starts)

pub slice_bounds-read_modes-start : goal.slice_bounds-read_modes-start
slice_bounds-read_modes-start c = let i = in_line _ c.in-Some.labels.pair.object.end (sym c.in-Part.ensures) in omega (arith, i.starts)

pub slice_bounds-read_modes-end : goal.slice_bounds-read_modes-end
slice_bounds-read_modes-end c = (in_line _ c.in-Some.labels.pair.object.end (sym c.in-Part.ensures)).ends

pub returns-in_default-read_modes : goal.returns-in_default-read_modes
returns-in_default-read_modes c =
    let labels = sym (rw c.in-Some.is at c.in_ok-labels.ensures) in
    let w = rule_meets _ _ (rule-bad _ _ labels (sym c.in-Part.ensures) (sym c.in-End.ensures) c.in_ok-check_formed.ensures.ok (sym c.read_modes.ensures ∙ c.in_default-read_modes.is)) in
    record { value = w.0; said = w.1.0; rule_inside = w.1.1.0; rule_held = w.1.1.1 }

pub check_apart-requires : goal.check_apart-requires
check_apart-requires c = let w = two_of _ _ (sym (rw c.in-Some.is at c.in_ok-labels.ensures)) in (w.subject, w.object)

pub returns-in_err-check_apart : goal.returns-in_err-check_apart
returns-in_err-check_apart c =
    let labels = sym (rw c.in-Some.is at c.in_ok-labels.ensures) in
    let p = err_from_is_err_and c.from_residual-in_err-check_apart.result c.from_residual-in_err-check_apart.ensures.1 in
    let w = rule_meets _ _ (rule-judged _ _ labels (sym c.in-Part.ensures) (sym c.in-End.ensures) c.in_ok-check_formed.ensures.ok (sym c.in-Some-read_modes.ensures) c.in_err-check_apart.ensures.err.1 ∙ ap Err (sym c.in_err-check_apart.ensures.err.0) ∙ sym (p.1 ∙ ap Err p.2)) in
    record { value = w.0; said = w.1.0; rule_inside = w.1.1.0; rule_held = w.1.1.1 }

pub returns : goal.returns
returns c =
    let labels = sym (rw c.in-Some.is at c.in_ok-labels.ensures) in
    let w = rule_meets _ _ (rule-judged _ _ labels (sym c.in-Part.ensures) (sym c.in-End.ensures) c.in_ok-check_formed.ensures.ok (sym c.in-Some-read_modes.ensures) c.in_ok-check_apart.ensures.ok) in
    record { value = w.0; said = w.1.0; rule_inside = w.1.1.0; rule_held = w.1.1.1 }

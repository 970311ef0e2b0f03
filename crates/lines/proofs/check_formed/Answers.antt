-- The first label that is not well formed has the first bad byte of the line.
use Rattle.std.proofs.Common.{sym, ◌∙◌, ap}
use Rattle.refusals.specs.Refusals.{bad_label_at}
use Rattle.lines.proofs.Answers.{bad_subject, bad_object, both_formed}
use Rattle.lines.proofs.check_formed.Goals as goal

pub returns-then-not-subject_formed-clause-err : goal.returns-then-not-subject_formed-clause-err
returns-then-not-subject_formed-clause-err c =
    let b = bad_subject c.requires c.if-not-subject_formed.true in
    (c.bad_label_at.ensures ∙ ap bad_label_at (sym b.0), b.1)

pub returns-then-not-object_formed-clause-err : goal.returns-then-not-object_formed-clause-err
returns-then-not-object_formed-clause-err c =
    let b = bad_object c.requires c.if-not-subject_formed.false c.if-not-object_formed.true in
    (c.bad_label_at-then-not-object_formed.ensures ∙ ap bad_label_at (sym b.0), b.1)

pub returns-clause-ok : goal.returns-clause-ok
returns-clause-ok c = both_formed c.requires c.if-not-subject_formed.false c.if-not-object_formed.false

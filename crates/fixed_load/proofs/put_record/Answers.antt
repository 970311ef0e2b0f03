-- The labels and the access bytes are written over spaces.
use Rattle.std.proofs.Common.{ap, ◌∙◌, List, ℕ}
use Rattle.output.specs.Output.{put_answer, put_out}
use Rattle.fixed_load.proofs.Laws.{as_answered, long-subject, long-object, it_fits, record_built}
use Rattle.fixed_load.proofs.put_record.Goals as goal

pub returns-then-subject-gt-RECORD_LABEL : goal.returns-then-subject-gt-RECORD_LABEL
returns-then-subject-gt-RECORD_LABEL c =
    let e = as_answered _ _ c.args.out.now (long-subject c.args.subject.now c.args.object.now c.args.modes c.if-subject-gt-RECORD_LABEL.true) in
    record { value = e.0; out_after = e.1 }

pub returns-then-object-gt-RECORD_LABEL : goal.returns-then-object-gt-RECORD_LABEL
returns-then-object-gt-RECORD_LABEL c =
    let e =
    as_answered _ _ c.args.out.now
    (long-object c.args.subject.now c.args.object.now c.args.modes c.if-subject-gt-RECORD_LABEL.false c.if-object-gt-RECORD_LABEL.true) in
    record { value = e.0; out_after = e.1 }

pub returns : goal.returns
returns c =
    let h = c.if-subject-gt-RECORD_LABEL.false in
    let i = c.if-object-gt-RECORD_LABEL.false in
    let e = as_answered _ _ c.args.out.now (it_fits c.args.subject.now c.args.object.now c.args.modes h i) in
    let f =
    record_built c.args.subject.now c.args.object.now c.args.modes c.copy_at.new.dst c.copy_at-2.new.dst c.write_access.new.out h i
    c.copy_at.ensures c.copy_at-2.ensures c.write_access.ensures in
    record {
      value = c.put.ensures.value ∙ ap (λ (t : List ℕ). put_answer t c.args.out.now) f ∙ e.0;
      out_after = c.put.ensures.out_after ∙ ap (λ (t : List ℕ). put_out t c.args.out.now) f ∙ e.1;
    }

-- The three parts stand one behind the other, each with its space or newline.
use Rattle.rule_text.proofs.Laws.{put-short, put-answer, put-out}
use Rattle.rule_text.proofs.put_text.Goals as goal

pub returns-then-out-length : goal.returns-then-out-length
returns-then-out-length c =
    let h = put-short c.args.out.now c.args.subject.now c.args.object.now c.args.modes.now c.if-out-length.true in
    record { value = h.0; out_after = h.1 }

pub returns : goal.returns
returns c = record {
  value = put-answer c.args.out.now c.args.subject.now c.args.object.now c.args.modes.now c.if-out-length.false;
  out_after =
      put-out c.args.out.now c.args.subject.now c.args.object.now c.args.modes.now c.if-out-length.false
      _ _ _ c.copy_at.ensures c.copy_at-2.ensures c.copy_at-3.ensures;
}

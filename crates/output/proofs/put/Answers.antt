-- The length is tested before a byte is written.
use Rattle.std.proofs.Common.{sym, ◌∙◌}
use Rattle.output.proofs.Laws.{fits-answer, fits_out, short-answer, short-out}
use Rattle.output.proofs.put.Goals as goal

pub returns-then-out-text-clause-value : goal.returns-then-out-text-clause-value
returns-then-out-text-clause-value c = sym (short-answer c.args.text.now c.args.out.now c.if-out-text.true)

pub returns-then-out-text-clause-out_after : goal.returns-then-out-text-clause-out_after
returns-then-out-text-clause-out_after c = sym (short-out c.args.text.now c.args.out.now c.if-out-text.true)

pub returns-clause-value : goal.returns-clause-value
returns-clause-value c = sym (fits-answer c.args.text.now c.args.out.now c.if-out-text.false)

pub returns-clause-out_after : goal.returns-clause-out_after
returns-clause-out_after c = c.copy_at.ensures ∙ sym (fits_out c.args.text.now c.args.out.now c.if-out-text.false)

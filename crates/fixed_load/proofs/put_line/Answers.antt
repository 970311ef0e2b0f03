-- By the tests in their order.
use Rattle.std.proofs.Common.{◌-◌, ◌≡◌, true, false, sym, ap, ◌∙◌, List, ℕ, take, arith}
use Rattle.modes.specs.Modes.{modes_text}
use Rattle.modes.proofs.Laws.{text-long}
use Rattle.output.specs.Output.{put_answer, put_out}
use Rattle.output.proofs.Laws.{front-is}
use Rattle.rule_text.specs.RuleText.{text_of}
use Rattle.fixed_load.specs.Records.{as_line}
use Rattle.fixed_load.proofs.Laws.{as_answered, bad_subject, bad-object, bad-access, by-labels}
use Rattle.fixed_load.proofs.put_line.Goals as goal

pub returns-then-not-well_formed : goal.returns-then-not-well_formed
returns-then-not-well_formed c =
    let e =
    as_answered _ _ c.args.out.now
    (ap as_line (bad_subject c.args.subject.now c.args.object.now c.args.access.now (sym c.well_formed-2.ensures ∙ c.if-not-well_formed.true))) in
    record { value = e.0; out_after = e.1 }

pub returns-then-not-well_formed-2 : goal.returns-then-not-well_formed-2
returns-then-not-well_formed-2 c =
    let e =
    as_answered _ _ c.args.out.now
    (ap as_line
    (bad-object c.args.subject.now c.args.object.now c.args.access.now (sym c.well_formed-2.ensures ∙ c.if-not-well_formed.false) (sym c.well_formed-3.ensures ∙ c.if-not-well_formed-2.true))) in
    record { value = e.0; out_after = e.1 }

pub returns-in_default : goal.returns-in_default
returns-in_default c =
    let e =
    as_answered _ _ c.args.out.now
    (ap as_line
    (bad-access c.args.subject.now c.args.object.now c.args.access.now (sym c.well_formed-2.ensures ∙ c.if-not-well_formed.false) (sym c.well_formed-3.ensures ∙ c.if-not-well_formed-2.false)
    (sym c.read_access.ensures ∙ c.in_default.is))) in
    record { value = e.0; out_after = e.1 }

pub returns-then-same_bytes : goal.returns-then-same_bytes
returns-then-same_bytes c =
    let e =
    as_answered _ _ c.args.out.now
    (ap as_line
    (by-labels c.args.subject.now c.args.object.now c.args.access.now (sym c.well_formed-2.ensures ∙ c.if-not-well_formed.false) (sym c.well_formed-3.ensures ∙ c.if-not-well_formed-2.false)
    c.in-Some.m (sym c.in-Some.ensures) true (sym c.same_bytes.ensures ∙ c.if-same_bytes.true))) in
    record { value = e.0; out_after = e.1 }

pub slice_bounds-put_text-end : goal.slice_bounds-put_text-end
slice_bounds-put_text-end c = omega (arith, c.write_modes-n.ensures.value, text-long c.in-Some.m, c.write_modes-n.auto.out)

-- the modes' text stands in its own buffer
pub returns : goal.returns
returns c =
    let e =
    as_answered _ _ c.args.out.now
    (ap as_line
    (by-labels c.args.subject.now c.args.object.now c.args.access.now (sym c.well_formed-2.ensures ∙ c.if-not-well_formed.false) (sym c.well_formed-3.ensures ∙ c.if-not-well_formed-2.false)
    c.in-Some.m (sym c.in-Some.ensures) false (sym c.same_bytes.ensures ∙ c.if-same_bytes.false))) in
    let n = c.write_modes-n in
    let text : take (n.result - 0) n.new.out ≡ modes_text c.in-Some.m =
    ap (take (n.result - 0)) n.ensures.out_after ∙ front-is _ (modes_text c.in-Some.m) n.result n.ensures.value in
    record {
      value = c.put_text.ensures.value ∙ ap (λ (x : List ℕ). put_answer (text_of c.args.subject.now c.args.object.now x) c.args.out.now) text ∙ e.0;
      out_after = c.put_text.ensures.out_after ∙ ap (λ (x : List ℕ). put_out (text_of c.args.subject.now c.args.object.now x) c.args.out.now) text ∙ e.1;
    }

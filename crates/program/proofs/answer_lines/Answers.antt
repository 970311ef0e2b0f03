-- `program::answer_lines`: each run of bytes joins the line or ends it, and each line that ends is answered. Assumes nothing.
use Rattle.std.proofs.Common.{ℕ, ◌+◌, ◌*◌, ◌<◌, ◌≡◌, refl, sym, ap, ◌∙◌, arith, List, [], ◌++◌, append_assoc, append-nil, length, drop}
use Rattle.store.specs.LentWithin.{lent}
use Rattle.reports.specs.declared.Loader.{Loader}
use Rattle.load.specs.Loader.{Load, load}
use Rattle.text_lines.proofs.Laws.{end-behind, end-within, run_between}
use Rattle.replies.proofs.Laws.{put-none, put-said, put_next}
use Rattle.replies.specs.Replies.{line_room}
use Rattle.program.specs.Steps.{asking, emptied, answer_text, take_input, say_input}
use Rattle.program.proofs.Laws.{lines-over, line-over}
use Rattle.program.proofs.answer_lines.Goals as goal

pub loop-next-init : goal.loop-next-init
loop-next-init c = (omega arith, c.requires.0, refl, record { so_far = []; put = put-none 0 c.args.out.now c.args.from; says = refl })

pub slice_bounds-take_run-end : goal.slice_bounds-take_run-end
slice_bounds-take_run-end c = end-within c.args.input.now c.loop-next.i c.line_end-end.result c.loop-next.invariant.0 c.line_end-end.ensures

pub take_run-next-requires : goal.take_run-next-requires
take_run-next-requires c = (c.loop-next.invariant.1, run_between c.args.input.now c.loop-next.i c.line_end-end.result c.loop-next.invariant.0 c.line_end-end.ensures)

pub returns-then-end-input-clause-state : goal.returns-then-end-input-clause-state
returns-then-end-input-clause-state c =
    let a = c.args in
    let tables = lent a.state in
    let over = lines-over (load tables c.loop-next.line c.loop-next.next) a.input.now c.loop-next.i c.line_end-end.result c.loop-next.invariant.0 c.line_end-end.ensures (c.take_run-next.ensures tables) c.if-end-input.true in
    sym (c.loop-next.invariant.2 ∙ over.0)

pub returns-then-end-input-clause-says : goal.returns-then-end-input-clause-says
returns-then-end-input-clause-says c =
    let a = c.args in
    let tables = lent a.state in
    let over = lines-over (load tables c.loop-next.line c.loop-next.next) a.input.now c.loop-next.i c.line_end-end.result c.loop-next.invariant.0 c.line_end-end.ensures (c.take_run-next.ensures tables) c.if-end-input.true in
    let said = c.loop-next.invariant.3 in
    put-said (line_room * length a.input.now) said.put (sym (said.says ∙ ap (λ (l : List ℕ). said.so_far ++ l) over.1 ∙ append-nil said.so_far)) (omega (arith, c.loop-next.invariant.0))

pub loop-next-preserved : goal.loop-next-preserved
loop-next-preserved c =
    let a = c.args in
    let input = a.input.now in
    let tables = lent a.state in
    let end = c.line_end-end.result in
    let v = c.loop-next.invariant in
    let inside = end-within input c.loop-next.i end v.0 c.line_end-end.ensures in
    let behind = end-behind input c.loop-next.i end v.0 c.line_end-end.ensures in
    let less : end < length input = omega (arith, c.if-end-input.false, inside) in
    let over = line-over (load tables c.loop-next.line c.loop-next.next) input c.loop-next.i end v.0 c.line_end-end.ensures (c.take_run-next.ensures tables) c.if-end-input.false in
    let said = v.3 in
    let there = load tables c.take_run-next.new.line c.take_run-next.result in
    let next : load tables c.take_run-next.new.line c.keep-next.result ≡ emptied there = ap (λ (l : Loader). load tables c.take_run-next.new.line l) c.keep-next.ensures in (
      omega (arith, less),
      c.take_run-next.auto.line ∙ v.1,
      v.2 ∙ over.0 ∙ ap (λ (x : Load). take_input (asking x) (drop (end + 1) input)) (sym next),
      record {
        so_far = said.so_far ++ answer_text there;
        put = put_next (line_room * (end + 1)) said.put c.answer_line-at.ensures (omega (arith, c.requires.1, v.0)) (omega (arith, behind));
        says = said.says ∙ ap (λ (l : List ℕ). said.so_far ++ l) (over.1 ∙ ap (λ (x : Load). answer_text there ++ say_input (asking x) (drop (end + 1) input)) (sym next)) ∙ sym (append_assoc said.so_far (answer_text there) _);
      },
    )

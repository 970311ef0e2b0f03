-- At each turn the run to the line's end joins the kept line; a newline behind it ends the line.
use Rattle.std.proofs.Common.{ℕ, ◌+◌, ◌-◌, ◌<◌, ◌≡◌, sym, ◌∙◌, ap, List, length, take, drop, arith, rules, Ok}
use Rattle.store.specs.Lent.{lent_mut}
use Rattle.text_lines.proofs.Laws.{end-within, run_between, run-last}
use Rattle.load.specs.Loader.{Load, load, ready, step_piece, end_kept, piece_answer, piece_after}
use Rattle.load.proofs.Laws.{ready-is, is-ready, ready-same, ready-piece, ready-end, piece-line}
use Rattle.load.proofs.piece.Goals as goal

pub returns-then-not-is_ready-clause-value : goal.returns-then-not-is_ready-clause-value
unfolding piece_answer
returns-then-not-is_ready-clause-value c = rw (ready-same _ _ c.shared.ensures c.is_ready.ensures c.if-not-is_ready.true)

pub returns-then-not-is_ready-clause-loaded : goal.returns-then-not-is_ready-clause-loaded
unfolding piece_after
returns-then-not-is_ready-clause-loaded c = rw (ready-same _ _ c.shared.ensures c.is_ready.ensures c.if-not-is_ready.true)

pub slice_bounds-take_run-end : goal.slice_bounds-take_run-end
slice_bounds-take_run-end c = end-within c.args.text.now c.loop-next.i c.line_end-end.result c.loop-next.invariant.within c.line_end-end.ensures

pub take_run-next-requires : goal.take_run-next-requires
take_run-next-requires c =
    let l = c.loop-next in
    ((ready-is (load (lent_mut l.state) l.line l.next) l.invariant.is_ready).line, run_between c.args.text.now l.i c.line_end-end.result l.invariant.within c.line_end-end.ensures)

-- where the text ends, the run is all that was left of it
module _ (text : List ℕ) (begun here after : Load) (i end : ℕ) where
  whole : after ≡ step_piece here (take (end - i) (drop i text)) → take (end - i) (drop i text) ≡ drop i text → step_piece begun text ≡ step_piece here (drop i text) → after ≡ step_piece begun text
  whole taken last kept = taken ∙ ap (λ (t : List ℕ). step_piece here t) last ∙ sym kept

pub returns-then-end-text-clause-value : goal.returns-then-end-text-clause-value
unfolding piece_answer
returns-then-end-text-clause-value c =
    let l = c.loop-next in
    let text = c.args.text.now in
    let tables = lent_mut l.state in
    let last = run-last text l.i c.line_end-end.result l.invariant.within c.line_end-end.ensures c.if-end-text.true in
    let z = whole text _ _ _ l.i c.line_end-end.result (c.take_run-next.ensures tables) last l.invariant.leads in
    rw (ready-same _ _ c.shared.ensures c.is_ready.ensures c.if-not-is_ready.false) (ap (λ (n : Load). Ok n.loader) z)

pub returns-then-end-text-clause-loaded : goal.returns-then-end-text-clause-loaded
unfolding piece_after
returns-then-end-text-clause-loaded c =
    let l = c.loop-next in
    let text = c.args.text.now in
    let tables = lent_mut l.state in
    let last = run-last text l.i c.line_end-end.result l.invariant.within c.line_end-end.ensures c.if-end-text.true in
    rw (ready-same _ _ c.shared.ensures c.is_ready.ensures c.if-not-is_ready.false) (whole text _ _ _ l.i c.line_end-end.result (c.take_run-next.ensures tables) last l.invariant.leads)

pub end_line-next-requires : goal.end_line-next-requires
end_line-next-requires c =
    let l = c.loop-next in
    let tables = lent_mut l.state in
    let here = load tables l.line l.next in
    let run = take (c.line_end-end.result - l.i) (drop l.i c.args.text.now) in
    ap ready (c.take_run-next.ensures tables) ∙ is-ready (step_piece here run) (ready-piece here run (ready-is here l.invariant.is_ready))

pub loop-next-preserved : goal.loop-next-preserved
loop-next-preserved c =
    let l = c.loop-next in
    let text = c.args.text.now in
    let end = c.line_end-end.result in
    let tables = lent_mut l.state in
    let here = load tables l.line l.next in
    let run = take (end - l.i) (drop l.i text) in
    let ready-run = ready-piece here run (ready-is here l.invariant.is_ready) in
    let less : end < length text = omega (arith, c.if-end-text.false, end-within text l.i end l.invariant.within c.line_end-end.ensures) in
    let turned = c.end_line-next.ensures.loaded ∙ ap end_kept (c.take_run-next.ensures tables) in
    record {
      within = omega (arith, less);
      is_ready = ap ready turned ∙ is-ready (end_kept (step_piece here run)) (ready-end (step_piece here run) ready-run);
      leads =
          l.invariant.leads
          ∙ piece-line text l.i end l.invariant.within c.line_end-end.ensures here less
          ∙ ap (λ (n : Load). step_piece n (drop (end + 1) text)) (sym turned);
      same_slices = search rules;
    }

pub loop-next-init : goal.loop-next-init
loop-next-init c =
    record {
      within = search rules;
      is_ready = ready-same _ _ c.shared.ensures c.is_ready.ensures c.if-not-is_ready.false;
      leads = search rules;
      same_slices = search rules;
    }

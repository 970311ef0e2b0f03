-- A kept line that has a byte is ended first.
use Rattle.std.proofs.Common.{◌<◌, refl, ap, arith}
use borrow.Author.Tests.{lt-ltb, le-ltb}
use Rattle.load.specs.Loader.{Load, end_answer, end_after, step_end}
use Rattle.load.proofs.Laws.{same_load, ready-same}
use Rattle.load.proofs.end.Goals as goal

pub returns-then-not-is_ready-clause-value : goal.returns-then-not-is_ready-clause-value
unfolding end_answer
returns-then-not-is_ready-clause-value c = rw (ready-same _ _ c.shared.ensures c.is_ready.ensures c.if-not-is_ready.true)

pub returns-then-not-is_ready-clause-loaded : goal.returns-then-not-is_ready-clause-loaded
unfolding end_after
returns-then-not-is_ready-clause-loaded c = rw (ready-same _ _ c.shared.ensures c.is_ready.ensures c.if-not-is_ready.true)

pub returns-then-kept-eq0-clause-value : goal.returns-then-kept-eq0-clause-value
unfolding end_answer step_end
returns-then-kept-eq0-clause-value c =
    let z = le-ltb 0 c.args.l.kept (omega (arith, c.if-kept-eq0.true)) in
    rw (ready-same _ _ c.shared.ensures c.is_ready.ensures c.if-not-is_ready.false, z, c.fresh.ensures)

pub returns-then-kept-eq0-clause-loaded : goal.returns-then-kept-eq0-clause-loaded
unfolding end_after step_end
returns-then-kept-eq0-clause-loaded c =
    let z = le-ltb 0 c.args.l.kept (omega (arith, c.if-kept-eq0.true)) in
    rw (ready-same _ _ c.shared.ensures c.is_ready.ensures c.if-not-is_ready.false, z) (same_load refl refl c.fresh.ensures)

pub returns-clause-value : goal.returns-clause-value
unfolding end_answer step_end
returns-clause-value c =
    let h : 0 < c.args.l.kept = omega (arith, c.if-kept-eq0.false) in
    rw (ready-same _ _ c.shared.ensures c.is_ready.ensures c.if-not-is_ready.false, lt-ltb 0 c.args.l.kept h, ap (λ (s : Load). s.loader.report) c.end_line-last.ensures.loaded, c.fresh-2.ensures)

pub returns-clause-loaded : goal.returns-clause-loaded
unfolding end_after step_end
returns-clause-loaded c =
    let h : 0 < c.args.l.kept = omega (arith, c.if-kept-eq0.false) in
    rw (ready-same _ _ c.shared.ensures c.is_ready.ensures c.if-not-is_ready.false, lt-ltb 0 c.args.l.kept h)
    (same_load (ap (λ (s : Load). s.store) c.end_line-last.ensures.loaded) (ap (λ (s : Load). s.line) c.end_line-last.ensures.loaded) c.fresh-2.ensures)

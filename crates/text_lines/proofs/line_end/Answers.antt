-- Sixteen bytes without a newline are passed. Where memchr finds a newline behind them it is the first; where it finds none, there is none.
use Rattle.std.proofs.Common.{ℕ, ◌+◌, refl, sym, ap, ◌∙◌, arith}
use Rattle.text_lines.proofs.Laws.{newline-none, newline_past, newline-found, newline-missing}
use Rattle.text_lines.proofs.line_end.Goals as goal

pub returns-then-n-from : goal.returns-then-n-from
returns-then-n-from c = omega (arith, newline-none c.args.text.now c.args.from (omega arith))

pub loop-init : goal.loop-init
loop-init c = (omega arith, refl)

pub returns-then-n-at-lt16 : goal.returns-then-n-at-lt16
returns-then-n-at-lt16 c = c.byte_by_byte.ensures ∙ c.loop.invariant.1

pub returns-then-sixteen : goal.returns-then-sixteen
returns-then-sixteen c = c.byte_by_byte-then-sixteen.ensures ∙ c.loop.invariant.1

pub loop-preserved : goal.loop-preserved
loop-preserved c = (
  omega arith,
  omega (arith, c.loop.invariant.1, newline_past c.args.text.now c.loop.at 16 (omega arith) (sym c.sixteen.ensures ∙ c.if-sixteen.false)),
)

pub returns-in-Some : goal.returns-in-Some
returns-in-Some c =
    let h = c.in-Some.ensures in
    ap (λ (n : ℕ). c.loop.at + n) (sym (newline-found c.args.text.now c.loop.at c.in-Some.k h.0.high h.1 h.0.before)) ∙ c.loop.invariant.1

pub returns-in-None : goal.returns-in-None
returns-in-None c = omega (arith, c.loop.invariant.0, c.loop.invariant.1, newline-missing c.args.text.now c.loop.at c.in-None.ensures)

-- The last byte of those left is what is trimmed to, or is 0.
use Rattle.std.proofs.Common.{ℕ, suc, ◌≡◌, ◌-◌, ◌<◌, length, take, sym, ap, ◌∙◌, arith}
use lib.ListN.{length-take}
use Rattle.cipso_option.specs.Option.{trimmed}
use Rattle.cipso_option.proofs.Laws.{trimmed_down, trimmed-here}
use Rattle.cipso_option.proofs.trimmed_length.Goals as goal

pub returns-then-bytes-n-ne0 : goal.returns-then-bytes-n-ne0
returns-then-bytes-n-ne0 c =
    let n = c.loop-n.n in
    let b = c.args.bytes.now in
    let e : suc (n - 1) ≡ n = omega arith in
    let h : n - 1 < length b = omega arith in
    let here : trimmed b ≡ take n b = sym c.loop-n.invariant.1 ∙ ap (λ (x : ℕ). trimmed (take x b)) (sym e) ∙ trimmed-here b (n - 1) h c.if-bytes-n-ne0.true ∙ ap (λ (x : ℕ). take x b) e in
    omega (arith, ap length here, length-take n b)

pub loop-n-preserved : goal.loop-n-preserved
loop-n-preserved c =
    let n = c.loop-n.n in
    let b = c.args.bytes.now in
    let e : suc (n - 1) ≡ n = omega arith in
    let h : n - 1 < length b = omega arith in
    (omega arith, sym (trimmed_down b (n - 1) h c.if-bytes-n-ne0.false) ∙ ap (λ (x : ℕ). trimmed (take x b)) e ∙ c.loop-n.invariant.1)

pub returns : goal.returns
unfolding trimmed
returns c =
    let e : c.loop-n.n ≡ 0 = omega arith in
    ap (λ (x : ℕ). length (trimmed (take x c.args.bytes.now))) (sym e) ∙ ap length c.loop-n.invariant.1

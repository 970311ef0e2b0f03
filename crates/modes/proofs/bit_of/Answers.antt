-- One letter more.
use Rattle.std.proofs.Common.{ℕ, ◌+◌, sym, ap, ◌∙◌, drop, bit_or, arith}
use mathlib.Core.List.{foldl}
use Rattle.modes.specs.Modes.{letters}
use Rattle.modes.proofs.Laws.{picked, picked_all, picked_next}
use Rattle.modes.proofs.bit_of.Goals as goal

pub loop-entry-init : goal.loop-entry-init
loop-entry-init c =
    let b = c.args.b in
    ap (λ (x : ℕ). foldl (picked (bit_or b 32)) x letters) c.bit_where-bit.ensures ∙ picked_all b (omega arith)

pub loop-entry-preserved : goal.loop-entry-preserved
loop-entry-preserved c =
    let small = bit_or c.args.b 32 in
    let i = c.loop-entry.entry-index in
    let bit = c.loop-entry.bit in
    ap (λ (x : ℕ). foldl (picked small) (bit_or bit x) (drop (i + 1) letters)) c.bit_where-bit-in-loop-entry.ensures ∙ sym (picked_next small bit i (omega arith)) ∙ c.loop-entry.invariant

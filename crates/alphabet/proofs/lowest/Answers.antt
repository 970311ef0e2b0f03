-- The parts that are looked at leave no byte out.
use Rattle.std.proofs.Common.{◌+◌, ◌-◌, ◌≤◌, ◌≡◌, refl, sym, ◌∙◌, length, arith}
use mathlib.Core.Bool.{and_comm, and-true}
use Rattle.alphabet.specs.Within.{label_bytes}
use Rattle.alphabet.proofs.Formed.{bytes-none, bytes-joined, told_joined, told_more, told_besides}
use Rattle.alphabet.proofs.lowest.Goals as goal

pub loop-b-init : goal.loop-b-init
loop-b-init c = sym (bytes-none _ _ _ (omega arith) (omega arith))

pub loop-b-preserved : goal.loop-b-preserved
loop-b-preserved c = told_more _ _ _ _ _ _ _ c.loop-b.invariant c.label_high.ensures c.smaller-low.ensures (omega arith) refl (omega arith)

pub returns-then-n-le16 : goal.returns-then-n-le16
returns-then-n-le16 c =
    let l = c.args.label.now in
    let second = c.second_four-second.result in
    let third = c.third_four-third.result in
    let fours : (second ≤ 4) × (second + 4 ≤ length l) × (third ≤ second + 4) × (third + 4 ≤ length l) × (length l ≤ third + 8) = omega (arith, c.second_four-second.ensures, c.third_four-third.ensures) in
    let front =
    told_joined l _ _ _ _ _ _ _ _ c.lowest_of.ensures c.lowest_of-then-n-le16.ensures c.smaller.ensures
    (omega arith) (omega arith) (omega arith) refl (omega arith) in
    let back =
    told_joined l _ _ _ _ (length l) _ _ _ c.lowest_of-then-n-le16-2.ensures c.lowest_of-then-n-le16-3.ensures c.smaller-then-n-le16.ensures
    (omega arith) (omega arith) (omega arith) (omega arith) (omega arith) in
    told_joined l _ _ _ _ _ _ _ _ front back c.smaller-then-n-le16-2.ensures (omega arith) (omega arith) (omega arith) refl (omega arith)

pub returns-then-n-lt32 : goal.returns-then-n-lt32
returns-then-n-lt32 c =
    told_joined _ _ _ _ _ _ _ _ _ c.lowest_of-then-n-lt32.ensures c.lowest_of-then-n-lt32-2.ensures c.smaller-then-n-lt32.ensures
    (omega arith) (omega arith) (omega arith) (omega arith) (omega arith)

pub loop-i-init : goal.loop-i-init
loop-i-init c =
    let l = c.args.label.now in
    (omega arith, c.lowest_of-low.ensures ∙ rw (bytes-none l 0 0 (omega arith) (omega arith)) (sym (and-true _)))

pub loop-i-preserved : goal.loop-i-preserved
loop-i-preserved c =
    let label = c.args.label.now in
    let end = label_bytes label (length label - 32) (length label - 32 + 32) in (
      omega arith,
      told_besides label end 0 c.loop-i.i _ _ _ _ c.loop-i.invariant.1 c.lowest_of-in-loop-i.ensures c.smaller-low-in-loop-i.ensures (omega arith) (omega arith) (omega arith),
    )

pub returns : goal.returns
returns c =
    let label = c.args.label.now in
    let n = length label in
    let z : n - 32 + 32 ≡ n = omega arith in
    let told = rw z at c.loop-i.invariant.1 in
    told
    ∙ and_comm (label_bytes label (n - 32) n) (label_bytes label 0 c.loop-i.i)
    ∙ bytes-joined label 0 c.loop-i.i (n - 32) n (omega arith) (omega arith) (omega arith) (omega arith)

-- One byte more.
use Rattle.std.proofs.Common.{◌+◌, ◌<◌, ◌≡◌, length, take, drop, append_assoc, add-one, arith}
use lib.Seq.{paste-zero, paste-suc, take-length}
use Rattle.search.specs.Bytes.{written}
use Rattle.search.proofs.copy_at.Goals as goal

pub loop-i-init : goal.loop-i-init
loop-i-init c = (omega arith, paste-zero c.args.dst.now c.args.at c.args.src.now)

pub loop-i-preserved : goal.loop-i-preserved
loop-i-preserved c =
    let i = c.loop-i.i in
    let h₁ : c.args.at + i < length c.args.dst.now = omega arith in
    let h₂ : i < length c.args.src.now = omega arith in
    (omega arith, rw (c.loop-i.invariant.1, add-one) (paste-suc c.args.dst.now c.args.at c.args.src.now i 0 h₁ h₂))

pub returns : goal.returns
unfolding written
returns c =
    let src = c.args.src.now in
    let e : c.loop-i.i ≡ length src = omega arith in
    rw (c.loop-i.invariant.1, e, take-length) (append_assoc (take c.args.at c.args.dst.now) src (drop (c.args.at + length src) c.args.dst.now))

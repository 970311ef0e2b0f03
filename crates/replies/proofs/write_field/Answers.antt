-- `replies::write_field`: the byte goes behind the digits. Assumes nothing.
use Rattle.std.proofs.Common.{arith, ◌<◌}
use Rattle.replies.proofs.Laws.{put_byte, put-left, ten_digits}
use Rattle.replies.proofs.write_field.Goals as goal

pub write_number-next-requires : goal.write_number-next-requires
write_number-next-requires c =
    let n = c.args.n in
    let z : n < 10000000000 = omega arith in
    omega (arith, ten_digits n z)

pub returns : goal.returns
returns c =
    let p = c.write_number-next.ensures in
    let z = put-left p 1 (omega (arith, c.requires)) in
    put_byte 11 c.args.behind p (omega (arith, z)) (omega (arith, p.short, c.requires)) (omega arith)

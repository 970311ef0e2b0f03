-- `replies::write_number`: a number of one digit is that digit, and a longer one is its tenth and then its last digit. Assumes nothing.
use Rattle.std.proofs.Common.{sym, arith, length, ◌+◌, ◌<◌, ◌≤◌, ◌/◌, ◌%◌}
use Rattle.replies.specs.Replies.{decimal}
use Rattle.replies.proofs.Laws.{put_first, put_byte, put-said, put-short, put-length, decimal-one, decimal-more, decimal-size, decimal-some, ten_digits}
use Rattle.replies.proofs.+write_number.Goals as goal

pub bounds-out-at : goal.bounds-out-at
bounds-out-at t c = omega (arith, decimal-some c.args.n)

pub returns-then-n-lt10 : goal.returns-then-n-lt10
returns-then-n-lt10 t c =
    let a = c.args in
    put-said 10 (put_first a.out.now a.at (48 + a.n) (omega (arith, decimal-some a.n))) (sym (decimal-one a.n c.if-n-lt10.true)) (omega arith)

pub write_number-next-requires : goal.write_number-next-requires
write_number-next-requires t c = (omega arith, omega (arith, decimal-size c.args.n c.if-n-lt10.false))

pub bounds-out-next : goal.bounds-out-next
bounds-out-next t c =
    let a = c.args in
    let p = c.write_number-next.ensures in
    let d = decimal-size a.n c.if-n-lt10.false in
    let room : a.at + length (decimal (a.n / 10)) ≤ length a.out.now = omega (arith, d, c.requires) in
    omega (arith, d, c.requires, p.ends, put-length p room)

pub returns : goal.returns
returns t c =
    let a = c.args in
    let p = c.write_number-next.ensures in
    let d = decimal-size a.n c.if-n-lt10.false in
    let room : a.at + length (decimal (a.n / 10)) ≤ length a.out.now = omega (arith, d, c.requires) in
    let inside : c.write_number-next.result < length c.write_number-next.new.out = omega (arith, d, c.requires, p.ends, put-length p room) in
    put-short 10 (put-said 11 (put_byte 11 (48 + a.n % 10) p inside room (omega arith)) (sym (decimal-more a.n c.if-n-lt10.false)) (omega arith)) (ten_digits a.n (omega arith))

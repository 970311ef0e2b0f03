-- A length is a byte, so the label lies in its own place.
use Rattle.std.proofs.Common.{suc, ◌*◌, ◌+◌, ◌-◌, ◌<◌, ◌≤◌, ◌≡◌, add-one, length, get_or, drop, drop-cons, arith}
use lib.Seq.{take-take}
use Rattle.store.specs.Layout.{label_at}
use Rattle.places.proofs.label_at.Goals as goal

pub returns-clause-bytes : goal.returns-clause-bytes
unfolding label_at
returns-clause-bytes c =
    let t = c.args.labels.now in
    let at = c.args.k * 256 in
    let h : at < length t = omega arith in
    let b : get_or t at 0 ≤ 255 = omega (arith, c.type_inv.labels at) in
    let e : at + 1 + get_or t at 0 - (at + 1) ≡ get_or t at 0 = omega arith in
    rw (e, drop-cons t at 0 h, take-take (get_or t at 0) 255 (drop (suc at) t) b, add-one)

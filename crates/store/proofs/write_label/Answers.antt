-- The length byte and the label behind it are one write.
use Rattle.std.proofs.Common.{◌*◌, ◌<◌, ◌∙◌, length, arith}
use Rattle.store.specs.Within.{with_label}
use Rattle.store.proofs.Laws.{written_cons}
use Rattle.store.proofs.write_label.Goals as goal

pub returns : goal.returns
unfolding with_label
returns c =
    let a = c.args in
    let h : a.k * 256 < length a.labels.now = omega arith in
    c.copy_at.ensures ∙ written_cons a.labels.now (a.k * 256) (length a.label.now) a.label.now h

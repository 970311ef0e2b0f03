-- A place that holds the label has its four last bytes, or its length and its last byte.
use Rattle.std.proofs.Common.{ℕ, ◌≤◌, length, get_or, arith}
use Rattle.places.proofs.Laws.{none-short, none-long}
use Rattle.places.proofs.next_like.Goals as goal

pub returns-then-n-lt4 : goal.returns-then-n-lt4
returns-then-n-lt4 c =
    let a = c.args in
    let bytes : (k : ℕ) → get_or a.labels.now k 0 ≤ 255 = λ k. omega (arith, c.type_inv.labels k) in
    (c.next_short.ensures.0, none-short a.label.now a.labels.now c.requires.0 bytes a.from c.next_short.result c.last_byte.result c.last_byte.ensures c.next_short.ensures.1)

pub returns : goal.returns
returns c =
    let a = c.args in
    let bytes : (k : ℕ) → get_or a.labels.now k 0 ≤ 255 = λ k. omega (arith, c.type_inv.labels k) in
    let long : 4 ≤ length a.label.now = omega (arith, c.if-n-lt4.false) in
    (c.next_with.ensures.0, none-long a.label.now a.labels.now c.requires.0 bytes a.from c.next_with.result c.word_at.result c.word_at.ensures long c.next_with.ensures.1)

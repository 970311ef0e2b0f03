-- The tests find the word that has the category.
use Rattle.std.proofs.Common.{ℕ, ap, ◌∙◌, bit_or, arith}
use Rattle.numbers.proofs.Sets.{with_first, with_second, with_third}
use Rattle.numbers.proofs.with_category.Goals as goal

pub returns-then-n-le64 : goal.returns-then-n-le64
returns-then-n-le64 c =
    let a = c.args in
    ap (λ (x : ℕ). record { first = bit_or a.set.first x; second = a.set.second; third = a.set.third }) c.one_bit.ensures
    ∙ with_first a.set a.n (omega arith)

pub returns-then-n-le128 : goal.returns-then-n-le128
returns-then-n-le128 c =
    let a = c.args in
    ap (λ (x : ℕ). record { first = a.set.first; second = bit_or a.set.second x; third = a.set.third }) c.one_bit-then-n-le128.ensures
    ∙ with_second a.set a.n (omega arith) (omega arith)

pub returns : goal.returns
returns c =
    let a = c.args in
    ap (λ (x : ℕ). record { first = a.set.first; second = a.set.second; third = bit_or a.set.third x }) c.one_bit-2.ensures
    ∙ with_third a.set a.n (omega arith)

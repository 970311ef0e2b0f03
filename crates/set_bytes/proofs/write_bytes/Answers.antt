-- One byte more.
use Rattle.std.proofs.Common.{ℕ, ◌≡◌, ◌+◌, ◌<◌, length, take, drop, append_assoc, add-one, arith}
use lib.Seq.{paste-suc, take-length}
use Rattle.search.specs.Search.{entries}
use Rattle.search.specs.Bytes.{written}
use Rattle.search.proofs.Laws.{entries-length, entries_at}
use Rattle.numbers.specs.Categories.{byte_of}
use Rattle.set_bytes.proofs.write_bytes.Goals as goal

pub loop-i-preserved : goal.loop-i-preserved
loop-i-preserved c =
    let a = c.args in
    let i = c.loop-i.i in
    let bytes : ℕ → ℕ = byte_of (record { first = a.first; second = a.second; third = a.third }) in
    let src = entries bytes a.count in
    let h : i < a.count = omega arith in
    let h₁ : a.at + i < length a.out.now = omega arith in
    let h₂ : i < length src = rw (entries-length bytes a.count) h in
    rw (c.loop-i.invariant, add-one, c.byte_of.ensures, ← entries_at bytes 0 a.count i h) (paste-suc a.out.now a.at src i 0 h₁ h₂)

pub returns : goal.returns
unfolding written
returns c =
    let a = c.args in
    let bytes : ℕ → ℕ = byte_of (record { first = a.first; second = a.second; third = a.third }) in
    let src = entries bytes a.count in
    let e : c.loop-i.i ≡ length src = rw (entries-length bytes a.count) (omega arith) in
    rw (c.loop-i.invariant, e, take-length) (append_assoc (take a.at a.out.now) src (drop (a.at + length src) a.out.now))

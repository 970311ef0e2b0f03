-- Behind byte 23 each byte is 0.
use Rattle.std.proofs.Common.{ℕ, ◌%◌, sym, ap, ◌∙◌, arith}
use Rattle.set_bytes.proofs.Laws.{later-byte, last_byte, only_these}
use Rattle.set_bytes.proofs.only_categories.Goals as goal

pub returns-then-byte_at-ne0 : goal.returns-then-byte_at-ne0
returns-then-byte_at-ne0 c =
    let b = c.args.bitmap.now in
    sym (last_byte b (λ i. (c.type_inv.bitmap i).fits) (λ e. c.if-byte_at-ne0.true (ap (λ (x : ℕ). x % 128) c.byte_at-2.ensures ∙ e)))

pub returns-then-bitmap-i-ne0 : goal.returns-then-bitmap-i-ne0
returns-then-bitmap-i-ne0 c =
    let b = c.args.bitmap.now in
    sym (later-byte b (λ i. (c.type_inv.bitmap i).fits) c.loop-i.i (omega arith) c.if-bitmap-i-ne0.true)

pub returns : goal.returns
returns c =
    let b = c.args.bitmap.now in
    sym (only_these b (λ i. (c.type_inv.bitmap i).fits) (omega (arith, c.byte_at.ensures)) (sym (ap (λ (x : ℕ). x % 128) c.byte_at-2.ensures) ∙ c.if-byte_at-ne0.false) (λ i h m. c.loop-i.invariant i h (omega arith)))

-- The set's own bytes without trailing zero bytes, where they are a label.
use Rattle.std.proofs.Common.{List, ℕ, ◌≡◌, ◌≤◌, ◌-◌, length, take, refl, sym, ap, ◌∙◌, arith}
use Rattle.search.specs.Bytes.{written}
use Rattle.numbers.specs.declared.CategorySet.{CategorySet}
use Rattle.alphabet.specs.Alphabet.{well_formed}
use Rattle.set_bytes.specs.SetBytes.{own_bytes}
use Rattle.set_bytes.proofs.Laws.{own-length}
use Rattle.cipso_option.specs.Option.{trimmed, peer_shown, label}
use Rattle.cipso_option.proofs.Laws.{own-whole, trimmed_fits, front-trimmed}
use Rattle.cipso_option.proofs.own_peer.Goals as goal

-- the bytes b that were written over d, of which n are the label's
module _ (d b : List ℕ) (s : CategorySet) (n : ℕ) (w : b ≡ written d 0 (own_bytes s)) (h : length d ≡ 23) (t : n ≡ length (trimmed b)) where
  bytes : b ≡ own_bytes s
  bytes = w ∙ own-whole d s h

  few : n ≤ 23
  few = trimmed_fits b (own_bytes s) n 23 bytes t (own-length s)

  part : take (n - 0) b ≡ trimmed (own_bytes s)
  part = front-trimmed b (own_bytes s) n bytes t

  long : length b ≡ 23
  long = ap length bytes ∙ own-length s

pub slice_bounds-well_formed-end : goal.slice_bounds-well_formed-end
slice_bounds-well_formed-end c =
    omega (arith, few _ _ _ _ c.write_own.ensures refl c.trimmed_length-n.ensures, long _ _ _ _ c.write_own.ensures refl c.trimmed_length-n.ensures)

pub returns-then-not-well_formed : goal.returns-then-not-well_formed
returns-then-not-well_formed c =
    let p = part _ _ _ _ c.write_own.ensures refl c.trimmed_length-n.ensures in
    c.refused.ensures ∙ rw (ap well_formed (sym p) ∙ sym c.well_formed-2.ensures ∙ c.if-not-well_formed.true)

pub returns : goal.returns
returns c =
    let p = part _ _ _ _ c.write_own.ensures refl c.trimmed_length-n.ensures in
    let formed = ap well_formed (sym p) ∙ sym c.well_formed-2.ensures ∙ c.if-not-well_formed.false in
    c.shown.ensures ∙ ap (λ (l : List ℕ). peer_shown (label l)) p ∙ rw formed

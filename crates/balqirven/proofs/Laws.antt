-- A law of the host's interface: a label stands in its place where the interface says. Assumes nothing.
use mathlib.Core.Path.{◌≡◌, refl, ap}
use Rattle.store.specs.Layout.{label_at}
use mathlib.Core.List.{List, [], ◌∷◌}
use Prim.Native.Nat.{ℕ, zero, suc, ◌*◌, ◌+◌, ◌<◌}
use native.Mathlib.Numerals.{add-one}
use native.Mathlib.Omega.{arith}
use lib.ListN.{length, take, drop, get_or}
use lib.Seq.{drop-cons}

-- a front of a front is the front of its own length
front : (b m : ℕ) (d : List ℕ) → take (length (take b (take m d))) d ≡ take b (take m d)
front zero m d = refl
front (suc b) zero d = refl
front (suc b) (suc m) [] = refl
front (suc b) (suc m) (x ∷ d) = ap (λ (xs : List ℕ). x ∷ xs) (front b m d)

-- a label stands behind its length
pub label-stands : (labels : List ℕ) (k : ℕ) → length labels ≡ 16384 → k < 64 → take (length (label_at labels k)) (drop (k * 256 + 1) labels) ≡ label_at labels k
unfolding label_at
label-stands labels k size h =
    let at = k * 256 in
    let inside : at < length labels = omega arith in
    rw (drop-cons labels at 0 inside, add-one) (front (get_or labels at 0) 255 (drop (suc at) labels))

-- The slices of a state that a call may change, as the contracts of the library name them. Assumes nothing.
use Rattle.std.specs.Prelude.{◌≡◌}
use Rattle.store.specs.declared.LentMut.{LentMut}
use Rattle.store.specs.Layout.{Store, store}

-- what was lent to be changed
abbrev pub lent_mut : LentMut → Store
lent_mut s = store s.labels.now s.entries.now s.words.now

-- a call leaves the very slices that it was lent in their places; what they hold may be another
abbrev pub SameSlices : LentMut → LentMut → Type 0
SameSlices s t =
    (t.labels.ghost_name ≡ s.labels.ghost_name) × (t.entries.ghost_name ≡ s.entries.ghost_name) × (t.words.ghost_name ≡ s.words.ghost_name)

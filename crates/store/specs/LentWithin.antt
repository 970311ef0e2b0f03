-- The slices of a state that are only read, as contracts name them; no claim reaches them. Who calls the library from Rattle reads `lent` in the
-- contracts of the calls that change nothing. Assumes nothing.
use Rattle.store.specs.declared.Lent.{Lent}
use Rattle.store.specs.declared.Tables.{Tables}
use Rattle.store.specs.Layout.{Store, store}

-- what was lent to be read, and what was lent and tested
abbrev pub lent : Lent → Store
lent s = store s.labels.now s.entries.now s.words.now

abbrev pub tested : Tables → Store
tested t = store t.labels.now t.entries.now t.words.now

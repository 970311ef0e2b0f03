-- The definition's tests are made in their order.
use borrow.Author.Tests.{eq-eqb, ne_eqb, le-leb, lt-leb}
use Rattle.store.specs.Layout.{undamaged_of}
use Rattle.store.specs.Table.{sound_table}
use Rattle.damage.proofs.slices_undamaged.Goals as goal

pub returns-then-labels-ne-LABELS_SIZE : goal.returns-then-labels-ne-LABELS_SIZE
unfolding undamaged_of
returns-then-labels-ne-LABELS_SIZE c = rw (ne_eqb _ _ c.if-labels-ne-LABELS_SIZE.true)

pub returns-then-entries-ne-ENTRIES_SIZE : goal.returns-then-entries-ne-ENTRIES_SIZE
unfolding undamaged_of
returns-then-entries-ne-ENTRIES_SIZE c = rw (eq-eqb _ _ c.if-labels-ne-LABELS_SIZE.false, ne_eqb _ _ c.if-entries-ne-ENTRIES_SIZE.true)

pub returns-then-words-ne-WORDS_SIZE : goal.returns-then-words-ne-WORDS_SIZE
unfolding undamaged_of
returns-then-words-ne-WORDS_SIZE c = rw (eq-eqb _ _ c.if-labels-ne-LABELS_SIZE.false, eq-eqb _ _ c.if-entries-ne-ENTRIES_SIZE.false, ne_eqb _ _ c.if-words-ne-WORDS_SIZE.true)

pub returns-then-words : goal.returns-then-words
unfolding undamaged_of
returns-then-words c = rw (eq-eqb _ _ c.if-labels-ne-LABELS_SIZE.false, eq-eqb _ _ c.if-entries-ne-ENTRIES_SIZE.false, eq-eqb _ _ c.if-words-ne-WORDS_SIZE.false, lt-leb _ _ c.if-words.true)

pub returns-then-words-2 : goal.returns-then-words-2
unfolding undamaged_of
returns-then-words-2 c = rw (eq-eqb _ _ c.if-labels-ne-LABELS_SIZE.false, eq-eqb _ _ c.if-entries-ne-ENTRIES_SIZE.false, eq-eqb _ _ c.if-words-ne-WORDS_SIZE.false, le-leb _ _ c.if-words.false, lt-leb _ _ c.if-words-2.true)

pub returns-then-words-3 : goal.returns-then-words-3
unfolding undamaged_of
returns-then-words-3 c = rw (eq-eqb _ _ c.if-labels-ne-LABELS_SIZE.false, eq-eqb _ _ c.if-entries-ne-ENTRIES_SIZE.false, eq-eqb _ _ c.if-words-ne-WORDS_SIZE.false, le-leb _ _ c.if-words.false, le-leb _ _ c.if-words-2.false, lt-leb _ _ c.if-words-3.true)

pub returns-then-words-4 : goal.returns-then-words-4
unfolding undamaged_of
returns-then-words-4 c = rw (eq-eqb _ _ c.if-labels-ne-LABELS_SIZE.false, eq-eqb _ _ c.if-entries-ne-ENTRIES_SIZE.false, eq-eqb _ _ c.if-words-ne-WORDS_SIZE.false, le-leb _ _ c.if-words.false, le-leb _ _ c.if-words-2.false, le-leb _ _ c.if-words-3.false, lt-leb _ _ c.if-words-4.true)

pub returns : goal.returns
unfolding undamaged_of sound_table
returns c = rw (eq-eqb _ _ c.if-labels-ne-LABELS_SIZE.false, eq-eqb _ _ c.if-entries-ne-ENTRIES_SIZE.false, eq-eqb _ _ c.if-words-ne-WORDS_SIZE.false, le-leb _ _ c.if-words.false, le-leb _ _ c.if-words-2.false, le-leb _ _ c.if-words-3.false, le-leb _ _ c.if-words-4.false) c.sound.ensures

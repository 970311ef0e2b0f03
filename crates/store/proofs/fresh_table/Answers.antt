-- Five labels are written, and four counts.
use Rattle.std.proofs.Common.{ℕ, ◌≡◌, ◌∙◌, ap, List}
use borrow.Author.Tests.{eq-eqb, ne_eqb}
use Rattle.store.specs.Table.{hat, star, huh, web}
use Rattle.store.specs.Layout.{store, Sizes}
use Rattle.store.specs.Within.{with_label, fresh_labels, fresh_words}
use Rattle.store.specs.Judged.{fresh_write, fresh_store, fresh_answer}
use Rattle.store.proofs.Laid.{laid-fresh}
use Rattle.store.proofs.fresh_table.Goals as goal

same_store : {l l' : List ℕ} (e w : List ℕ) → l ≡ l' → store l e w ≡ store l' e w
same_store e w p = rw p

pub returns-then-labels-ne-LABELS_SIZE-clause-value : goal.returns-then-labels-ne-LABELS_SIZE-clause-value
unfolding fresh_answer fresh_write
returns-then-labels-ne-LABELS_SIZE-clause-value c = rw (ne_eqb _ _ c.if-labels-ne-LABELS_SIZE.true)

pub returns-then-labels-ne-LABELS_SIZE-clause-stored : goal.returns-then-labels-ne-LABELS_SIZE-clause-stored
unfolding fresh_store fresh_write
returns-then-labels-ne-LABELS_SIZE-clause-stored c = rw (ne_eqb _ _ c.if-labels-ne-LABELS_SIZE.true)

pub returns-then-entries-ne-ENTRIES_SIZE-clause-value : goal.returns-then-entries-ne-ENTRIES_SIZE-clause-value
unfolding fresh_answer fresh_write
returns-then-entries-ne-ENTRIES_SIZE-clause-value c = rw (eq-eqb _ _ c.if-labels-ne-LABELS_SIZE.false, ne_eqb _ _ c.if-entries-ne-ENTRIES_SIZE.true)

pub returns-then-entries-ne-ENTRIES_SIZE-clause-stored : goal.returns-then-entries-ne-ENTRIES_SIZE-clause-stored
unfolding fresh_store fresh_write
returns-then-entries-ne-ENTRIES_SIZE-clause-stored c = rw (eq-eqb _ _ c.if-labels-ne-LABELS_SIZE.false, ne_eqb _ _ c.if-entries-ne-ENTRIES_SIZE.true)

pub returns-then-words-ne-WORDS_SIZE-clause-value : goal.returns-then-words-ne-WORDS_SIZE-clause-value
unfolding fresh_answer fresh_write
returns-then-words-ne-WORDS_SIZE-clause-value c = rw (eq-eqb _ _ c.if-labels-ne-LABELS_SIZE.false, eq-eqb _ _ c.if-entries-ne-ENTRIES_SIZE.false, ne_eqb _ _ c.if-words-ne-WORDS_SIZE.true)

pub returns-then-words-ne-WORDS_SIZE-clause-stored : goal.returns-then-words-ne-WORDS_SIZE-clause-stored
unfolding fresh_store fresh_write
returns-then-words-ne-WORDS_SIZE-clause-stored c = rw (eq-eqb _ _ c.if-labels-ne-LABELS_SIZE.false, eq-eqb _ _ c.if-entries-ne-ENTRIES_SIZE.false, ne_eqb _ _ c.if-words-ne-WORDS_SIZE.true)

pub returns-clause-value : goal.returns-clause-value
unfolding fresh_answer fresh_write
returns-clause-value c = rw (eq-eqb _ _ c.if-labels-ne-LABELS_SIZE.false, eq-eqb _ _ c.if-entries-ne-ENTRIES_SIZE.false, eq-eqb _ _ c.if-words-ne-WORDS_SIZE.false)

pub returns-clause-stored : goal.returns-clause-stored
unfolding fresh_store fresh_write fresh_labels fresh_words
returns-clause-stored c =
    let l = c.write_label-5.ensures
    ∙ ap (λ (t : List ℕ). with_label t 4 web) (c.write_label-4.ensures
    ∙ ap (λ (t : List ℕ). with_label t 3 huh) (c.write_label-3.ensures
    ∙ ap (λ (t : List ℕ). with_label t 2 star) (c.write_label-2.ensures
    ∙ ap (λ (t : List ℕ). with_label t 1 hat) c.write_label.ensures))) in
    let st = store c.args.labels.now c.args.entries.now c.args.words.now in
    let s : Sizes st.labels st.entries st.words =
    record { labels = c.if-labels-ne-LABELS_SIZE.false; entries = c.if-entries-ne-ENTRIES_SIZE.false; words = c.if-words-ne-WORDS_SIZE.false } in
    rw (eq-eqb _ _ c.if-labels-ne-LABELS_SIZE.false, eq-eqb _ _ c.if-entries-ne-ENTRIES_SIZE.false, eq-eqb _ _ c.if-words-ne-WORDS_SIZE.false) (same_store _ _ l ∙ laid-fresh st s)

-- Where the check says done the number names a stored label.
use Rattle.std.proofs.Common.{sym, ◌∙◌, arith}
use Rattle.store.specs.Layout.{store}
use Rattle.listing.proofs.Laws.{label-done, label_is, label-refused}
use Rattle.listing.proofs.label_by_number.Goals as goal

pub label_at-requires : goal.label_at-requires
label_at-requires c =
    let a = c.args in
    let h = label-done (store a.labels.now a.entries.now a.words.now) a.k (sym c.label_check-answer.ensures ∙ c.in-Ok.is) in
    (h.0.sizes.labels, omega (arith, h.0.counts.labels, h.1))

pub returns-in-Err-clause-bytes : goal.returns-in-Err-clause-bytes
returns-in-Err-clause-bytes c =
    let a = c.args in
    label-refused (store a.labels.now a.entries.now a.words.now) a.k _ (sym c.label_check-answer.ensures ∙ c.in-Err.is)

pub returns-in-Ok-clause-bytes : goal.returns-in-Ok-clause-bytes
returns-in-Ok-clause-bytes c =
    let a = c.args in
    let s = store a.labels.now a.entries.now a.words.now in
    let h = label-done s a.k (sym c.label_check-answer.ensures ∙ c.in-Ok.is) in
    c.label_at.ensures.bytes ∙ label_is s a.k h.0 h.1

-- The definition's tests are made in their order.
use Rattle.std.proofs.Common.{get_or, sym, ◌∙◌}
use Rattle.search.proofs.Laws.{entries-length}
use Rattle.store.specs.Layout.{onlycap_at}
use Rattle.access.proofs.Laws.{effective_not, effective_open, effective-listed}
use Rattle.access.proofs.effective.Goals as goal

pub returns-then-not-capable : goal.returns-then-not-capable
returns-then-not-capable c = rw c.if-not-capable.true (sym (effective_not _ _))

pub returns-then-words-eq0 : goal.returns-then-words-eq0
returns-then-words-eq0 c =
    let a = c.args in
    rw c.if-not-capable.false (sym (effective_open _ _ (entries-length (onlycap_at a.entries.now) (get_or a.words.now 3 0) ∙ c.if-words-eq0.true)))

pub returns : goal.returns
returns c =
    let a = c.args in
    let n = entries-length (onlycap_at a.entries.now) (get_or a.words.now 3 0) in
    rw c.if-not-capable.false (c.on_list.ensures ∙ sym (effective-listed _ _ (λ e. c.if-words-eq0.false (sym n ∙ e))))

-- No label number passed has both.
use Rattle.std.proofs.Common.{sym, ap, ◌∙◌, arith}
use Rattle.std.proofs.lemmas.Result.{err_from_is_err_and}
use Rattle.store.specs.Layout.{Store, undamaged_of}
use Rattle.lookups.specs.Lookups.{by_level_of}
use Rattle.lookups.proofs.Laws.{level-damaged, level-refused, level-found, level-none}
use Rattle.lookups.proofs.by_level.Goals as goal

pub returns-in_err-tables : goal.returns-in_err-tables
returns-in_err-tables c =
    let a = c.args in
    let p = err_from_is_err_and c.from_residual.result c.from_residual.ensures.1 in
    rw (p.1, p.2, c.in_err-tables.ensures.err.0)
    (sym (level-damaged a.state.labels.now a.state.entries.now a.state.words.now a.level a.set c.in_err-tables.ensures.err.1))

pub returns-then-not-can_be_sought : goal.returns-then-not-can_be_sought
returns-then-not-can_be_sought c =
    let a = c.args in
    sym (level-refused a.state.labels.now a.state.entries.now a.state.words.now a.level a.set c.in_ok-tables.ensures.ok.1 (sym c.can_be_sought.ensures ∙ c.if-not-can_be_sought.true))

-- the tables of the lent state are what was tested
pub returns-then-has_both : goal.returns-then-has_both
returns-then-has_both c =
    let a = c.args in
    let t = c.in_ok-tables.tables in
    let same = c.in_ok-tables.ensures.ok.0 in
    sym
    (level-found t.labels.now t.entries.now t.words.now a.level a.set (ap undamaged_of same ∙ c.in_ok-tables.ensures.ok.1) (sym c.can_be_sought.ensures ∙ c.if-not-can_be_sought.false) c.loop-n.n c.loop-n-test.true c.loop-n.invariant (sym c.has_both.ensures ∙ c.if-has_both.true))
    ∙ ap (λ (s : Store). by_level_of s a.level a.set) same

pub returns : goal.returns
returns c =
    let a = c.args in
    let t = c.in_ok-tables.tables in
    let same = c.in_ok-tables.ensures.ok.0 in
    sym
    (level-none t.labels.now t.entries.now t.words.now a.level a.set (ap undamaged_of same ∙ c.in_ok-tables.ensures.ok.1) (sym c.can_be_sought.ensures ∙ c.if-not-can_be_sought.false) (λ j h. c.loop-n.invariant j (omega arith)))
    ∙ ap (λ (s : Store). by_level_of s a.level a.set) same

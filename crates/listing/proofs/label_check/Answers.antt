-- Each answer by the tests that led there.
use Rattle.std.proofs.Common.{get_or, arith}
use Rattle.std.proofs.lemmas.Result.{err_from_is_err_and}
use borrow.Author.Tests.{lt-ltb, le-ltb}
use Rattle.search.proofs.Laws.{entries-length}
use Rattle.store.specs.LentWithin.{lent}
use Rattle.store.specs.Layout.{label_at}
use Rattle.store.proofs.Laws.{undamaged-is}
use Rattle.listing.specs.Listing.{label_answer}
use Rattle.listing.proofs.label_check.Goals as goal

pub returns-in_err-check : goal.returns-in_err-check
unfolding label_answer
returns-in_err-check c =
    let p = err_from_is_err_and c.from_residual.result c.from_residual.ensures.1 in
    rw (p.1, p.2, c.in_err-check.ensures.err.0, c.in_err-check.ensures.err.1)

pub bounds-state-0 : goal.bounds-state-0
bounds-state-0 c =
    let u = undamaged-is (lent c.args.state) c.in_ok-check.ensures.ok in
    omega (arith, u.sizes.words)

pub returns-then-stored-k : goal.returns-then-stored-k
unfolding label_answer
returns-then-stored-k c =
    let a = c.args in
    rw (
      c.in_ok-check.ensures.ok,
      entries-length (label_at a.state.labels.now) (get_or a.state.words.now 0 0),
      le-ltb a.k (get_or a.state.words.now 0 0) c.if-stored-k.true,
    )

pub returns : goal.returns
unfolding label_answer
returns c =
    let a = c.args in
    rw (
      c.in_ok-check.ensures.ok,
      entries-length (label_at a.state.labels.now) (get_or a.state.words.now 0 0),
      lt-ltb a.k (get_or a.state.words.now 0 0) c.if-stored-k.false,
    )

-- A rule's numbers name stored labels, and its text goes to the front of the buffer.
use Rattle.std.proofs.Common.{ℕ, ◌+◌, ◌-◌, ◌<◌, ◌≡◌, true, List, length, get_or, take, drop, ◌∙◌, ap, arith}
use Rattle.std.proofs.lemmas.Result.{err_from_is_err_and}
use borrow.Author.Tests.{le-ltb}
use Rattle.search.proofs.Laws.{entries-length}
use Rattle.modes.specs.Modes.{modes_text}
use Rattle.modes.proofs.Laws.{text-long}
use Rattle.store.specs.LentWithin.{lent}
use Rattle.store.specs.Layout.{Store, rule_at, undamaged_of}
use Rattle.store.proofs.Laws.{undamaged-is}
use Rattle.output.proofs.Laws.{front-is}
use Rattle.listing.specs.Listing.{rule_given, list_answer, list_out}
use Rattle.listing.proofs.Laws.{label-short, rule-sound, list-answer, list-out}
use Rattle.listing.proofs.list_rule.Goals as goal

-- what is known of rule k of an undamaged store
record Known (s : Store) (k : ℕ) : Type 0 where
  subject : get_or s.entries k 0 < 64
  object : get_or s.entries (256 + k) 0 < 64
  small : k < 256
  labels : length s.labels ≡ 16384
  entries : length s.entries ≡ 840

known : (s : Store) (k : ℕ) → undamaged_of s ≡ true → k < get_or s.words 1 0 → Known s k
known s k t h =
    let u = undamaged-is s t in
    let r = rule-sound s u k h in
    record {
      subject = omega (arith, r.0, u.counts.labels);
      object = omega (arith, r.1, u.counts.labels);
      small = omega (arith, u.counts.rules);
      labels = u.sizes.labels;
      entries = u.sizes.entries;
    }

pub returns-in_err-check-clause-value : goal.returns-in_err-check-clause-value
unfolding list_answer
returns-in_err-check-clause-value c =
    let p = err_from_is_err_and c.from_residual.result c.from_residual.ensures.1 in
    rw (p.1, p.2, c.in_err-check.ensures.err.0, c.in_err-check.ensures.err.1)

pub returns-in_err-check-clause-out_after : goal.returns-in_err-check-clause-out_after
unfolding list_out
returns-in_err-check-clause-out_after c = rw c.in_err-check.ensures.err.1

pub bounds-state-1 : goal.bounds-state-1
bounds-state-1 c =
    let u = undamaged-is (lent c.args.state) c.in_ok-check.ensures.ok in
    omega (arith, u.sizes.words)

pub returns-then-rules-k-clause-value : goal.returns-then-rules-k-clause-value
unfolding list_answer rule_given
returns-then-rules-k-clause-value c =
    let a = c.args in
    rw (
      c.in_ok-check.ensures.ok,
      entries-length (rule_at a.state.entries.now) (get_or a.state.words.now 1 0),
      le-ltb a.k (get_or a.state.words.now 1 0) c.if-rules-k.true,
    )

pub returns-then-rules-k-clause-out_after : goal.returns-then-rules-k-clause-out_after
unfolding list_out rule_given
returns-then-rules-k-clause-out_after c =
    let a = c.args in
    rw (
      c.in_ok-check.ensures.ok,
      entries-length (rule_at a.state.entries.now) (get_or a.state.words.now 1 0),
      le-ltb a.k (get_or a.state.words.now 1 0) c.if-rules-k.true,
    )

pub bounds-state-k : goal.bounds-state-k
bounds-state-k c =
    let w = known (lent c.args.state) c.args.k c.in_ok-check.ensures.ok c.if-rules-k.false in
    omega (arith, w.small, w.entries)

pub label_at-subject-requires : goal.label_at-subject-requires
label_at-subject-requires c =
    let w = known (lent c.args.state) c.args.k c.in_ok-check.ensures.ok c.if-rules-k.false in
    (w.labels, w.subject)

pub overflow_add-k : goal.overflow_add-k
overflow_add-k c =
    let w = known (lent c.args.state) c.args.k c.in_ok-check.ensures.ok c.if-rules-k.false in
    omega (arith, w.small)

pub bounds-state-k-2 : goal.bounds-state-k-2
bounds-state-k-2 c =
    let w = known (lent c.args.state) c.args.k c.in_ok-check.ensures.ok c.if-rules-k.false in
    omega (arith, w.small, w.entries)

pub label_at-object-requires : goal.label_at-object-requires
label_at-object-requires c =
    let w = known (lent c.args.state) c.args.k c.in_ok-check.ensures.ok c.if-rules-k.false in
    (w.labels, w.object)

pub overflow_add-k-2 : goal.overflow_add-k-2
overflow_add-k-2 c =
    let w = known (lent c.args.state) c.args.k c.in_ok-check.ensures.ok c.if-rules-k.false in
    omega (arith, w.small)

pub bounds-state-k-3 : goal.bounds-state-k-3
bounds-state-k-3 c =
    let w = known (lent c.args.state) c.args.k c.in_ok-check.ensures.ok c.if-rules-k.false in
    omega (arith, w.small, w.entries)

pub slice_bounds-put_text-end : goal.slice_bounds-put_text-end
slice_bounds-put_text-end c =
    let m = get_or c.args.state.entries.now (512 + c.args.k) 0 in
    omega (arith, c.write_modes-n.ensures.value, text-long m, c.write_modes-n.auto.out)

pub put_text-requires : goal.put_text-requires
put_text-requires c =
    let a = c.args in
    let m = get_or a.state.entries.now (512 + a.k) 0 in
    let e = ap length c.label_at-subject.ensures.bytes in
    let f = ap length c.label_at-object.ensures.bytes in
    let g = label-short a.state.labels.now (get_or a.state.entries.now a.k 0) in
    let h = label-short a.state.labels.now (get_or a.state.entries.now (256 + a.k) 0) in
    let t = ap (λ (x : List ℕ). take (c.write_modes-n.result - 0) (drop 0 x)) c.write_modes-n.ensures.out_after ∙ front-is _ (modes_text m) c.write_modes-n.result c.write_modes-n.ensures.value in
    (omega (arith, e, f, g, h), omega (arith, e, f, g, h), rw t (text-long m))

pub returns-clause-value : goal.returns-clause-value
returns-clause-value c =
    let a = c.args in
    let m = get_or a.state.entries.now (512 + a.k) 0 in
    let t = ap (λ (x : List ℕ). take (c.write_modes-n.result - 0) (drop 0 x)) c.write_modes-n.ensures.out_after ∙ front-is _ (modes_text m) c.write_modes-n.result c.write_modes-n.ensures.value in
    let s = lent a.state in
    let whole = c.in_ok-check.ensures.ok in
    c.put_text.ensures.value ∙ list-answer s (undamaged-is s whole) a.k c.if-rules-k.false _ _ _ a.out.now c.label_at-subject.ensures.bytes c.label_at-object.ensures.bytes t whole

pub returns-clause-out_after : goal.returns-clause-out_after
returns-clause-out_after c =
    let a = c.args in
    let m = get_or a.state.entries.now (512 + a.k) 0 in
    let t = ap (λ (x : List ℕ). take (c.write_modes-n.result - 0) (drop 0 x)) c.write_modes-n.ensures.out_after ∙ front-is _ (modes_text m) c.write_modes-n.result c.write_modes-n.ensures.value in
    let s = lent a.state in
    let whole = c.in_ok-check.ensures.ok in
    c.put_text.ensures.out_after ∙ list-out s (undamaged-is s whole) a.k c.if-rules-k.false _ _ _ a.out.now c.label_at-subject.ensures.bytes c.label_at-object.ensures.bytes t whole

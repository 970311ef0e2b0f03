-- Each answer is that of the definition, by the tests that led to it.
use Rattle.std.proofs.Common.{ℕ, ◌+◌, length, get_or, sym, ap, ◌∙◌, arith}
use Rattle.std.proofs.lemmas.Result.{err_from_is_err_and}
use Rattle.numbers.specs.Categories.{categories}
use Rattle.numbers.specs.declared.CategorySet.{CategorySet}
use Rattle.store.proofs.Laws.{undamaged-is}
use Rattle.lookups.specs.Lookups.{mapped}
use Rattle.lookups.proofs.Laws.{mapping-below, label-damaged, label-unformed, label-unknown, label-unmapped, label-mapped}
use Rattle.lookups.proofs.by_label.Goals as goal

pub returns-in_err-check : goal.returns-in_err-check
returns-in_err-check c =
    let a = c.args in
    let p = err_from_is_err_and c.from_residual.result c.from_residual.ensures.1 in
    rw (p.1, p.2, c.in_err-check.ensures.err.0)
    (sym (label-damaged a.state.labels.now a.state.entries.now a.state.words.now a.label.now c.in_err-check.ensures.err.1))

pub returns-in_err-check_label : goal.returns-in_err-check_label
returns-in_err-check_label c =
    let a = c.args in
    let p = err_from_is_err_and c.from_residual-in_err-check_label.result c.from_residual-in_err-check_label.ensures.1 in
    rw (p.1, p.2, c.in_err-check_label.ensures.err.0)
    (sym (label-unformed a.state.labels.now a.state.entries.now a.state.words.now a.label.now c.in_ok-check.ensures.ok c.in_err-check_label.ensures.err.1))

pub bounds-state-0 : goal.bounds-state-0
bounds-state-0 c = let u = undamaged-is _ c.in_ok-check.ensures.ok in omega (arith, u.sizes.words)

pub bounds-state-2 : goal.bounds-state-2
bounds-state-2 c = let u = undamaged-is _ c.in_ok-check.ensures.ok in omega (arith, u.sizes.words)

pub find_label-requires : goal.find_label-requires
find_label-requires c =
    let u = undamaged-is _ c.in_ok-check.ensures.ok in
    (u.sizes.labels, u.counts.labels)

pub returns-in_default : goal.returns-in_default
returns-in_default c =
    let a = c.args in
    sym (label-unknown a.state.labels.now a.state.entries.now a.state.words.now a.label.now c.in_ok-check.ensures.ok c.in_ok-check_label.ensures.ok (sym c.find_label.ensures ∙ c.in_default.is))

pub find_mapping-requires : goal.find_mapping-requires
find_mapping-requires c =
    let u = undamaged-is _ c.in_ok-check.ensures.ok in
    (omega (arith, u.sizes.entries), u.counts.mappings)

pub returns-in_default-find_mapping : goal.returns-in_default-find_mapping
returns-in_default-find_mapping c =
    let a = c.args in
    sym (label-unmapped a.state.labels.now a.state.entries.now a.state.words.now a.label.now c.in_ok-check.ensures.ok c.in_ok-check_label.ensures.ok (sym c.find_label.ensures ∙ c.in-Some.is) (sym (c.find_mapping.ensures a.state.words.now) ∙ c.in_default-find_mapping.is))

pub overflow_add-level : goal.overflow_add-level
overflow_add-level c =
    let u = undamaged-is _ c.in_ok-check.ensures.ok in
    omega (arith, mapping-below _ _ _ _ _ (sym (c.find_mapping.ensures c.args.state.words.now) ∙ c.in-Some-find_mapping.is), u.counts.mappings)

pub bounds-state-k : goal.bounds-state-k
bounds-state-k c =
    let u = undamaged-is _ c.in_ok-check.ensures.ok in
    omega (arith, mapping-below _ _ _ _ _ (sym (c.find_mapping.ensures c.args.state.words.now) ∙ c.in-Some-find_mapping.is), u.counts.mappings, u.sizes.entries)

pub set_at-set-requires : goal.set_at-set-requires
set_at-set-requires c =
    let u = undamaged-is _ c.in_ok-check.ensures.ok in
    (omega (arith, u.sizes.words), omega (arith, mapping-below _ _ _ _ _ (sym (c.find_mapping.ensures c.args.state.words.now) ∙ c.in-Some-find_mapping.is), u.counts.mappings))

pub returns : goal.returns
returns c =
    let a = c.args in
    let level = get_or a.state.entries.now (800 + c.in-Some-find_mapping.k) 0 in
    ap (λ (x : ℕ). mapped level c.set_at-set.result x) c.category_count-count.ensures
    ∙ ap (λ (x : CategorySet). mapped level x (length (categories x))) c.set_at-set.ensures
    ∙ sym (label-mapped a.state.labels.now a.state.entries.now a.state.words.now a.label.now c.in_ok-check.ensures.ok c.in_ok-check_label.ensures.ok (sym c.find_label.ensures ∙ c.in-Some.is) (sym (c.find_mapping.ensures a.state.words.now) ∙ c.in-Some-find_mapping.is))

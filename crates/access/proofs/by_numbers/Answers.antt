-- What the rule search finds is what the definition finds.
use Rattle.std.proofs.Common.{◌+◌, ◌≡◌, [], get_or, sym, ap, ◌∙◌, arith}
use borrow.Author.Tests.{eq-eqb, ne_eqb}
use Rattle.store.specs.Layout.{store, table_of}
use Rattle.store.specs.Pairs.{rule_between, has_modes, modes_found}
use Rattle.access.proofs.Laws.{between_below, stored-modes, ruled-same, ruled-none, ruled-grants, ruled-denies}
use Rattle.access.proofs.by_numbers.Goals as goal

pub returns-then-same : goal.returns-then-same
returns-then-same c = ruled-same _ _ c.args.wanted c.if-same.true

pub returns-in_default : goal.returns-in_default
returns-in_default c =
    let a = c.args in
    let t = table_of (store [] a.entries.now a.words.now) in
    ruled-none _ c.if-same.false t.rules (rule_between t a.s a.o) a.wanted (sym c.find_rule.ensures ∙ c.in_default.is)

pub overflow_add-modes : goal.overflow_add-modes
overflow_add-modes c =
    let below = between_below [] c.args.entries.now c.args.words.now c.args.s c.args.o c.in-Some.k (sym c.find_rule.ensures ∙ c.in-Some.is) in
    omega (arith, below)

pub bounds-entries-k : goal.bounds-entries-k
bounds-entries-k c =
    let below = between_below [] c.args.entries.now c.args.words.now c.args.s c.args.o c.in-Some.k (sym c.find_rule.ensures ∙ c.in-Some.is) in
    omega (arith, below)

pub returns-then-wanted-modes : goal.returns-then-wanted-modes
returns-then-wanted-modes c =
    let a = c.args in
    let t = table_of (store [] a.entries.now a.words.now) in
    let there = sym c.find_rule.ensures ∙ c.in-Some.is in
    let below = between_below [] a.entries.now a.words.now a.s a.o c.in-Some.k there in
    let modes : modes_found t.rules (rule_between t a.s a.o) ≡ has_modes (get_or a.entries.now (512 + c.in-Some.k) 0) =
    ap (modes_found t.rules) there ∙ stored-modes a.entries.now (get_or a.words.now 1 0) c.in-Some.k below in
    ruled-grants _ c.if-same.false t.rules (rule_between t a.s a.o) a.wanted _ modes (eq-eqb _ _ c.if-wanted-modes.true)

pub returns : goal.returns
returns c =
    let a = c.args in
    let t = table_of (store [] a.entries.now a.words.now) in
    let there = sym c.find_rule.ensures ∙ c.in-Some.is in
    let below = between_below [] a.entries.now a.words.now a.s a.o c.in-Some.k there in
    let modes : modes_found t.rules (rule_between t a.s a.o) ≡ has_modes (get_or a.entries.now (512 + c.in-Some.k) 0) =
    ap (modes_found t.rules) there ∙ stored-modes a.entries.now (get_or a.words.now 1 0) c.in-Some.k below in
    ruled-denies _ c.if-same.false t.rules (rule_between t a.s a.o) a.wanted _ modes (ne_eqb _ _ c.if-wanted-modes.false)

-- By the place that was found and the modes that stand there.
use Rattle.std.proofs.Common.{ℕ, sym, ◌∙◌, ap, get_or, length, arith}
use Rattle.store.specs.Layout.{Store, table_of}
use Rattle.store.specs.Lent.{lent_mut}
use Rattle.store.specs.Laid.{laid}
use Rattle.store.proofs.Laws.{undamaged-is}
use Rattle.rules.specs.Within.{placing, with_pair_at, modes_at_place}
use Rattle.rules.proofs.Laws.{facts}
use Rattle.writes.specs.Within.{new_modes}
use Rattle.writes.proofs.Laws.{placed-is, placed-rule, modes-same}
use Rattle.writes.proofs.set_modes.Goals as goal

pub tables-tables-requires : goal.tables-tables-requires
tables-tables-requires c =
    let u = undamaged-is (lent_mut c.args.state.now) c.requires.0 in
    record { sizes = u.sizes; counts = u.counts }

pub modes_at-old-requires : goal.modes_at-old-requires
modes_at-old-requires c =
    let a = c.args in
    let found = c.in_ok-spot.ensures ∙ ap (λ (z : Store). placing (table_of z) a.subject.now a.object.now) c.tables-tables.ensures in
    let q = placed-is (lent_mut a.state.now) a.subject.now a.object.now c.in_ok-spot.spot c.requires.0 c.requires.1 c.requires.2 (sym found) in
    (omega (arith, q.sizes.entries, ap (λ (z : Store). length z.entries) c.tables-tables.ensures), placed-rule _ _ _ _ q)

pub set_pair-requires : goal.set_pair-requires
set_pair-requires c =
    let a = c.args in
    let found = c.in_ok-spot.ensures ∙ ap (λ (z : Store). placing (table_of z) a.subject.now a.object.now) c.tables-tables.ensures in
    placed-is (lent_mut a.state.now) a.subject.now a.object.now c.in_ok-spot.spot c.requires.0 c.requires.1 c.requires.2 (sym found)

pub returns-clause-stored : goal.returns-clause-stored
returns-clause-stored c =
    let a = c.args in
    let st = lent_mut a.state.now in
    let spot = c.in_ok-spot.spot in
    let found = c.in_ok-spot.ensures ∙ ap (λ (z : Store). placing (table_of z) a.subject.now a.object.now) c.tables-tables.ensures in
    let q = placed-is st a.subject.now a.object.now spot c.requires.0 c.requires.1 c.requires.2 (sym found) in
    let there = c.modes_at-old.ensures ∙ ap (λ (z : Store). modes_at_place z.entries spot.rule) c.tables-tables.ensures in
    let old = there ∙ modes-same a.state.now.entries.now (get_or a.state.now.words.now 1 0) spot.rule (facts st a.subject.now a.object.now spot q).rule in
    let m = c.new_modes-modes.ensures ∙ ap (λ (x : ℕ). new_modes x a.setting) old in
    rw (sym found) (c.set_pair.ensures.stored ∙ ap (λ (n : ℕ). laid st (with_pair_at (table_of st) a.subject.now a.object.now spot n)) m)

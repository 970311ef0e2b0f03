-- A label that was found is stored.
use Rattle.std.proofs.Common.{ℕ, List, sym, ap, ◌∙◌, arith, Option, Result, Ok}
use Rattle.store.specs.LentWithin.{lent}
use Rattle.store.specs.Layout.{table_of}
use Rattle.store.proofs.Laws.{undamaged-is}
use Rattle.store.proofs.Laid.{label-short}
use Rattle.refusals.specs.declared.Refusal.{Refusal}
use Rattle.cipso_option.specs.Option.{peer_shown, mapped_peer, label}
use Rattle.cipso_option.proofs.Laws.{found_tested, found-label}
use Rattle.cipso_option.proofs.mapped_peer.Goals as goal

pub label_at-requires : goal.label_at-requires
label_at-requires c =
    let a = c.args in
    let st = lent a.state in
    let h = found_tested st a.level a.set c.in-Ok-Some.n (sym c.by_level-found.ensures ∙ c.in-Ok-Some.is ∙ ap Ok (rw c.in-Ok-Some.is at c.in-Ok-Some.field-0-is)) in
    let u = undamaged-is st h.0 in
    (u.sizes.labels, omega (arith, u.counts.labels, h.1))

pub shown-requires : goal.shown-requires
shown-requires c = rw c.label_at.ensures.bytes (label-short c.args.state.labels.now c.in-Ok-Some.n)

pub returns-in-Ok-Some : goal.returns-in-Ok-Some
returns-in-Ok-Some c =
    let a = c.args in
    let st = lent a.state in
    let found = sym c.by_level-found.ensures ∙ c.in-Ok-Some.is ∙ ap Ok (rw c.in-Ok-Some.is at c.in-Ok-Some.field-0-is) in
    let h = found_tested st a.level a.set c.in-Ok-Some.n found in
    c.shown.ensures
    ∙ ap (λ (l : List ℕ). peer_shown (label l)) (c.label_at.ensures.bytes ∙ sym (found-label st a.level a.set c.in-Ok-Some.n h.1))
    ∙ ap (λ (x : Result (Option ℕ) Refusal). peer_shown (mapped_peer (table_of st) x)) (sym found)

-- A refusal leaves the store, and an accepted write sets the mapping where it has its place.
use Rattle.std.proofs.Common.{sym, ap, ◌∙◌, refl}
use Rattle.std.proofs.lemmas.Result.{err_from_is_err_and}
use Rattle.alphabet.specs.Within.{part}
use Rattle.store.specs.Layout.{Store, table_of, undamaged_of}
use Rattle.store.specs.Lent.{lent_mut}
use Rattle.store.proofs.Laws.{undamaged-is}
use Rattle.cipso.specs.Within.{placing}
use Rattle.cipso.proofs.Laws.{map-damaged, map-refused, map-placeless, map-done}
use Rattle.cipso.proofs.map_label.Goals as goal

pub returns-in_err-check : goal.returns-in_err-check
returns-in_err-check c =
    let s = lent_mut c.args.state.now in
    let p = err_from_is_err_and c.from_residual.result c.from_residual.ensures.1 in
    let d = c.in_err-check.ensures.err in
    let e = map-damaged s c.args.text.now (ap undamaged_of (sym c.shared.ensures) ∙ d.1) in
    record { value = rw (p.1, p.2, d.0) e.0; stored = e.1; same_slices = (refl, refl, refl) }

pub returns-in_err-line : goal.returns-in_err-line
returns-in_err-line c =
    let s = lent_mut c.args.state.now in
    let whole = ap undamaged_of (sym c.shared.ensures) ∙ c.in_ok-check.ensures.ok in
    let p = err_from_is_err_and c.from_residual-in_err-line.result c.from_residual-in_err-line.ensures.1 in
    let e = map-refused s c.args.text.now whole _ (sym c.in_err-line.ensures.said) in
    record { value = rw (p.1, p.2) e.0; stored = e.1; same_slices = (refl, refl, refl) }

pub tables-requires : goal.tables-requires
tables-requires c =
    let whole = ap undamaged_of (sym c.shared.ensures) ∙ c.in_ok-check.ensures.ok in
    let u = undamaged-is _ whole in
    record { sizes = u.sizes; counts = u.counts }

pub returns-in_err-spot : goal.returns-in_err-spot
returns-in_err-spot c =
    let s = lent_mut c.args.state.now in
    let whole = ap undamaged_of (sym c.shared.ensures) ∙ c.in_ok-check.ensures.ok in
    let place = ap (λ (x : Store). placing (table_of x) (part c.args.text.now c.in_ok-line.line.start c.in_ok-line.line.end)) (sym c.tables.ensures) ∙ sym c.find_place.ensures in
    let p = err_from_is_err_and c.from_residual-in_err-spot.result c.from_residual-in_err-spot.ensures.1 in
    let e = map-placeless s c.args.text.now whole _ _ _ (sym c.in_ok-line.ensures.said) _ (place ∙ c.in_err-spot.was) in
    record { value = rw (p.1, p.2) e.0; stored = e.1; same_slices = (refl, refl, refl) }

pub set_mapping-requires : goal.set_mapping-requires
set_mapping-requires c =
    let whole = ap undamaged_of (sym c.shared.ensures) ∙ c.in_ok-check.ensures.ok in
    let place = ap (λ (x : Store). placing (table_of x) (part c.args.text.now c.in_ok-line.line.start c.in_ok-line.line.end)) (sym c.tables.ensures) ∙ sym c.find_place.ensures in
    let u = undamaged-is _ whole in
    record { sizes = u.sizes; counts = u.counts; at = place ∙ c.in_ok-spot.was; label = c.in_ok-line.ensures.line_inside.2 }

pub returns : goal.returns
returns c =
    let s = lent_mut c.args.state.now in
    let whole = ap undamaged_of (sym c.shared.ensures) ∙ c.in_ok-check.ensures.ok in
    let place = ap (λ (x : Store). placing (table_of x) (part c.args.text.now c.in_ok-line.line.start c.in_ok-line.line.end)) (sym c.tables.ensures) ∙ sym c.find_place.ensures in
    let e = map-done s c.args.text.now whole _ _ _ (sym c.in_ok-line.ensures.said) _ (place ∙ c.in_ok-spot.was) in
    record { value = e.0; stored = c.set_mapping.ensures.stored ∙ e.1; same_slices = c.set_mapping.ensures.same_slices }

-- Each answer by the tests in their order.
use Rattle.std.proofs.Common.{refl, sym, ◌∙◌, ap, arith, length, Err}
use Rattle.std.proofs.lemmas.Result.{err_from_is_err_and}
use mathlib.Core.Path.{subst}
use Rattle.alphabet.specs.Alphabet.{fields}
use Rattle.alphabet.proofs.Laws.{field-none}
use Rattle.store.specs.Layout.{Store, table_of, undamaged_of}
use Rattle.store.specs.Lent.{lent_mut}
use Rattle.store.proofs.Laws.{undamaged-is}
use Rattle.store.proofs.Laid.{Bytes}
use Rattle.onlycap.specs.Within.{Fits, labels_joined}
use Rattle.onlycap.specs.declared.Counted.{Counted}
use Rattle.onlycap.proofs.Laws.{passed_none, passed-more, met_damaged, met-long, met-none, met-dash, met-unformed, met-many, met-full, met-done}
use Rattle.onlycap.proofs.Laid.{cleared-laid, list_laid}
use Rattle.onlycap.proofs.set_onlycap.Goals as goal

pub returns-in_err-check : goal.returns-in_err-check
returns-in_err-check c =
    let p = err_from_is_err_and c.from_residual.result c.from_residual.ensures.1 in
    let d = c.in_err-check.ensures.err in
    let e = met_damaged (lent_mut c.args.state.now) c.args.text.now (ap undamaged_of (sym c.shared-lent.ensures) ∙ d.1) in
    record { value = rw (p.1, p.2, d.0) e.0; stored = e.1; same_slices = (refl, refl, refl) }

pub returns-then-text-gt-LINE_LIMIT : goal.returns-then-text-gt-LINE_LIMIT
returns-then-text-gt-LINE_LIMIT c =
    let s = lent_mut c.args.state.now in
    let text = c.args.text.now in
    let tested = ap undamaged_of (sym c.shared-lent.ensures) ∙ c.in_ok-check.ensures.ok in
    let e = met-long s text tested c.if-text-gt-LINE_LIMIT.true in
    record { value = e.0; stored = e.1; same_slices = (refl, refl, refl) }

pub returns-in_default : goal.returns-in_default
returns-in_default c =
    let s = lent_mut c.args.state.now in
    let text = c.args.text.now in
    let tested = ap undamaged_of (sym c.shared-lent.ensures) ∙ c.in_ok-check.ensures.ok in
    let e = met-none s text tested c.if-text-gt-LINE_LIMIT.false (field-none text 0 (sym c.next_field.ensures ∙ c.in_default.is)) in
    record { value = e.0; stored = e.1; same_slices = (refl, refl, refl) }

pub bounds-state-3 : goal.bounds-state-3
bounds-state-3 c =
    let tested = ap undamaged_of (sym c.shared-lent.ensures) ∙ c.in_ok-check.ensures.ok in
    let u = undamaged-is _ tested in
    omega (arith, u.sizes.words)

pub returns-then-lone_dash : goal.returns-then-lone_dash
returns-then-lone_dash c =
    let s = lent_mut c.args.state.now in
    let text = c.args.text.now in
    let tested = ap undamaged_of (sym c.shared-lent.ensures) ∙ c.in_ok-check.ensures.ok in
    let some = (passed-more text 0 0 _ _ (passed_none text) (sym c.in-Part.ensures)).some in
    let bytes = subst (λ (x : Store). Bytes x.labels) c.shared-lent.ensures c.are_bytes.ensures in
    let e = met-dash s text tested c.if-text-gt-LINE_LIMIT.false some (sym c.lone_dash.ensures ∙ c.if-lone_dash.true) in
    record { value = e.0; stored = cleared-laid s (undamaged-is s tested) bytes ∙ e.1; same_slices = (refl, refl, refl) }

pub returns-then-not-all_formed : goal.returns-then-not-all_formed
returns-then-not-all_formed c =
    let s = lent_mut c.args.state.now in
    let text = c.args.text.now in
    let tested = ap undamaged_of (sym c.shared-lent.ensures) ∙ c.in_ok-check.ensures.ok in
    let short = c.if-text-gt-LINE_LIMIT.false in
    let some = (passed-more text 0 0 _ _ (passed_none text) (sym c.in-Part.ensures)).some in
    let labelled = sym c.lone_dash.ensures ∙ c.if-lone_dash.false in
    let e = met-unformed s text tested short some labelled (sym c.all_formed.ensures ∙ c.if-not-all_formed.true) in
    record { value = ap Err c.bad_label_in.ensures ∙ e.0; stored = e.1; same_slices = (refl, refl, refl) }

pub bounds-lent-0 : goal.bounds-lent-0
bounds-lent-0 c =
    let u = undamaged-is _ c.in_ok-check.ensures.ok in
    omega (arith, u.sizes.words)

pub count-counted-requires : goal.count-counted-requires
count-counted-requires c =
    let u = undamaged-is _ c.in_ok-check.ensures.ok in
    (u.sizes.labels, u.counts.labels, c.if-text-gt-LINE_LIMIT.false)

pub returns-then-counted-gt-ONLYCAP_LIMIT : goal.returns-then-counted-gt-ONLYCAP_LIMIT
returns-then-counted-gt-ONLYCAP_LIMIT c =
    let s = lent_mut c.args.state.now in
    let text = c.args.text.now in
    let tested = ap undamaged_of (sym c.shared-lent.ensures) ∙ c.in_ok-check.ensures.ok in
    let short = c.if-text-gt-LINE_LIMIT.false in
    let some = (passed-more text 0 0 _ _ (passed_none text) (sym c.in-Part.ensures)).some in
    let labelled = sym c.lone_dash.ensures ∙ c.if-lone_dash.false in
    let formed = sym c.all_formed.ensures ∙ c.if-not-all_formed.false in
    let different = ap (λ (n : Counted). n.different) c.count-counted.ensures in
    let e = met-many s text tested short some labelled formed (omega (arith, different, c.if-counted-gt-ONLYCAP_LIMIT.true)) in
    record { value = e.0; stored = e.1; same_slices = (refl, refl, refl) }

pub returns-then-counted-gt-LABEL_LIMIT : goal.returns-then-counted-gt-LABEL_LIMIT
returns-then-counted-gt-LABEL_LIMIT c =
    let s = lent_mut c.args.state.now in
    let text = c.args.text.now in
    let tested = ap undamaged_of (sym c.shared-lent.ensures) ∙ c.in_ok-check.ensures.ok in
    let short = c.if-text-gt-LINE_LIMIT.false in
    let some = (passed-more text 0 0 _ _ (passed_none text) (sym c.in-Part.ensures)).some in
    let labelled = sym c.lone_dash.ensures ∙ c.if-lone_dash.false in
    let formed = sym c.all_formed.ensures ∙ c.if-not-all_formed.false in
    let different = ap (λ (n : Counted). n.different) c.count-counted.ensures in
    let labels = ap (λ (n : Counted). n.labels) c.count-counted.ensures ∙ ap (λ (x : Store). length (labels_joined (table_of x) (fields text))) c.shared-lent.ensures in
    let e =
    met-full s text tested short some labelled formed (omega (arith, different, c.if-counted-gt-ONLYCAP_LIMIT.false))
    (omega (arith, labels, c.if-counted-gt-LABEL_LIMIT.true)) in
    record { value = e.0; stored = e.1; same_slices = (refl, refl, refl) }

pub apply-requires : goal.apply-requires
apply-requires c =
    let s = lent_mut c.args.state.now in
    let text = c.args.text.now in
    let tested = ap undamaged_of (sym c.shared-lent.ensures) ∙ c.in_ok-check.ensures.ok in
    let short = c.if-text-gt-LINE_LIMIT.false in
    let formed = sym c.all_formed.ensures ∙ c.if-not-all_formed.false in
    let u = undamaged-is s tested in
    let different = ap (λ (n : Counted). n.different) c.count-counted.ensures in
    let labels = ap (λ (n : Counted). n.labels) c.count-counted.ensures ∙ ap (λ (x : Store). length (labels_joined (table_of x) (fields text))) c.shared-lent.ensures in
    let fits : Fits s text =
    record {
      sizes = u.sizes;
      counts = u.counts;
      size = short;
      formed = formed;
      few = omega (arith, different, c.if-counted-gt-ONLYCAP_LIMIT.false);
      room = omega (arith, labels, c.if-counted-gt-LABEL_LIMIT.false);
    } in
    fits

pub returns : goal.returns
returns c =
    let s = lent_mut c.args.state.now in
    let text = c.args.text.now in
    let tested = ap undamaged_of (sym c.shared-lent.ensures) ∙ c.in_ok-check.ensures.ok in
    let short = c.if-text-gt-LINE_LIMIT.false in
    let some = (passed-more text 0 0 _ _ (passed_none text) (sym c.in-Part.ensures)).some in
    let labelled = sym c.lone_dash.ensures ∙ c.if-lone_dash.false in
    let formed = sym c.all_formed.ensures ∙ c.if-not-all_formed.false in
    let u = undamaged-is s tested in
    let different = ap (λ (n : Counted). n.different) c.count-counted.ensures in
    let labels = ap (λ (n : Counted). n.labels) c.count-counted.ensures ∙ ap (λ (x : Store). length (labels_joined (table_of x) (fields text))) c.shared-lent.ensures in
    let bytes = subst (λ (x : Store). Bytes x.labels) c.shared-lent.ensures c.are_bytes.ensures in
    let fits : Fits s text =
    record {
      sizes = u.sizes;
      counts = u.counts;
      size = short;
      formed = formed;
      few = omega (arith, different, c.if-counted-gt-ONLYCAP_LIMIT.false);
      room = omega (arith, labels, c.if-counted-gt-LABEL_LIMIT.false);
    } in
    let e = met-done s text tested short some labelled formed fits.few fits.room in
    record { value = e.0; stored = c.apply.ensures.stored ∙ list_laid s text fits bytes ∙ e.1; same_slices = c.apply.ensures.same_slices }

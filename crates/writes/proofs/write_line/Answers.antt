-- By what the line says.
use Rattle.std.proofs.Common.{ℕ, List, ◌≡◌, true, sym, ◌∙◌, ap, rules}
use Rattle.std.proofs.lemmas.Result.{err_from_is_err_and}
use Rattle.store.specs.Table.{Table}
use Rattle.store.specs.Layout.{store, table_of, undamaged_of}
use Rattle.rules.specs.Within.{placing}
use Rattle.lines.specs.Lines.{rule, rule_of}
use Rattle.lines.specs.Within.{at}
use Rattle.lines.proofs.Laws.{Taken, rule-sound}
use Rattle.writes.specs.Writes.{judged, line_outcome, line_stored}
use Rattle.writes.specs.Within.{setting_at}
use Rattle.writes.specs.declared.Setting.TheVariants as x
use Rattle.writes.proofs.Laws.{formed-short, sound_as, done-accepted, done_refused, table-sound, rule-at}
use Rattle.writes.proofs.write_line.Goals as goal

-- where the line is a rule its labels are well formed
formed : (line s o : List ℕ) (m : ℕ) → rule s o m ≡ rule_of line → Taken s o
formed line s o m says = (sound_as (rule-sound line) (sym says)).0

-- and what becomes of it goes by the place that was found
by_place :
    (l e w line s o : List ℕ) (m : ℕ) →
    undamaged_of (store l e w) ≡ true →
    rule s o m ≡ rule_of line →
    judged (table_of (store l e w)) (rule_of line) ≡ setting_at (table_of (store l e w)) s o (x.Rule m) (placing (table_of (store l e w)) s o)
by_place l e w line s o m u says =
    let t : Table = table_of (store l e w) in
    ap (judged t) (sym says) ∙ rule-at t (table-sound (store l e w) u) s o (formed line s o m says) m

pub returns-in_err-rule-clause-value : goal.returns-in_err-rule-clause-value
unfolding line_outcome
returns-in_err-rule-clause-value c = rw (sym c.in_err-rule.ensures.said) (search rules)

pub returns-in_err-rule-clause-stored : goal.returns-in_err-rule-clause-stored
unfolding line_stored
returns-in_err-rule-clause-stored c = rw (sym c.in_err-rule.ensures.said)

pub returns-in_default-clause-value : goal.returns-in_default-clause-value
unfolding line_outcome
returns-in_default-clause-value c = rw (sym (rw c.in_default.is at c.in_ok-rule.ensures.said))

pub returns-in_default-clause-stored : goal.returns-in_default-clause-stored
unfolding line_stored
returns-in_default-clause-stored c = rw (sym (rw c.in_default.is at c.in_ok-rule.ensures.said))

pub set_modes-requires : goal.set_modes-requires
set_modes-requires c =
    let f = formed c.args.line.now _ _ _ (rw c.in-Some.is at c.in_ok-rule.ensures.said) in
    (c.requires, formed-short _ f.subject, formed-short _ f.object)

pub returns-in_err-set_modes-clause-value : goal.returns-in_err-set_modes-clause-value
unfolding line_outcome
returns-in_err-set_modes-clause-value c =
    let a = c.args in
    let r = c.in-Some.rule in
    let t = table_of (store a.state.now.labels.now a.state.now.entries.now a.state.now.words.now) in
    let s = at a.line.now r.labels.subject in
    let o = at a.line.now r.labels.object in
    let e = by_place a.state.now.labels.now a.state.now.entries.now a.state.now.words.now a.line.now _ _ _ c.requires (rw c.in-Some.is at c.in_ok-rule.ensures.said) in
    let p = err_from_is_err_and c.from_residual-in_err-set_modes.result c.from_residual-in_err-set_modes.ensures.1 in
    rw e (rw (p.1, p.2) (done_refused t s o (x.Rule r.modes) (placing t s o) _ (sym c.in_err-set_modes.ensures.value)))

pub returns-in_err-set_modes-clause-stored : goal.returns-in_err-set_modes-clause-stored
unfolding line_stored
returns-in_err-set_modes-clause-stored c =
    let a = c.args in
    let e = by_place a.state.now.labels.now a.state.now.entries.now a.state.now.words.now a.line.now _ _ _ c.requires (rw c.in-Some.is at c.in_ok-rule.ensures.said) in
    rw e c.set_modes.ensures.stored

pub returns-clause-value : goal.returns-clause-value
unfolding line_outcome
returns-clause-value c =
    let a = c.args in
    let r = c.in-Some.rule in
    let t = table_of (store a.state.now.labels.now a.state.now.entries.now a.state.now.words.now) in
    let s = at a.line.now r.labels.subject in
    let o = at a.line.now r.labels.object in
    let e = by_place a.state.now.labels.now a.state.now.entries.now a.state.now.words.now a.line.now _ _ _ c.requires (rw c.in-Some.is at c.in_ok-rule.ensures.said) in
    let held = rw c.in-Some.is at c.in_ok-rule.ensures.rule_held in
    rw e (done-accepted t s o (x.Rule r.modes) (placing t s o) held (sym c.in_ok-set_modes.ensures.value))

pub returns-clause-stored : goal.returns-clause-stored
unfolding line_stored
returns-clause-stored c =
    let a = c.args in
    let e = by_place a.state.now.labels.now a.state.now.entries.now a.state.now.words.now a.line.now _ _ _ c.requires (rw c.in-Some.is at c.in_ok-rule.ensures.said) in
    rw e c.set_modes.ensures.stored

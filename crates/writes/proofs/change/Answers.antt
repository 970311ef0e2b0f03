-- By what the write says.
use Rattle.std.proofs.Common.{ℕ, List, ◌≡◌, true, sym, ◌∙◌, ap, rules}
use Rattle.store.specs.Table.{Table}
use Rattle.store.specs.Layout.{store, table_of, undamaged_of}
use Rattle.store.specs.Judged.{on_state}
use Rattle.lines.specs.Lines.{change, change_of}
use Rattle.lines.proofs.Laws.{Taken, change-sound}
use Rattle.rules.specs.Within.{placing}
use Rattle.writes.specs.Writes.{judged, change_answer, change_store}
use Rattle.writes.specs.Within.{setting_at}
use Rattle.writes.specs.declared.Setting.TheVariants as setting
use Rattle.writes.proofs.Laws.{formed-short, sound_as, table-sound, change-at}
use Rattle.writes.proofs.change.Goals as goal

-- where the write is a change its labels are well formed
formed : (text s o : List ℕ) (a d : ℕ) → change s o a d ≡ change_of text → Taken s o
formed text s o a d says = (sound_as (change-sound text) (sym says)).0

-- and what becomes of it goes by the place that was found
by_place :
    (l e w text s o : List ℕ) (a d : ℕ) →
    undamaged_of (store l e w) ≡ true →
    change s o a d ≡ change_of text →
    judged (table_of (store l e w)) (change_of text) ≡ setting_at (table_of (store l e w)) s o (setting.Change a d) (placing (table_of (store l e w)) s o)
by_place l e w text s o a d u says =
    let t : Table = table_of (store l e w) in
    ap (judged t) (sym says) ∙ change-at t (table-sound (store l e w) u) s o (formed text s o a d says) a d

pub returns-in_err-check-clause-value : goal.returns-in_err-check-clause-value
unfolding change_answer on_state
returns-in_err-check-clause-value c = rw (ap undamaged_of (sym c.shared.ensures) ∙ c.in_err-check.ensures.err.1) (search rules)

pub returns-in_err-check-clause-stored : goal.returns-in_err-check-clause-stored
unfolding change_store on_state
returns-in_err-check-clause-stored c = rw (ap undamaged_of (sym c.shared.ensures) ∙ c.in_err-check.ensures.err.1)

pub returns-in_err-change-clause-value : goal.returns-in_err-change-clause-value
unfolding change_answer on_state
returns-in_err-change-clause-value c = rw (ap undamaged_of (sym c.shared.ensures) ∙ c.in_ok-check.ensures.ok, sym c.in_err-change.ensures.said) (search rules)

pub returns-in_err-change-clause-stored : goal.returns-in_err-change-clause-stored
unfolding change_store on_state
returns-in_err-change-clause-stored c = rw (ap undamaged_of (sym c.shared.ensures) ∙ c.in_ok-check.ensures.ok, sym c.in_err-change.ensures.said)

pub set_modes-requires : goal.set_modes-requires
set_modes-requires c =
    let f = formed c.args.text.now _ _ _ _ c.in_ok-change.ensures.said in
    (ap undamaged_of (sym c.shared.ensures) ∙ c.in_ok-check.ensures.ok, formed-short _ f.subject, formed-short _ f.object)

pub returns-clause-value : goal.returns-clause-value
unfolding change_answer on_state
returns-clause-value c =
    let a = c.args in
    let u = ap undamaged_of (sym c.shared.ensures) ∙ c.in_ok-check.ensures.ok in
    let e = by_place a.state.now.labels.now a.state.now.entries.now a.state.now.words.now a.text.now _ _ _ _ u c.in_ok-change.ensures.said in
    rw (u, e) c.set_modes.ensures.value

pub returns-clause-stored : goal.returns-clause-stored
unfolding change_store on_state
returns-clause-stored c =
    let a = c.args in
    let u = ap undamaged_of (sym c.shared.ensures) ∙ c.in_ok-check.ensures.ok in
    let e = by_place a.state.now.labels.now a.state.now.entries.now a.state.now.words.now a.text.now _ _ _ _ u c.in_ok-change.ensures.said in
    rw (u, e) c.set_modes.ensures.stored

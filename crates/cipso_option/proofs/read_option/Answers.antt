-- By what the option says; the store is tested once.
use Rattle.std.proofs.Common.{sym, ap, ◌∙◌}
use Rattle.store.specs.LentWithin.{lent}
use Rattle.cipso_option.specs.Option.{peer_shown}
use Rattle.cipso_option.proofs.Laws.{peer-damaged, peer_tested, peer-mapped, peer-own}
use Rattle.cipso_option.proofs.read_option.Goals as goal

pub returns-then-not-undamaged : goal.returns-then-not-undamaged
returns-then-not-undamaged c =
    let a = c.args in
    c.refused.ensures ∙ sym (ap peer_shown (peer-damaged (lent a.state) a.option.now (sym c.undamaged.ensures ∙ c.if-not-undamaged.true)))

pub returns-then-level-ne-OWN_LEVEL : goal.returns-then-level-ne-OWN_LEVEL
returns-then-level-ne-OWN_LEVEL c =
    let a = c.args in
    c.mapped_peer.ensures
    ∙ sym (ap peer_shown (peer-mapped (lent a.state) a.option.now c.if-level-ne-OWN_LEVEL.true (sym c.said_by-said.ensures ∙ c.in-Ok.is)))

pub returns-then-not-undamaged-2 : goal.returns-then-not-undamaged-2
returns-then-not-undamaged-2 c =
    let a = c.args in
    c.refused-then-not-undamaged-2.ensures
    ∙ sym (ap peer_shown (peer-damaged (lent a.state) a.option.now (sym c.undamaged-in-Ok.ensures ∙ c.if-not-undamaged-2.true)))

pub returns-else-not-undamaged : goal.returns-else-not-undamaged
returns-else-not-undamaged c =
    let a = c.args in
    c.refused-in-Err.ensures
    ∙ sym (ap peer_shown (peer_tested (lent a.state) a.option.now (sym c.undamaged.ensures ∙ c.if-not-undamaged.false) (sym c.said_by-said.ensures ∙ c.in-Err.is)))

pub returns-else-not-undamaged-2 : goal.returns-else-not-undamaged-2
returns-else-not-undamaged-2 c =
    let a = c.args in
    c.own_peer.ensures
    ∙ sym (ap peer_shown (peer-own (lent a.state) a.option.now (sym c.undamaged-in-Ok.ensures ∙ c.if-not-undamaged-2.false) c.if-level-ne-OWN_LEVEL.false (sym c.said_by-said.ensures ∙ c.in-Ok.is)))

-- Whole blocks hold the stored rules, and each run of numbers is a part of the lent slice.
use Rattle.std.proofs.Common.{Bool, ◌≡◌, ◌&&◌, sym, ◌∙◌, arith}
use borrow.Author.Tests.{ltb-true}
use Rattle.search.proofs.Laws.{and_both}
use Rattle.modes.specs.Modes.{known_modes}
use Rattle.damage.proofs.Laws.{rule_runs, rules-within}
use Rattle.damage.proofs.rules_sound.Goals as goal

same_tests : {a a' b b' d d' : Bool} → a ≡ a' → b ≡ b' → d ≡ d' → ((a && b) && d) ≡ ((a' && b') && d')
same_tests p q r = rw (p, q, r)

pub returns-then-most-labels : goal.returns-then-most-labels
unfolding known_modes
returns-then-most-labels c =
    let a = c.args in
    let m = c.largest-most in
    let t = and_both _ _ c.if-most-labels.true in
    sym (rules-within a.labels a.rules m.result.label m.result.modes a.entries.now (λ k h. m.ensures k (omega arith)) (ltb-true _ _ t.0) t.1)

pub returns : goal.returns
returns c =
    same_tests c.all_below-subjects.ensures c.all_below-objects.ensures c.all_modes_known-modes.ensures
    ∙ sym (rule_runs c.args.labels c.args.rules c.args.entries.now c.requires.0 c.requires.1)

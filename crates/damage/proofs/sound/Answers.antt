-- Each run of numbers is a part of the lent slices.
use Rattle.std.proofs.Common.{Bool, ◌≡◌, ◌&&◌, get_or, sym, ◌∙◌}
use Rattle.damage.proofs.Laws.{sound_runs}
use Rattle.damage.proofs.sound.Goals as goal

same_tests :
    {a a' b b' d d' e e' : Bool} →
    a ≡ a' →
    b ≡ b' →
    d ≡ d' →
    e ≡ e' →
    ((a && (b && d)) && e) ≡ ((a' && (b' && d')) && e')
same_tests p q r s = rw (p, q, r, s)

pub returns : goal.returns
returns c =
    let p = c.requires in
    same_tests c.rules_sound-rules.ensures c.all_below-mapped.ensures c.all_known-sets.ensures c.all_below-listed.ensures
    ∙ sym (sound_runs (get_or c.args.words.now 0 0) c.args.entries.now c.args.words.now p.0 p.1 p.2)

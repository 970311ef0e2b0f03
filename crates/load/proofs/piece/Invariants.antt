-- At each turn the rest of the text leads from the state there to where the whole text leads from the first.
use Rattle.std.proofs.Common.{◌≤◌, ◌-◌, ◌≡◌, true, length, drop}
use Rattle.store.specs.Lent.{lent_mut, SameSlices}
use Rattle.load.specs.Loader.{load, ready, step_piece}
use Rattle.load.proofs.piece.Given as goal

abbrev pub invariant-loop-next : goal.invariant-loop-next
invariant-loop-next l = record {
  within : l.i ≤ length l.text;
  is_ready : ready (load (lent_mut l.state) l.line l.next) ≡ true;
  leads : step_piece (load (lent_mut l.initial.state) l.initial.line l.initial.next) l.text ≡ step_piece (load (lent_mut l.state) l.line l.next) (drop l.i l.text);
  same_slices : SameSlices l.initial.state l.state;
}

abbrev pub decreases-loop-next : goal.decreases-loop-next
decreases-loop-next l = length l.text - l.i

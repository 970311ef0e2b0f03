-- At each turn the rest of the input leads from the state there to where the whole leads from the first, and says what is still to be said.
use Rattle.std.proofs.Common.{◌-◌, ◌≡◌, ◌≤◌, length, drop}
use Rattle.alphabet.specs.Alphabet.{line_limit}
use Rattle.store.specs.LentWithin.{lent}
use Rattle.load.specs.Loader.{load}
use Rattle.program.specs.Steps.{asking, take_input}
use Rattle.program.proofs.Laws.{Said}
use Rattle.program.proofs.answer_lines.Given as goal

abbrev pub invariant-loop-next : goal.invariant-loop-next
invariant-loop-next l =
    (l.i ≤ length l.input)
    × (length l.line ≡ line_limit)
    × (take_input (asking (load (lent l.state) l.fn.line l.fn.l)) l.input ≡ take_input (asking (load (lent l.state) l.line l.next)) (drop l.i l.input))
    × Said (asking (load (lent l.state) l.fn.line l.fn.l)) (asking (load (lent l.state) l.line l.next)) l.input l.i l.fn.out l.from l.out l.at

abbrev pub decreases-loop-next : goal.decreases-loop-next
decreases-loop-next l = length l.input - l.i

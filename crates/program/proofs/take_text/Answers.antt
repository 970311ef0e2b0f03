-- `program::take_text`: the loader gets what is rule text, and where that ends the rest is questions. Assumes nothing.
use Rattle.std.proofs.Common.{ℕ, ◌+◌, ◌≤◌, ◌≡◌, sym, ap, ◌∙◌, arith, Bool, List, length, length-drop}
use Rattle.std.proofs.Common.{nat_eq}
use lib.Seq.{length-take-le}
use Rattle.store.specs.Lent.{lent_mut}
use Rattle.program.specs.Steps.{State, state, at_mark}
use Rattle.program.specs.Within.{text_end}
use Rattle.program.proofs.Laws.{text-inside, rest-is, feed_damaged, feed-all, feed-rest}
use Rattle.program.proofs.take_text.Goals as goal

-- where the rule text ends, by what the two tests answered
module _ (b : State) (input : List ℕ) {m : Bool} {end : ℕ} (mark : m ≡ at_mark b.load.line b.load.loader) (e : end ≡ text_end (nat_eq b.load.loader.kept 0) m input) where
  ends : end ≡ text_end (nat_eq b.load.loader.kept 0) (at_mark b.load.line b.load.loader) input
  ends = e ∙ ap (λ (x : Bool). text_end (nat_eq b.load.loader.kept 0) x input) mark

  inside : end ≤ length input
  inside = let h = text-inside (nat_eq b.load.loader.kept 0) (at_mark b.load.line b.load.loader) input in omega (arith, h, ends)

pub slice_bounds-piece-end : goal.slice_bounds-piece-end
slice_bounds-piece-end c =
    let a = c.args in
    let b = state (lent_mut a.state.now) a.line.now a.s in
    sym (length-take-le c.text_end-end.result a.input.now (inside b a.input.now c.is_mark.ensures c.text_end-end.ensures))

pub returns-in_default-clause-feeds : goal.returns-in_default-clause-feeds
returns-in_default-clause-feeds c =
    let a = c.args in
    let b = state (lent_mut a.state.now) a.line.now a.s in
    feed_damaged b c.requires.0 a.input.now c.text_end-end.result (ends b a.input.now c.is_mark.ensures c.text_end-end.ensures) c.piece.ensures.value c.piece.ensures.loaded a.out.now c.in_default.is c.requires.1

pub returns-then-end-input-clause-feeds : goal.returns-then-end-input-clause-feeds
returns-then-end-input-clause-feeds c =
    let a = c.args in
    let b = state (lent_mut a.state.now) a.line.now a.s in
    feed-all b c.requires.0 a.input.now c.text_end-end.result (ends b a.input.now c.is_mark.ensures c.text_end-end.ensures) c.piece.ensures.value c.piece.ensures.loaded c.in-Ok.is a.out.now c.requires.1 c.if-end-input.true

pub overflow_add-behind : goal.overflow_add-behind
overflow_add-behind c =
    let a = c.args in
    let b = state (lent_mut a.state.now) a.line.now a.s in
    omega (arith, c.if-end-input.false, inside b a.input.now c.is_mark.ensures c.text_end-end.ensures)

pub slice_bounds-turn_to_questions-count : goal.slice_bounds-turn_to_questions-count
slice_bounds-turn_to_questions-count c =
    let a = c.args in
    let b = state (lent_mut a.state.now) a.line.now a.s in
    omega (arith, c.if-end-input.false, inside b a.input.now c.is_mark.ensures c.text_end-end.ensures)

pub slice_bounds-turn_to_questions-start : goal.slice_bounds-turn_to_questions-start
slice_bounds-turn_to_questions-start c =
    let a = c.args in
    let b = state (lent_mut a.state.now) a.line.now a.s in
    omega (arith, c.if-end-input.false, inside b a.input.now c.is_mark.ensures c.text_end-end.ensures)

pub turn_to_questions-requires : goal.turn_to_questions-requires
turn_to_questions-requires c =
    let a = c.args in
    let b = state (lent_mut a.state.now) a.line.now a.s in
    let k = c.text_end-end.result + 1 in
    omega (arith, c.if-end-input.false, inside b a.input.now c.is_mark.ensures c.text_end-end.ensures, c.requires.1, ap length (rest-is a.input.now k), length-drop k a.input.now)

pub returns-clause-feeds : goal.returns-clause-feeds
returns-clause-feeds c =
    let a = c.args in
    let b = state (lent_mut a.state.now) a.line.now a.s in
    feed-rest b c.requires.0 a.input.now c.text_end-end.result (ends b a.input.now c.is_mark.ensures c.text_end-end.ensures) c.piece.ensures.value c.piece.ensures.loaded c.in-Ok.is (rest-is a.input.now (c.text_end-end.result + 1)) c.requires.1 c.if-end-input.false c.turn_to_questions.ensures.turns_over

-- What the program writes: every run of its calls says what 01 has written, and every input has a run. Assumes nothing.
use mathlib.Core.Path.{◌≡◌, refl, sym, ap, ◌∙◌, subst}
use mathlib.Core.Bool.{true, false, cond, ◌&&◌}
use mathlib.Core.List.{List, [], ◌∷◌, ◌++◌}
use Prim.Native.Nat.{ℕ, ◌*◌, ◌≤◌}
use native.Mathlib.Omega.{arith}
use lib.Dec.{leb}
use lib.ListN.{length, replicate, length-replicate}
use Rattle.std.specs.Borrow.{Bor, MutBor}
use borrow.Author.Tests.{le-ltb}
use Rattle.search.specs.Bytes.{ascii, same_bytes, written}
use Rattle.alphabet.specs.Alphabet.{line_limit, fields}
use Rattle.store.specs.Table.{Table, fresh}
use Rattle.access.specs.Access.{answer}
use Rattle.store.specs.Layout.{Store, store, Sizes}
use Rattle.store.specs.Judged.{fresh_store}
use Rattle.store.proofs.Judged.{fresh-entries}
use Rattle.load.specs.Loader.{ready}
use Rattle.store.specs.Lent.{lent_mut}
use Rattle.store.specs.declared.LentMut.{LentMut}
use Rattle.lists.specs.Called.{first, second, third, fifth}
use Rattle.lists.specs.Reader.{start_on}
use Rattle.replies.specs.Replies.{line_room}
use Rattle.program.specs.declared.Session.{Session}
use Rattle.program.specs.Program.{answer_to, output}
use Rattle.program.specs.Steps.{State, state, fresh_session, turn_of, take_input, say_input, take_last, say_last}
use Rattle.program.specs.Turns.{went_session}
use Rattle.program.proofs.Laws.{some_turn}
use Rattle.program.proofs.Plain.{Phase, loads, phase_on, said_on, said_from, said-append, plain-output}
use Rattle.program.proofs.Follows.{Stands, feed_law, finish_law, begun}
use Rattle.claims.specs.Program as c
use Rattle.claims.specs.Program.{CalledBegin, CalledFeed, CalledFinish, InPieces, an_end, a_piece, joined, ProgramOutput}

-- ---- every run

follows : {st : Store} {line : List ℕ} {x : Session} {pieces : List (List ℕ)} {said : List ℕ} (q : Phase) → Stands (state st line x) q → InPieces st line x pieces said → said ≡ said_from q (joined pieces)
follows q h (an_end k room) = finish_law q k.ensures.0 room h
follows q h (a_piece k {pieces} {said} room rest) =
    let input = (fifth k.args).now in
    let d = feed_law q input k.ensures.0 room h in
    ap (λ (x : List ℕ). x ++ said) d.says
    ∙ ap (λ (x : List ℕ). said_on q input ++ x) (follows (phase_on q input) d.stands rest)
    ∙ sym (said-append q input (joined pieces))

writes :
    (k : CalledBegin) (line : List ℕ) (pieces : List (List ℕ)) (said : List ℕ) →
    Sizes (first k.args).now (second k.args).now (third k.args).now →
    length line ≡ line_limit →
    InPieces (c.begun k) line k.result pieces said →
    said ≡ output (joined pieces)
writes k line pieces said sizes full run =
    let fresh-state : state (c.begun k) line k.result ≡ state (fresh_store (store (first k.args).now (second k.args).now (third k.args).now)) line fresh_session = ap (λ (x : Store). state x line k.result) k.ensures.1 ∙ ap (λ (x : Session). state (fresh_store (store (first k.args).now (second k.args).now (third k.args).now)) line x) k.ensures.0 in
    follows (loads (start_on fresh)) (subst (λ (x : State). Stands x (loads (start_on fresh))) (sym fresh-state) (begun (store (first k.args).now (second k.args).now (third k.args).now) line sizes full)) run
    ∙ plain-output (joined pieces)

-- ---- a run for every input: calls within the contracts, from any state

abbrev lends : List ℕ → Bor (List ℕ)
lends x = record { ref_ptr = (0, 0); now = x }

abbrev lends_mut : List ℕ → MutBor (List ℕ)
lends_mut x = record { ref_ptr = (0, 0); ghost_name = 0; now = x }

abbrev begin_call : (st : Store) → CalledBegin
begin_call st =
    record {
      lifetimes = ([], ([], ([], tt)));
      args = (lends_mut st.labels, (lends st.entries, (lends_mut st.words, tt)));
      asked = tt;
      result = fresh_session;
      last = ((fresh_store st).labels, (tt, ((fresh_store st).words, tt)));
      ensures = (refl, fresh-entries st);
    }

-- the three slices of a state in one hand, and that lent
abbrev slices : Store → LentMut
slices st = record { labels = lends_mut st.labels; entries = lends_mut st.entries; words = lends_mut st.words }

abbrev lends_state : Store → MutBor LentMut
lends_state st = record { ref_ptr = (0, 0); ghost_name = 0; now = slices st }

-- what a call leaves that goes on to `after` and says so much
abbrev leaves : ℕ → State → State → List ℕ → State
leaves most s after out = cond (leb most (length out) && ready s.load) after s

abbrev puts : ℕ → State → List ℕ → List ℕ → List ℕ
puts most s said out = written out 0 (cond (leb most (length out) && ready s.load) said [])

abbrev feed_call : (st : Store) (line : List ℕ) (x : Session) (input out : List ℕ) → CalledFeed
feed_call st line x input out =
    let s = state st line x in
    let n = leaves (line_room * length input) s (take_input s input) out in
    record {
      lifetimes = ([], ([], ([], ([], ([], tt)))));
      args = (lends_state st, (lends_mut line, (lends_mut out, (x, (lends input, tt)))));
      asked = tt;
      result = turn_of (leb (line_room * length input) (length out)) s (take_input s input) (say_input s input);
      last = (slices n.load.store, (n.load.line, (puts (line_room * length input) s (say_input s input) out, (tt, (tt, tt)))));
      ensures = (some_turn _ st line x (take_input s input) (say_input s input) out, (refl, refl, refl));
    }

abbrev finish_call : (st : Store) (line : List ℕ) (x : Session) (out : List ℕ) → CalledFinish
finish_call st line x out =
    let s = state st line x in
    let n = leaves line_room s (take_last s) out in
    record {
      lifetimes = ([], ([], ([], ([], tt))));
      args = (lends_state st, (lends_mut line, (lends_mut out, (x, tt))));
      asked = tt;
      result = turn_of (leb line_room (length out)) s (take_last s) (say_last s);
      last = (slices n.load.store, (n.load.line, (puts line_room s (say_last s) out, (tt, tt))));
      ensures = (some_turn _ st line x (take_last s) (say_last s) out, (refl, refl, refl));
    }

-- an output of n bytes
room : ℕ → List ℕ
room n = replicate n 0

room-long : (n : ℕ) → n ≤ length (room n)
unfolding room
room-long n = rw (length-replicate {A = ℕ} n 0) (omega arith)

runs : (st : Store) (line : List ℕ) (x : Session) (pieces : List (List ℕ)) → (said : List ℕ) × InPieces st line x pieces said
runs st line x [] = (_, an_end (finish_call st line x (room line_room)) (room-long line_room))
runs st line x (input ∷ pieces) =
    let k = feed_call st line x input (room (line_room * length input)) in
    let rest = runs (lent_mut (first k.last)) (second k.last) (went_session x k.result) pieces in
    (_, a_piece k {pieces = pieces} {said = rest.0} (room-long (line_room * length input)) rest.1)

some_run :
    (st : Store) (line : List ℕ) (pieces : List (List ℕ)) →
    (k : CalledBegin) × (store (first k.args).now (second k.args).now (third k.args).now ≡ st) × (said : List ℕ) × InPieces (c.begun k) line k.result pieces said
some_run st line pieces =
    let rest = runs (c.begun (begin_call st)) line fresh_session pieces in
    (begin_call st, refl, rest.0, rest.1)

asks :
    (t : Table) (line s o request : List ℕ) →
    length line ≤ line_limit →
    fields line ≡ s ∷ o ∷ request ∷ [] →
    answer_to (answer t) line ≡ answer t s o request false
unfolding answer_to
asks t line s o request h e = rw (le-ltb line_limit (length line) h, e)

asks_capable :
    (t : Table) (line s o request : List ℕ) →
    length line ≤ line_limit →
    fields line ≡ s ∷ o ∷ request ∷ ascii "o" ∷ [] →
    answer_to (answer t) line ≡ answer t s o request true
unfolding answer_to same_bytes
asks_capable t line s o request h e = rw (le-ltb line_limit (length line) h, e)

pub program-output : ProgramOutput
program-output = record { writes = writes; some_run = some_run; asks = asks; asks_capable = asks_capable }

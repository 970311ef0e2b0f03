-- What the program writes. Its main hands the input, cut into pieces as the reads give them, to `begin`, `feed` and `finish` of the crate program,
-- and writes the bytes that each call puts at the front of its output. Nothing here says what a function does: that comes from each function's own
-- clauses, by specs/ContractsRead. Assumes nothing.
use Rattle.std.specs.Prelude.{ℕ, ◌*◌, ◌≤◌, ◌≡◌, List, [], ◌∷◌, ◌++◌, length, take, true, false}
use Rattle.search.specs.Bytes.{ascii}
use Rattle.alphabet.specs.Alphabet.{line_limit, fields}
use Rattle.store.specs.Layout.{Store, store, Sizes}
use Rattle.store.specs.Lent.{lent_mut}
use Rattle.lists.specs.Called.{Called, first, second, third, fourth, fifth}
use Rattle.program.specs.declared.Session.{Session}
use Rattle.store.specs.Table.{Table}
use Rattle.access.specs.Access.{answer}
use Rattle.program.specs.Program.{answer_to, output}
use Rattle.program.specs.Turns.{went_session, went_count}
use Rattle.replies.specs.Replies.{line_room}
use Rattle.claims.specs.ContractsRead as contracts

-- ---- the three calls, as their caller knows them

abbrev pub CalledBegin : Type 0
CalledBegin = Called contracts.begin

abbrev pub CalledFeed : Type 0
CalledFeed = Called contracts.feed

abbrev pub CalledFinish : Type 0
CalledFinish = Called contracts.finish

-- the tables that `begin` leaves; the entries are lent by `&`
abbrev pub begun : CalledBegin → Store
begun k = store (first k.last) (second k.args).now (third k.last)

-- ---- a run: the pieces of the input, and the bytes that the calls put at the front of their outputs, one behind the other. Each call is made with the
-- tables, the line and the session that the one before it left, and with an output that has `line_room` bytes for each byte of the piece; the last is `finish`

pub data InPieces : Store → List ℕ → Session → List (List ℕ) → List ℕ → Type 0 where
  an_end : (k : CalledFinish) → line_room ≤ length (third k.args).now →
      InPieces (lent_mut (first k.args).now) (second k.args).now (fourth k.args) [] (take (went_count k.result) (third k.last))
  a_piece :
      (k : CalledFeed) {pieces : List (List ℕ)} {said : List ℕ} →
      line_room * length (fifth k.args).now ≤ length (third k.args).now →
      InPieces (lent_mut (first k.last)) (second k.last) (went_session (fourth k.args) k.result) pieces said →
      InPieces (lent_mut (first k.args).now) (second k.args).now (fourth k.args) ((fifth k.args).now ∷ pieces)
      (take (went_count k.result) (third k.last) ++ said)

-- the pieces as one input
abbrev pub joined : List (List ℕ) → List ℕ
joined [] = []
joined (x ∷ xs) = x ++ joined xs

-- ---- the claim

pub record ProgramOutput : Type 0 where
  -- from memory of full size, in whatever pieces the input comes, what is written is what 01 has written for the whole input
  pub writes :
      (k : CalledBegin) (line : List ℕ) (pieces : List (List ℕ)) (said : List ℕ) →
      Sizes (first k.args).now (second k.args).now (third k.args).now →
      length line ≡ line_limit →
      InPieces (begun k) line k.result pieces said →
      said ≡ output (joined pieces)
  -- and from every memory every list of pieces has such calls, so that this does not speak of nothing
  pub some_run :
      (st : Store) (line : List ℕ) (pieces : List (List ℕ)) →
      (k : CalledBegin) × (store (first k.args).now (second k.args).now (third k.args).now ≡ st) × (said : List ℕ) × InPieces (begun k) line k.result pieces said
  -- a question line of three fields asks as it stands; with a fourth, `o`, the asker has the capability
  pub asks :
      (t : Table) (line s o request : List ℕ) →
      length line ≤ line_limit →
      fields line ≡ s ∷ o ∷ request ∷ [] →
      answer_to (answer t) line ≡ answer t s o request false
  pub asks_capable :
      (t : Table) (line s o request : List ℕ) →
      length line ≤ line_limit →
      fields line ≡ s ∷ o ∷ request ∷ ascii "o" ∷ [] →
      answer_to (answer t) line ≡ answer t s o request true

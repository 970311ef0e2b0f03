-- What a write does: each is one definition, from the tables to what becomes of it and of them. The definitions here turn that into the
-- tables afterwards, the lent slices and the answer, for every write in the same way. Assumes nothing.
use Rattle.std.specs.Prelude.{cond, Result, Ok, Err}
use Rattle.refusals.specs.Refusals.{damaged}
use Rattle.refusals.specs.declared.Refusal.{Refusal}
use Rattle.store.specs.Table.{Table, fresh}
use Rattle.store.specs.Layout.{Store, table_of, undamaged_of, full_sizes}
use Rattle.store.specs.Laid.{laid}

-- skipped (a line of rule text alone can be), refused by the first number that holds, with its place, or accepted, with the tables after it
pub data Judged : Type 0 where
  is_skipped : Judged
  is_refused : Refusal → Judged
  is_accepted : Table → Judged

-- the tables afterwards
abbrev pub table_after : Table → Judged → Table
table_after t is_skipped = t
table_after t (is_refused n) = t
table_after t (is_accepted t') = t'

-- the lent slices afterwards: of an accepted write the tables after it, laid; of any other every byte as it was
abbrev pub store_after : Store → Judged → Store
store_after st is_skipped = st
store_after st (is_refused n) = st
store_after st (is_accepted t) = laid st t

-- what a single write answers: done, or a refusal (it is never skipped)
abbrev pub done_of : Judged → Result (Unit {0}) Refusal
done_of is_skipped = Ok tt
done_of (is_refused n) = Err n
done_of (is_accepted t) = Ok tt

-- a write to a lent state: 0 before every other number where it is damaged
unfoldable pub on_state : Store → (Table → Judged) → Judged
on_state st write = cond (undamaged_of st) (write (table_of st)) (is_refused damaged)

-- a fresh table in lent memory, whatever it holds: 0 where a part has not its full size
unfoldable pub fresh_write : Store → Judged
fresh_write st = cond (full_sizes st) (is_accepted fresh) (is_refused damaged)

unfoldable pub fresh_answer : Store → Result (Unit {0}) Refusal
unfolding fresh_write
fresh_answer st = done_of (fresh_write st)

unfoldable pub fresh_store : Store → Store
unfolding fresh_write
fresh_store st = store_after st (fresh_write st)

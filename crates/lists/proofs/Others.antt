-- The calls that take no loader, at a state that stands for a plain reader: what each answers and leaves, and the same of a damaged state. Assumes nothing.
use Prim.Native.Nat.{ℕ}
use mathlib.Core.Path.{◌≡◌, refl, ap, ◌∙◌}
use mathlib.Core.Bool.{Bool, true, false, cond}
use mathlib.Core.List.{List}
use lib.Dec.{ltb}
use lib.ListN.{length}
use Rattle.refusals.specs.Refusals.{told, damaged, no_such_number, plain}
use Rattle.numbers.specs.declared.CategorySet.{CategorySet}
use Rattle.std.proofs.Common.{Ok, Err}
use Rattle.store.specs.Table.{Table, label_numbered}
use Rattle.store.specs.Layout.{Store, store, table_of, undamaged_of}
use Rattle.store.specs.Judged.{on_state}
use Rattle.writes.specs.Writes.{change_answer, change_store}
use Rattle.revoke.specs.Revoke.{revoke_answer, revoke_store}
use Rattle.onlycap.specs.Onlycap.{onlycap_answer, onlycap_store}
use Rattle.cipso.specs.Cipso.{map_answer, map_stored}
use Rattle.lookups.specs.Lookups.{by_label_of, by_level_of}
use Rattle.listing.specs.Listing.{list_answer, list_out, label_given, label_answer}
use Rattle.cipso_option.specs.Option.{option_given, option_answer, option_out, not_read, peer_given, peer_shown}
use Rattle.access.specs.Access.{question_of}
use Rattle.new_object.specs.NewObject.{object_label_of}
use Rattle.answers.specs.Answers.{shown}
use Rattle.access.specs.declared.Answer.TheVariants as a
use Rattle.load.specs.Loader.{Load, load}
use Rattle.answers.specs.Answers.{output_shown, lookup_shown, search_shown, object_shown, part_shown}
use Rattle.answers.specs.declared.Part.{Part}
use Rattle.lists.specs.Reader as r
use Rattle.lists.specs.Reader.{Reader, done_reply, count_reply, Write, after_write, write_says, write_on, ask_says}
use Rattle.lists.specs.Tables.{Leaves}
use Rattle.lists.proofs.Tables.{tables_follow}
use Rattle.lists.proofs.Follows.{Holds}

-- the store that a single write leaves
abbrev pub store_left : Store → Write → Store
store_left st (r.change text) = change_store st text
store_left st (r.revoke l) = store st.labels (revoke_store st l).entries st.words
store_left st (r.onlycap text) = onlycap_store st text
store_left st (r.mapping text) = map_stored st text

pub store-leaves : (st : Store) (w : Write) → undamaged_of st ≡ true → Leaves (store_left st w) (after_write (table_of st) w)
store-leaves st (r.change text) u = tables_follow.change st text u
store-leaves st (r.revoke l) u = tables_follow.revoke st l u
store-leaves st (r.onlycap text) u = tables_follow.onlycap st text u
store-leaves st (r.mapping text) u = tables_follow.mapping st text u

pub write-holds : (s : Load) (p : Reader) (w : Write) → Holds s p → Holds (load (store_left s.store w) s.line s.loader) (write_on p w)
write-holds s p w h =
    let g = store-leaves s.store w h.ready.undamaged in
    record {
      ready = record { undamaged = g.undamaged; line = h.ready.line; kept = h.ready.kept };
      table = g.table ∙ ap (λ (t : Table). after_write t w) h.table;
      line = h.line;
      totals = h.totals;
    }

-- ---- what each call answers, of an undamaged state

module _ (st : Store) (u : undamaged_of st ≡ true) where
  pub change-says : (text : List ℕ) → done_reply (change_answer st text) ≡ write_says (table_of st) (r.change text)
  unfolding change_answer on_state
  change-says text = rw u

  pub revoke-says : (l : List ℕ) → count_reply (revoke_answer st l) ≡ write_says (table_of st) (r.revoke l)
  unfolding revoke_answer on_state
  revoke-says l = rw u

  pub onlycap-says : (text : List ℕ) → done_reply (onlycap_answer st text) ≡ write_says (table_of st) (r.onlycap text)
  unfolding onlycap_answer on_state
  onlycap-says text = rw u

  pub mapping-says : (text : List ℕ) → done_reply (map_answer st text) ≡ write_says (table_of st) (r.mapping text)
  unfolding map_answer on_state
  mapping-says text = rw u

  pub question-says : (s o request : List ℕ) (capable : Bool) → r.answered (shown (question_of st s o request capable)) ≡ ask_says (table_of st) (r.question s o request capable)
  unfolding question_of
  question-says s o request capable = rw u

  pub by-label-says : (l : List ℕ) → r.mapped (lookup_shown (by_label_of st l)) ≡ ask_says (table_of st) (r.by_label l)
  unfolding by_label_of
  by-label-says l = rw u

  pub by-level-says : (level : ℕ) (set : CategorySet) → r.lowest (search_shown (by_level_of st level set)) ≡ ask_says (table_of st) (r.by_level level set)
  unfolding by_level_of
  by-level-says level set = rw u

  pub list_says : (k : ℕ) (out : List ℕ) → r.listed (output_shown (list_answer st k out)) (list_out st k out) ≡ ask_says (table_of st) (r.list_a_rule k out)
  unfolding list_answer list_out
  list_says k out = rw u

  pub option_says : (l out : List ℕ) → r.listed (output_shown (option_answer st l out)) (option_out st l out) ≡ ask_says (table_of st) (r.write_option l out)
  unfolding option_answer option_out option_given
  option_says l out = rw u

  pub peer-says : (option : List ℕ) → r.peer (peer_shown (peer_given st option)) ≡ ask_says (table_of st) (r.read_option option)
  unfolding peer_given
  peer-says option = rw u

  pub object-says :
      (creator folder : List ℕ) (folder_transmutes is_folder : Bool) →
      r.labelled (object_shown (object_label_of st creator folder folder_transmutes is_folder)) ≡ ask_says (table_of st) (r.new_object creator folder folder_transmutes is_folder)
  unfolding object_label_of
  object-says creator folder folder_transmutes is_folder = rw u

  pub check_says : (k : ℕ) → done_reply (label_answer st k) ≡ ask_says (table_of st) (r.label_check k)
  unfolding label_answer
  check_says k = rw u (by-test (ltb k (length (table_of st).labels)))
    where
      by-test : (b : Bool) → done_reply (cond b (Ok tt) (Err no_such_number)) ≡ cond b r.done (r.refusal (told no_such_number))
      by-test true = refl
      by-test false = refl

  pub label-says : (k n : ℕ) (x : Part) (bytes : List ℕ) → x ≡ part_shown k n (label_answer st k) → bytes ≡ label_given st k → cond x.refused (r.refusal (plain x.number)) (r.label_is bytes) ≡ ask_says (table_of st) (r.label k)
  unfolding label_answer label_given
  label-says k n x bytes p q = rw (p, q, u) (by-test (ltb k (length (table_of st).labels)))
    where
      by-test :
          (b : Bool) →
          cond (part_shown k n (cond b (Ok tt) (Err no_such_number))).refused (r.refusal (plain (part_shown k n (cond b (Ok tt) (Err no_such_number))).number)) (r.label_is (label_numbered (table_of st) k))
          ≡ cond b (r.label_is (label_numbered (table_of st) k)) (r.refusal (told no_such_number))
      by-test true = refl
      by-test false = refl

-- ---- and of a damaged one

module _ (st : Store) (u : undamaged_of st ≡ false) where
  pub write_refused : (w : Write) → store_left st w ≡ st
  unfolding change_store revoke_store onlycap_store map_stored on_state
  write_refused (r.change text) = rw u
  write_refused (r.revoke l) = rw u
  write_refused (r.onlycap text) = rw u
  write_refused (r.mapping text) = rw u

  pub change-refused : (text : List ℕ) → change_answer st text ≡ Err damaged
  unfolding change_answer on_state
  change-refused text = rw u

  pub revoke-refused : (l : List ℕ) → revoke_answer st l ≡ Err damaged
  unfolding revoke_answer on_state
  revoke-refused l = rw u

  pub onlycap-refused : (text : List ℕ) → onlycap_answer st text ≡ Err damaged
  unfolding onlycap_answer on_state
  onlycap-refused text = rw u

  pub mapping-refused : (text : List ℕ) → map_answer st text ≡ Err damaged
  unfolding map_answer on_state
  mapping-refused text = rw u

  pub question-refused : (x o request : List ℕ) (capable : Bool) → question_of st x o request capable ≡ a.Refused damaged
  unfolding question_of
  question-refused x o request capable = rw u

  pub by-label-refused : (l : List ℕ) → by_label_of st l ≡ Err damaged
  unfolding by_label_of
  by-label-refused l = rw u

  pub by-level-refused : (level : ℕ) (set : CategorySet) → by_level_of st level set ≡ Err damaged
  unfolding by_level_of
  by-level-refused level set = rw u

  pub option_refused : (l out : List ℕ) → (option_answer st l out ≡ Err damaged) × (option_out st l out ≡ out)
  unfolding option_answer option_out option_given
  option_refused l out = (rw u, rw u)

  pub peer_refused : (option : List ℕ) → peer_given st option ≡ not_read damaged
  unfolding peer_given
  peer_refused option = rw u

  pub object-refused : (creator folder : List ℕ) (folder_transmutes is_folder : Bool) → object_label_of st creator folder folder_transmutes is_folder ≡ Err damaged
  unfolding object_label_of
  object-refused creator folder folder_transmutes is_folder = rw u

  pub list_refused : (k : ℕ) (out : List ℕ) → (list_answer st k out ≡ Err damaged) × (list_out st k out ≡ out)
  unfolding list_answer list_out
  list_refused k out = (rw u, rw u)

  pub check_refused : (k : ℕ) → label_answer st k ≡ Err damaged
  unfolding label_answer
  check_refused k = rw u

  pub label-refused : (k n : ℕ) (x : Part) (bytes : List ℕ) → x ≡ part_shown k n (label_answer st k) → cond x.refused (r.refusal (plain x.number)) (r.label_is bytes) ≡ r.refusal (told damaged)
  label-refused k n x bytes p = rw (p, check_refused k)

-- What a C or Rust program that links the library relies on: of each function of the crate balqirven, which balqirven_c exports with the same
-- clauses, that it asks nothing of its caller, and what it answers and leaves. Nothing here says what a function does by itself: `Asked` and
-- `Learnt` are read off that function's own `requires` and `ensures`. So a contract that said less would no longer give what stands here. Assumes
-- nothing.
use Rattle.std.specs.Prelude.{◌≡◌, length, take, drop}
use contract.Lifetimes.{Lfts}
use denote.Triple.Entry.{Args, Res}
use denote.Triple.Clauses.{Lasts, at_exit}
use Rattle.store.specs.Layout.{store}
use Rattle.store.specs.Judged.{fresh_answer, fresh_store}
use Rattle.writes.specs.Writes.{change_answer, change_store}
use Rattle.revoke.specs.Revoke.{revoke_answer, revoke_store}
use Rattle.onlycap.specs.Onlycap.{onlycap_answer, onlycap_store}
use Rattle.cipso.specs.Cipso.{map_answer, map_stored}
use Rattle.lookups.specs.Lookups.{by_label_of, by_level_of}
use Rattle.run.specs.Run.{run_of, records_of}
use Rattle.access.specs.Access.{question_of}
use Rattle.new_object.specs.NewObject.{object_label_of}
use Rattle.answers.specs.Answers.{shown}
use Rattle.places.specs.Places.{PartFrom}
use Rattle.listing.specs.Listing.{list_answer, list_out, label_given, label_answer, label_from}
use Rattle.output.specs.Output.{text_answer, text_out}
use Rattle.fixed_load.specs.Records.{line_from, record_from}
use Rattle.cipso_option.specs.Option.{option_answer, option_out, peer_given, peer_shown}
use Rattle.reports.specs.Report.{fresh_loader}
use Rattle.load.specs.Loader.{piece_answer, piece_after, end_answer, end_after}
use Rattle.lists.specs.Called.{Contract, Asked, Learnt, first, second, third, fourth, fifth, sixth, seventh, lent, lent_mut, left, loading, loaded}
use Rattle.calls.specs.Contracts as contracts
use Rattle.claims.specs.ContractsRead as others
use Rattle.answers.specs.Answers.{write_shown, revoke_shown, piece_shown, end_shown, output_shown, lookup_shown, search_shown, object_shown, part_shown}

-- The promise of a function. Its caller has nothing to show, whatever the arguments a. And of every call, with the answer r and with what the
-- parameters lent by `&mut` hold at its end, l, what the function ensures says this
pub record Promise (c : Contract)
    (Says : (κs : Lfts c.ended.signature.lifetimes) (a : Args c.ended.signature κs) → Res c.ended.signature κs → Lasts c.ended κs a → Type 0) : Type 0 where
  pub free : (κs : Lfts c.ended.signature.lifetimes) (a : Args c.ended.signature κs) → Asked c κs a
  pub says :
      (κs : Lfts c.ended.signature.lifetimes) (a : Args c.ended.signature κs) (r : Res c.ended.signature κs) (l : Lasts c.ended κs a) →
      Learnt c κs a r (at_exit c.ended κs a l) →
      Says κs a r l

-- What is lent by `&` has no last value, and stands as `tt` among the last values: it is as it was. Each promise says of which parameters that is so,
-- and would have no type if one of them were lent by `&mut`.

-- ---- the twenty-one functions that are exported, in 01's order of the calls and then 02's, and the one call that can't be exported in its own form

pub record ExportedCalls : Type 0 where
  -- a fresh table: the entries are lent by `&`
  pub fresh_table : Promise contracts.fresh_table
      (λ κs a r l. (r ≡ write_shown (fresh_answer (store (first a).now (second a).now (third a).now))) × (store (first l) (second a).now (third l) ≡ fresh_store (store (first a).now (second a).now (third a).now)) × (second l ≡ tt))
  -- a fresh loader
  pub fresh_loader_is : Promise contracts.fresh_loader
      (λ κs a r l. r ≡ fresh_loader)
  -- a piece of rule text
  pub piece : Promise contracts.piece
      (λ κs a r l. (r ≡ piece_shown (fifth a) (piece_answer (loading a) (sixth a).now))
      × (loaded l r.loader ≡ piece_after (loading a) (sixth a).now) × (sixth l ≡ tt))
  -- the end call
  pub end_call : Promise contracts.end
      (λ κs a r l. (r ≡ end_shown (fifth a) (end_answer (loading a))) × (loaded l r.loader ≡ end_after (loading a)))
  -- change-rule
  pub change : Promise contracts.change
      (λ κs a r l. (r ≡ write_shown (change_answer (lent_mut a) (fourth a).now)) × (left l ≡ change_store (lent_mut a) (fourth a).now) × (fourth l ≡ tt))
  -- revoke-subject: the entries alone are lent by `&mut`
  pub revoke : Promise contracts.revoke
      (λ κs a r l. (r ≡ revoke_shown (revoke_answer (store (first a).now (second a).now (third a).now) (fourth a).now)) × (second l ≡ (revoke_store (store (first a).now (second a).now (third a).now) (fourth a).now).entries)
      × (first l ≡ tt) × (third l ≡ tt) × (fourth l ≡ tt))
  -- the override list
  pub onlycap : Promise contracts.onlycap
      (λ κs a r l. (r ≡ write_shown (onlycap_answer (lent_mut a) (fourth a).now)) × (left l ≡ onlycap_store (lent_mut a) (fourth a).now) × (fourth l ≡ tt))
  -- a mapping
  pub mapping : Promise contracts.mapping
      (λ κs a r l. (r ≡ write_shown (map_answer (lent_mut a) (fourth a).now)) × (left l ≡ map_stored (lent_mut a) (fourth a).now) × (fourth l ≡ tt))
  -- the mapping of a label
  pub mapping_by_label : Promise contracts.by_label
      (λ κs a r l. (r ≡ lookup_shown (by_label_of (lent a) (fourth a).now)) × (l ≡ (tt, (tt, (tt, (tt, tt))))))
  -- the lowest-numbered label with a level and a set
  pub by_level_and_set : Promise contracts.by_level
      (λ κs a r l. (r ≡ search_shown (by_level_of (lent a) (fourth a) (fifth a))) × (l ≡ (tt, (tt, (tt, (tt, (tt, tt)))))))
  -- the same in a run whose fields stand in three slices
  pub in_three_slices : Promise contracts.lowest_of
      (λ κs a r l. (r ≡ search_shown (run_of (records_of (first a).now (second a).now (third a).now) (fourth a) (fifth a)))
      × (l ≡ (tt, (tt, (tt, (tt, (tt, tt)))))))
  -- and in a run of records
  pub in_a_run : Promise contracts.lowest_in_run
      (λ κs a r l. (r ≡ search_shown (run_of (first a).now (second a) (third a))) × (l ≡ (tt, (tt, (tt, tt)))))
  -- a question: subject, object, request, and whether the asker has the capability
  pub question : Promise contracts.question
      (λ κs a r l. (r ≡ shown (question_of (lent a) (fourth a).now (fifth a).now (sixth a).now (seventh a)))
      × (l ≡ (tt, (tt, (tt, (tt, (tt, (tt, (tt, tt)))))))))
  -- a rule by its number, at the front of the lent buffer
  pub listing : Promise contracts.list_rule
      (λ κs a r l. (r ≡ output_shown (list_answer (lent a) (fourth a) (fifth a).now)) × (fifth l ≡ list_out (lent a) (fourth a) (fifth a).now)
      × (first l ≡ tt) × (second l ≡ tt) × (third l ≡ tt))
  -- whether a number is a label's
  pub label_check : Promise contracts.label_check
      (λ κs a r l. (r ≡ write_shown (label_answer (lent a) (fourth a))) × (l ≡ (tt, (tt, (tt, (tt, tt))))))
  -- where the label of a number stands in the lent labels
  pub label_by_number : Promise contracts.label
      (λ κs a r l. (r ≡ part_shown (fourth a) (length (label_given (lent a) (fourth a))) (label_answer (lent a) (fourth a)))
      × (take r.length (drop r.start (first a).now) ≡ label_given (lent a) (fourth a)) × (l ≡ (tt, (tt, (tt, (tt, tt))))))
  -- an old record as a rule line, and a rule line as an old record, at the front of the lent buffer
  pub record_to_line : Promise contracts.record_to_line
      (λ κs a r l. (r ≡ output_shown (text_answer (line_from (first a).now) (second a).now))
      × (second l ≡ text_out (line_from (first a).now) (second a).now) × (first l ≡ tt))
  pub line_to_record : Promise contracts.line_to_record
      (λ κs a r l. (r ≡ output_shown (text_answer (record_from (first a).now) (second a).now))
      × (second l ≡ text_out (record_from (first a).now) (second a).now) × (first l ≡ tt))
  -- the packet option of a label, at the front of the lent buffer; and the label of an option
  pub write_option : Promise contracts.write_option
      (λ κs a r l. (r ≡ output_shown (option_answer (lent a) (fourth a).now (fifth a).now))
      × (fifth l ≡ option_out (lent a) (fourth a).now (fifth a).now) × (first l ≡ tt) × (second l ≡ tt) × (third l ≡ tt) × (fourth l ≡ tt))
  pub read_option : Promise contracts.read_option
      (λ κs a r l. (r ≡ peer_shown (peer_given (lent a) (fourth a).now)) × (l ≡ (tt, (tt, (tt, (tt, tt))))))
  -- the label of a new object: creator, folder, whether the folder transmutes, and whether the new object is a folder
  pub new_object : Promise contracts.new_object
      (λ κs a r l. (r ≡ object_shown (object_label_of (lent a) (fourth a).now (fifth a).now (sixth a) (seventh a)))
      × (l ≡ (tt, (tt, (tt, (tt, (tt, (tt, (tt, tt)))))))))
  -- the very part of the lent labels, as a host in Rattle gets it: its bytes, and where it points
  pub label_part : Promise others.label_part
      (λ κs a r l. (r.now ≡ label_given (lent a) (fourth a)) × PartFrom r (first a) (label_from (label_answer (lent a) (fourth a)) (fourth a))
      × (l ≡ (tt, (tt, (tt, (tt, tt))))))

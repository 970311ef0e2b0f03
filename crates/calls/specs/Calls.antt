-- A list of calls of the functions of crates/balqirven, which crates/balqirven_c exports with the same clauses to a C or Rust program, as their caller knows it. Nothing here says what a
-- function does: that comes from each function's own clauses, by specs/Contracts. Assumes nothing.
use Rattle.std.specs.Prelude.{ℕ, ◌≡◌, true, cond, List, [], ◌∷◌, length, take, drop}
use Rattle.refusals.specs.Refusals.{plain}
use Rattle.alphabet.specs.Alphabet.{line_limit}
use Rattle.store.specs.Layout.{Store, store, undamaged_of}
use Rattle.reports.specs.declared.Loader.{Loader}
use Rattle.reports.specs.declared.Report.{Report}
use Rattle.reports.specs.Report.{fresh_loader}
use Rattle.load.specs.Loader.{Load, load}
use Rattle.answers.specs.declared.Written.{Written}
use Rattle.answers.specs.declared.Counted.{Counted}
use Rattle.answers.specs.declared.Taken.{Taken}
use Rattle.answers.specs.declared.Finished.{Finished}
use Rattle.answers.specs.declared.Part.{Part}
use Rattle.lists.specs.Called.{Called, first, second, third, fourth, fifth, sixth, seventh, lent, lent_mut, left, loading, loaded}
use Rattle.lists.specs.Reader as r
use Rattle.lists.specs.Reader.{Totals, Ask, Write, Call, Reply}
use Rattle.calls.specs.Contracts as contracts

-- ---- what a list begins with: a table that is undamaged, a line of full size, and a fresh loader. The state between two calls is a `Load`: the three
-- slices of the tables, that of the line, and the loader

pub record Fresh (s : Load) : Type 0 where
  pub undamaged : undamaged_of s.store ≡ true
  pub line : length s.line ≡ line_limit
  pub loader : s.loader ≡ fresh_loader

-- ---- what a host reads of an answer: where it is refused the number and the place (0 where the answer has none), and otherwise the values

abbrev pub taken_reply : Taken → Reply
taken_reply a = cond a.refused (r.refusal (plain a.number)) r.done

abbrev pub totals_of : Report → Totals
totals_of a = record { lines = a.lines; accepted = a.accepted; skipped = a.skipped; refused = a.refused; first = a.first; reason = a.reason; place = a.place; bringup = a.bringup }

abbrev pub finished_reply : Finished → Reply
finished_reply a = cond a.refused (r.refusal (plain a.number)) (r.report (totals_of a.report))

abbrev pub written_reply : Written → Reply
written_reply a = cond a.refused (r.refusal (record { number = a.number; place = a.place })) r.done

abbrev pub counted_reply : Counted → Reply
counted_reply a = cond a.refused (r.refusal (record { number = a.number; place = a.place })) (r.count a.count)

-- a label by its number is what stands there in the lent labels
abbrev pub part_reply : Part → List ℕ → Reply
part_reply a labels = cond a.refused (r.refusal (plain a.number)) (r.label_is (take a.length (drop a.start labels)))

-- ---- a call on the tables alone, as a host makes it: with the tables that it is lent, what it is asked, and what is read of its answer. What is lent
-- by `&` has no last value, and is as it was

pub data Answers : Store → Ask → Reply → Type 0 where
  a_question : (k : Called contracts.question) →
      Answers (lent k.args) (r.question (fourth k.args).now (fifth k.args).now (sixth k.args).now (seventh k.args))
      (r.answered k.result)
  a_look_up : (k : Called contracts.by_label) →
      Answers (lent k.args) (r.by_label (fourth k.args).now) (r.mapped k.result)
  a_search : (k : Called contracts.by_level) →
      Answers (lent k.args) (r.by_level (fourth k.args) (fifth k.args)) (r.lowest k.result)
  a_listing : (k : Called contracts.list_rule) →
      Answers (lent k.args) (r.list_a_rule (fourth k.args) (fifth k.args).now) (r.listed k.result (fifth k.last))
  a_label : (k : Called contracts.label) →
      Answers (lent k.args) (r.label (fourth k.args)) (part_reply k.result (first k.args).now)
  a_check : (k : Called contracts.label_check) →
      Answers (lent k.args) (r.label_check (fourth k.args)) (written_reply k.result)
  an_option : (k : Called contracts.write_option) →
      Answers (lent k.args) (r.write_option (fourth k.args).now (fifth k.args).now) (r.listed k.result (fifth k.last))
  a_peer : (k : Called contracts.read_option) →
      Answers (lent k.args) (r.read_option (fourth k.args).now) (r.peer k.result)
  a_new_object : (k : Called contracts.new_object) →
      Answers (lent k.args) (r.new_object (fourth k.args).now (fifth k.args).now (sixth k.args) (seventh k.args))
      (r.labelled k.result)

-- and of a single write also the tables that it leaves
pub data Writes : Store → Write → Reply → Store → Type 0 where
  a_change : (k : Called contracts.change) →
      Writes (lent_mut k.args) (r.change (fourth k.args).now) (written_reply k.result) (left k.last)
  a_revoke : (k : Called contracts.revoke) →
      Writes (store (first k.args).now (second k.args).now (third k.args).now) (r.revoke (fourth k.args).now) (counted_reply k.result)
      (store (first k.args).now (second k.last) (third k.args).now)
  an_onlycap : (k : Called contracts.onlycap) →
      Writes (lent_mut k.args) (r.onlycap (fourth k.args).now) (written_reply k.result) (left k.last)
  a_mapping : (k : Called contracts.mapping) →
      Writes (lent_mut k.args) (r.mapping (fourth k.args).now) (written_reply k.result) (left k.last)

-- ---- every list of calls, each made from the state that the one before it left. (Each case is read from its last line: from this state, with this call
-- and this reply in front; the line above it says from which state the rest of the list goes on.) A call on the tables alone is made beside a line under
-- way, whose bytes and loader stay as they are

pub data Runs : Load → List Call → List Reply → Load → Type 0 where
  none : {s : Load} → Runs s [] [] s
  a_piece : (k : Called contracts.piece) {s : Load} {cs : List Call} {rs : List Reply} →
      Runs (loaded k.last k.result.loader) cs rs s →
      Runs (loading k.args) (r.piece (sixth k.args).now ∷ cs) (taken_reply k.result ∷ rs) s
  an_end : (k : Called contracts.end) {s : Load} {cs : List Call} {rs : List Reply} →
      Runs (loaded k.last k.result.loader) cs rs s →
      Runs (loading k.args) (r.end_call ∷ cs) (finished_reply k.result ∷ rs) s
  an_ask : {st : Store} {q : Ask} {reply : Reply} {line : List ℕ} {loader : Loader} {s : Load} {cs : List Call} {rs : List Reply} →
      Answers st q reply →
      Runs (load st line loader) cs rs s →
      Runs (load st line loader) (r.ask q ∷ cs) (reply ∷ rs) s
  a_write : {st st' : Store} {w : Write} {reply : Reply} {line : List ℕ} {loader : Loader} {s : Load} {cs : List Call} {rs : List Reply} →
      Writes st w reply st' →
      Runs (load st' line loader) cs rs s →
      Runs (load st line loader) (r.write w ∷ cs) (reply ∷ rs) s

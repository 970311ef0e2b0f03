-- 01, Rule text: the plain reader, 01's own term for the reference model of the loader. It holds the tables, a kept line of any length and the report's
-- true numbers. It is fed only each call's kind and arguments. Nothing here names a lent slice of the state or a limit of storage, but for those of 01's
-- tables and lines. Demand 3 speaks of pieces, end calls and questions; here are the other calls too, a single write of which acts at once. Assumes
-- nothing.
use Rattle.std.specs.Prelude.{ℕ, ◌+◌, min, Bool, cond, length, ltb, eqb, Result, Ok, Err}
use mathlib.Core.List.{List, [], ◌∷◌, ◌++◌, foldl, map}
use Rattle.refusals.specs.Refusals.{AsTold, told, number_of, place_of, no_such_number}
use Rattle.refusals.specs.declared.Refusal.{Refusal}
use Rattle.alphabet.specs.Alphabet.{is_newline}
use Rattle.reports.specs.Report.{count_limit}
use Rattle.numbers.specs.declared.CategorySet.{CategorySet}
use Rattle.store.specs.Table.{Table, label_numbered}
use Rattle.lines.specs.Lines.{rule_of, bring_up_in}
use Rattle.writes.specs.Writes.{judged, change_write}
use Rattle.store.specs.Judged.{Judged, is_skipped, is_refused, is_accepted, table_after, done_of}
use Rattle.revoke.specs.Revoke.{revoke_write, revoke_count, count_of}
use Rattle.onlycap.specs.Onlycap.{onlycap_write}
use Rattle.cipso.specs.Cipso.{mapping_write}
use Rattle.lookups.specs.Lookups.{label_lookup, level_lookup}
use Rattle.listing.specs.Listing.{list_rule, list_rule_out}
use Rattle.output.specs.Output.{text_answer, text_out}
use Rattle.cipso_option.specs.Option.{label_option, peer_of, peer_shown}
use Rattle.cipso_option.specs.declared.PeerLabel.{PeerLabel}
use Rattle.access.specs.Access.{answer}
use Rattle.new_object.specs.NewObject.{object_label}
use Rattle.answers.specs.Answers.{shown}
use Rattle.answers.specs.declared.Shown.{Shown}
use Rattle.answers.specs.Answers.{lookup_shown, search_shown, output_shown, object_shown}
use Rattle.answers.specs.declared.Mapped.{Mapped}
use Rattle.answers.specs.declared.Lowest.{Lowest}
use Rattle.answers.specs.declared.Length.{Length}
use Rattle.answers.specs.declared.Labelled.{Labelled}

-- the report's numbers, as they are; `first`, `reason` and `place` are the number (from 1), the reason and the place of the first refused line, 0 where
-- there is none; the place is 0, too, where the reason is not 3 (02, Three); `bringup` is how many accepted lines held b (02, Six)
pub record Totals : Type 0 where
  pub lines : ℕ
  pub accepted : ℕ
  pub skipped : ℕ
  pub refused : ℕ
  pub first : ℕ
  pub reason : ℕ
  pub place : ℕ
  pub bringup : ℕ

abbrev pub zeros : Totals
zeros = record { lines = 0; accepted = 0; skipped = 0; refused = 0; first = 0; reason = 0; place = 0; bringup = 0 }

-- a line more, with whether it held b: every line counts; the first refused one is kept; an accepted one that held b is also one more of `bringup`
abbrev pub counted : Totals → Bool → Judged → Totals
counted c held is_skipped =
    record {
      lines = c.lines + 1;
      accepted = c.accepted;
      skipped = c.skipped + 1;
      refused = c.refused;
      first = c.first;
      reason = c.reason;
      place = c.place;
      bringup = c.bringup;
    }
counted c held (is_accepted t) =
    record {
      lines = c.lines + 1;
      accepted = c.accepted + 1;
      skipped = c.skipped;
      refused = c.refused;
      first = c.first;
      reason = c.reason;
      place = c.place;
      bringup = cond held (c.bringup + 1) c.bringup;
    }
counted c held (is_refused r) =
    record {
      lines = c.lines + 1;
      accepted = c.accepted;
      skipped = c.skipped;
      refused = c.refused + 1;
      first = cond (eqb c.refused 0) (c.lines + 1) c.first;
      reason = cond (eqb c.refused 0) (number_of r) c.reason;
      place = cond (eqb c.refused 0) (place_of r) c.place;
      bringup = c.bringup;
    }

pub record Reader : Type 0 where
  pub table : Table
  pub kept : List ℕ
  pub totals : Totals

-- a fresh loader has an empty kept line and a report of zeros
abbrev pub start_on : Table → Reader
start_on t = record { table = t; kept = []; totals = zeros }

-- a line that ends is counted and judged by its bytes and these tables, and the next begins empty
unfoldable pub end_line : Reader → Reader
end_line p =
    record {
      table = table_after p.table (judged p.table (rule_of p.kept));
      kept = [];
      totals = counted p.totals (bring_up_in p.kept) (judged p.table (rule_of p.kept));
    }

-- piece: each byte but a newline joins the kept line; a newline ends it
unfoldable pub take_byte : Reader → ℕ → Reader
take_byte p b = cond (is_newline b) (end_line p) (record { table = p.table; kept = p.kept ++ (b ∷ []); totals = p.totals })

abbrev pub take_piece : Reader → List ℕ → Reader
take_piece p text = foldl take_byte p text

-- end call: ends a kept line that has a byte
unfoldable pub finish : Reader → Reader
finish p = cond (ltb 0 (length p.kept)) (end_line p) p

-- each number of a report is the true one or 4,294,967,295, whichever is smaller; a reason and a place are what they are
unfoldable pub limited : ℕ → ℕ
limited n = min n count_limit

abbrev pub limited_totals : Totals → Totals
limited_totals c =
    record {
      lines = limited c.lines;
      accepted = limited c.accepted;
      skipped = limited c.skipped;
      refused = limited c.refused;
      first = limited c.first;
      reason = c.reason;
      place = c.place;
      bringup = limited c.bringup;
    }

-- ---- the calls, and what is answered

-- 01, Single writes: each acts at once, also while a line is under way
pub data Write : Type 0 where
  change : List ℕ → Write
  revoke : List ℕ → Write
  onlycap : List ℕ → Write
  mapping : List ℕ → Write

-- the calls that write no table: a question (subject, object, request, and whether the asker has the capability), a mapping by label, by level and set,
-- a rule by its number with the lent buffer, a label by its number, and the call beside it; the packet option of a label with the lent buffer, and the label
-- of an option; the label of a new object (creator, folder, whether the folder transmutes, and whether the new object is a folder)
pub data Ask : Type 0 where
  question : List ℕ → List ℕ → List ℕ → Bool → Ask
  by_label : List ℕ → Ask
  by_level : ℕ → CategorySet → Ask
  list_a_rule : ℕ → List ℕ → Ask
  label : ℕ → Ask
  label_check : ℕ → Ask
  write_option : List ℕ → List ℕ → Ask
  read_option : List ℕ → Ask
  new_object : List ℕ → List ℕ → Bool → Bool → Ask

pub data Call : Type 0 where
  piece : List ℕ → Call
  end_call : Call
  ask : Ask → Call
  write : Write → Call

-- what a host reads of an answer; where a call has no other form for it, a refusal is its number and its place
pub data Reply : Type 0 where
  done : Reply
  refusal : AsTold → Reply
  report : Totals → Reply
  count : ℕ → Reply
  answered : Shown → Reply
  mapped : Mapped → Reply
  lowest : Lowest → Reply
  listed : Length → List ℕ → Reply
  peer : PeerLabel → Reply
  labelled : Labelled → Reply
  label_is : List ℕ → Reply

abbrev pub done_reply : Result (Unit {0}) Refusal → Reply
done_reply (Ok tt) = done
done_reply (Err n) = refusal (told n)

abbrev pub count_reply : Result ℕ Refusal → Reply
count_reply (Ok k) = count k
count_reply (Err n) = refusal (told n)

-- what becomes of a single write
abbrev pub judge_write : Write → Table → Judged
judge_write (change text) = change_write text
judge_write (revoke l) = revoke_write l
judge_write (onlycap text) = onlycap_write text
judge_write (mapping text) = mapping_write text

-- the tables after it, and its answer
abbrev pub after_write : Table → Write → Table
after_write t w = table_after t (judge_write w t)

abbrev pub write_says : Table → Write → Reply
write_says t (change text) = done_reply (done_of (change_write text t))
write_says t (revoke l) = count_reply (count_of (revoke_count l t) (revoke_write l t))
write_says t (onlycap text) = done_reply (done_of (onlycap_write text t))
write_says t (mapping text) = done_reply (done_of (mapping_write text t))

-- a call that writes no table
abbrev pub ask_says : Table → Ask → Reply
ask_says t (question s o r capable) = answered (shown (answer t s o r capable))
ask_says t (by_label l) = mapped (lookup_shown (label_lookup t l))
ask_says t (by_level level set) = lowest (search_shown (level_lookup t level set))
ask_says t (list_a_rule k out) = listed (output_shown (list_rule t k out)) (list_rule_out t k out)
ask_says t (label k) = cond (ltb k (length t.labels)) (label_is (label_numbered t k)) (refusal (told no_such_number))
ask_says t (label_check k) = cond (ltb k (length t.labels)) done (refusal (told no_such_number))
ask_says t (write_option l out) = listed (output_shown (text_answer (label_option t l) out)) (text_out (label_option t l) out)
ask_says t (read_option option) = peer (peer_shown (peer_of t option))
ask_says t (new_object creator folder folder_transmutes is_folder) = labelled (object_shown (object_label t creator folder folder_transmutes is_folder))

-- a line under way stays under way: it is judged at its end, against the table as it then is
abbrev pub write_on : Reader → Write → Reader
write_on p w = record { table = after_write p.table w; kept = p.kept; totals = p.totals }

abbrev pub after : Reader → Call → Reader
after p (piece text) = take_piece p text
after p end_call = start_on (finish p).table
after p (ask q) = p
after p (write w) = write_on p w

abbrev pub says : Reader → Call → Reply
says p (piece text) = done
says p end_call = report (limited_totals (finish p).totals)
says p (ask q) = ask_says p.table q
says p (write w) = write_says p.table w

abbrev pub after_all : Reader → List Call → Reader
after_all p cs = foldl after p cs

abbrev pub says_all : Reader → List Call → List Reply
says_all p [] = []
says_all p (c ∷ cs) = says p c ∷ says_all (after p c) cs

-- ---- a list of calls with the cuts and the questions forgotten: its bytes, end calls and single writes, in order

pub data Event : Type 0 where
  byte : ℕ → Event
  stop : Event
  wrote : Write → Event

abbrev pub events : List Call → List Event
events [] = []
events (piece text ∷ cs) = map byte text ++ events cs
events (end_call ∷ cs) = stop ∷ events cs
events (ask q ∷ cs) = events cs
events (write w ∷ cs) = wrote w ∷ events cs

-- the reports among the replies
abbrev pub reports : List Reply → List Reply
reports [] = []
reports (done ∷ rs) = reports rs
reports (refusal n ∷ rs) = reports rs
reports (report c ∷ rs) = report c ∷ reports rs
reports (count k ∷ rs) = reports rs
reports (answered a ∷ rs) = reports rs
reports (mapped m ∷ rs) = reports rs
reports (lowest l ∷ rs) = reports rs
reports (listed n out ∷ rs) = reports rs
reports (peer p ∷ rs) = reports rs
reports (labelled l ∷ rs) = reports rs
reports (label_is l ∷ rs) = reports rs

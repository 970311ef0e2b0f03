-- What each contract's definition does to a state that stands for a plain reader; and the plain reader over a list's events. Assumes nothing.
use Prim.Native.Nat.{ℕ}
use mathlib.Core.Path.{◌≡◌, refl, sym, ap, ◌∙◌, subst}
use mathlib.Core.Bool.{Bool, true, false, cond}
use mathlib.Core.List.{List, [], ◌∷◌, ◌++◌, foldl, map}
use lib.Dec.{ltb}
use lib.ListN.{length}
use Rattle.refusals.specs.Refusals.{told, plain, number_of, no_such_number}
use Rattle.store.specs.Table.{Table, label_numbered}
use Rattle.std.proofs.Common.{Result, Ok, Err}
use Rattle.refusals.specs.declared.Refusal.{Refusal}
use Rattle.reports.specs.declared.Loader.{Loader}
use Rattle.writes.specs.Writes.{change_write}
use Rattle.store.specs.Judged.{done_of}
use Rattle.revoke.specs.Revoke.{revoke_write, revoke_count, count_of}
use Rattle.onlycap.specs.Onlycap.{onlycap_write}
use Rattle.cipso.specs.Cipso.{mapping_write}
use Rattle.access.specs.Access.{answer, question_of}
use Rattle.reports.specs.declared.Report.{Report}
use Rattle.reports.specs.Report.{fresh_loader}
use Rattle.load.specs.Loader.{Load, load, step_end, piece_answer, piece_after, end_answer, end_after}
use Rattle.lists.specs.Reader.{Totals, Reader, start_on, take_byte, take_piece, finish, limited_totals, Write, change, revoke, onlycap, mapping, Ask, question, by_label, by_level, list_a_rule, label, label_check, write_option, read_option, new_object, Call, piece, end_call, ask, write, Reply, done, refusal, report, label_is, done_reply, count_reply, write_says, ask_says, write_on, after, says, after_all, says_all, Event, byte, stop, wrote, events, reports}
use Rattle.load.proofs.Laws.{is-ready}
use Rattle.lists.proofs.Follows.{SameTotals, Holds, piece_follows, finish_follows, fresh_holds}

-- what a caller in Rattle makes of an answer
abbrev pub fed_reply : Result Loader Refusal → Reply
fed_reply (Ok l) = done
fed_reply (Err r) = refusal (plain (number_of r))

abbrev pub totals_of : Report → Totals
totals_of r = record { lines = r.lines; accepted = r.accepted; skipped = r.skipped; refused = r.refused; first = r.first; reason = r.reason; place = r.place; bringup = r.bringup }

abbrev pub end-reply : Result (Report × Loader) Refusal → Reply
end-reply (Ok (r, l)) = report (totals_of r)
end-reply (Err r) = refusal (plain (number_of r))

-- what a call keeps: the state it leaves stands for the plain reader, and the reply is the plain reader's
pub record Follows (s : Load) (r : Reply) (p : Reader) (q : Reply) : Type 0 where
  pub holds : Holds s p
  pub reply : r ≡ q

-- ---- each contract, at a state that stands for a plain reader

pub piece_law :
    (text : List ℕ) {s s' : Load} {r : Result Loader Refusal} (p : Reader) →
    r ≡ piece_answer s text →
    s' ≡ piece_after s text →
    Holds s p →
    Follows s' (fed_reply r) (take_piece p text) done
unfolding piece_answer piece_after
piece_law text {s} p answer-is after_is h =
    let z = is-ready s h.ready in
    let a = rw z at answer-is in
    let b = rw z at after_is in
    record { holds = subst (λ (x : Load). Holds x (take_piece p text)) (sym b) (piece_follows s p text h); reply = ap fed_reply a }

same-report : (l : Report) (c : Totals) → SameTotals l c → totals_of l ≡ limited_totals c
same-report l c s = rw (s.lines, s.accepted, s.skipped, s.refused, s.first, s.reason, s.place, s.bringup)

pub end_law :
    {s s' : Load} {r : Result (Report × Loader) Refusal} (p : Reader) →
    r ≡ end_answer s →
    s' ≡ end_after s →
    Holds s p →
    Follows s' (end-reply r) (after p end_call) (says p end_call)
unfolding end_answer end_after
end_law {s} p answer-is after_is h =
    let z = is-ready s h.ready in
    let a = rw z at answer-is in
    let b = rw z at after_is in
    let g = finish_follows s p h in
    let fresh = fresh_holds (step_end s).store (step_end s).line g.ready.undamaged g.ready.line in
    record {
      holds = subst (λ (x : Load). Holds x (start_on (finish p).table)) (sym b) (subst (λ (t : Table). Holds (load (step_end s).store (step_end s).line fresh_loader) (start_on t)) g.table fresh);
      reply = ap end-reply a ∙ ap report (same-report (step_end s).loader.report (finish p).totals g.totals);
    }

pub question_law : (s : Load) (p : Reader) (x o r : List ℕ) (capable : Bool) → Holds s p → question_of s.store x o r capable ≡ answer p.table x o r capable
unfolding question_of
question_law s p x o r capable h = rw (h.ready.undamaged, h.table)

-- ---- the cuts and the questions forgotten

-- the plain reader over the events
abbrev pub on : Reader → Event → Reader
on p (byte b) = take_byte p b
on p stop = start_on (finish p).table
on p (wrote w) = write_on p w

on-bytes : (p : Reader) (text : List ℕ) (es : List Event) → foldl on p (map byte text ++ es) ≡ foldl on (take_piece p text) es
on-bytes p [] es = refl
on-bytes p (b ∷ bs) es = on-bytes (take_byte p b) bs es

pub after-events : (p : Reader) (cs : List Call) → after_all p cs ≡ foldl on p (events cs)
after-events p [] = refl
after-events p (piece text ∷ cs) = after-events (take_piece p text) cs ∙ sym (on-bytes p text (events cs))
after-events p (end_call ∷ cs) = after-events (start_on (finish p).table) cs
after-events p (ask q ∷ cs) = after-events p cs
after-events p (write w ∷ cs) = after-events (write_on p w) cs

abbrev pub reports_on : Reader → List Event → List Reply
reports_on p [] = []
reports_on p (byte b ∷ es) = reports_on (take_byte p b) es
reports_on p (stop ∷ es) = report (limited_totals (finish p).totals) ∷ reports_on (start_on (finish p).table) es
reports_on p (wrote w ∷ es) = reports_on (write_on p w) es

reports-bytes : (p : Reader) (text : List ℕ) (es : List Event) → reports_on p (map byte text ++ es) ≡ reports_on (take_piece p text) es
reports-bytes p [] es = refl
reports-bytes p (b ∷ bs) es = reports-bytes (take_byte p b) bs es

-- no other call reports
done-reports : (a : Result (Unit {0}) Refusal) (rs : List Reply) → reports (done_reply a ∷ rs) ≡ reports rs
done-reports (Ok tt) rs = refl
done-reports (Err n) rs = refl

count-reports : (a : Result ℕ Refusal) (rs : List Reply) → reports (count_reply a ∷ rs) ≡ reports rs
count-reports (Ok k) rs = refl
count-reports (Err n) rs = refl

write-reports : (t : Table) (w : Write) (rs : List Reply) → reports (write_says t w ∷ rs) ≡ reports rs
write-reports t (change text) rs = done-reports (done_of (change_write text t)) rs
write-reports t (revoke l) rs = count-reports (count_of (revoke_count l t) (revoke_write l t)) rs
write-reports t (onlycap text) rs = done-reports (done_of (onlycap_write text t)) rs
write-reports t (mapping text) rs = done-reports (done_of (mapping_write text t)) rs

ask-reports : (t : Table) (q : Ask) (rs : List Reply) → reports (ask_says t q ∷ rs) ≡ reports rs
ask-reports t (question x o r capable) rs = refl
ask-reports t (by_label l) rs = refl
ask-reports t (by_level level set) rs = refl
ask-reports t (list_a_rule k out) rs = refl
ask-reports t (write_option l out) rs = refl
ask-reports t (read_option option) rs = refl
ask-reports t (new_object creator folder folder_transmutes is_folder) rs = refl
ask-reports t (label k) rs = by-test (ltb k (length t.labels))
  where
    by-test : (b : Bool) → reports (cond b (label_is (label_numbered t k)) (refusal (told no_such_number)) ∷ rs) ≡ reports rs
    by-test true = refl
    by-test false = refl
ask-reports t (label_check k) rs = by-test (ltb k (length t.labels))
  where
    by-test : (b : Bool) → reports (cond b done (refusal (told no_such_number)) ∷ rs) ≡ reports rs
    by-test true = refl
    by-test false = refl

pub reports-events : (p : Reader) (cs : List Call) → reports (says_all p cs) ≡ reports_on p (events cs)
reports-events p [] = refl
reports-events p (piece text ∷ cs) = reports-events (take_piece p text) cs ∙ sym (reports-bytes p text (events cs))
reports-events p (end_call ∷ cs) = ap (λ (rs : List Reply). report (limited_totals (finish p).totals) ∷ rs) (reports-events (start_on (finish p).table) cs)
reports-events p (ask q ∷ cs) = ask-reports p.table q (says_all p cs) ∙ reports-events p cs
reports-events p (write w ∷ cs) = write-reports p.table w (says_all (write_on p w) cs) ∙ reports-events (write_on p w) cs

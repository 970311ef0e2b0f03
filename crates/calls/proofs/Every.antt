-- Two things that the list of calls rests on. The compiled routine of each function that a list calls is known to its callers at the very `Asked` and `Learnt` that
-- specs/Calls is made of: what specs/Contracts reads off its clauses is what Rattle reads off them. And from every state every list of calls has a run, so that demand 3 does not speak of nothing. Assumes nothing.
use Prim.Native.Nat.{ℕ, ◌*◌, ◌+◌, ◌<◌}
use native.Mathlib.Omega.{arith}
use mathlib.Core.Path.{◌≡◌, refl, sym, ap, ◌∙◌}
use mathlib.Core.Bool.{Bool, true, false, cond}
use mathlib.Core.List.{List, [], ◌∷◌}
use lib.ListN.{length, take, drop}
use Rattle.refusals.specs.Refusals.{damaged}
use Rattle.std.specs.Borrow.{Bor, MutBor}
use prog.Routine.{Env, Callee}
use prog.Wired.{Code, Wired}
use borrow.Fn.Kinds.{ParamKind, ResultKind, In, Out}
use borrow.Fn.Run.{Over}
use borrow.Fn.Plain.{Known}
use borrow.Fn.World.{World}
use Rattle.numbers.specs.declared.CategorySet.{CategorySet}
use Rattle.balqirven.proofs.bq_piece.Kinds as piece-kinds
use Rattle.balqirven.proofs.bq_piece.Reads as piece-reads
use Rattle.balqirven.proofs.bq_piece.Symbol as piece-symbol
use Rattle.balqirven.proofs.bq_piece.Met as piece-met
use Rattle.balqirven.proofs.bq_end.Kinds as end-kinds
use Rattle.balqirven.proofs.bq_end.Reads as end_reads
use Rattle.balqirven.proofs.bq_end.Symbol as end-symbol
use Rattle.balqirven.proofs.bq_end.Met as end-met
use Rattle.balqirven.proofs.bq_question.Kinds as question-kinds
use Rattle.balqirven.proofs.bq_question.Reads as question-reads
use Rattle.balqirven.proofs.bq_question.Symbol as question-symbol
use Rattle.balqirven.proofs.bq_question.Met as question-met
use Rattle.balqirven.proofs.bq_change.Kinds as change-kinds
use Rattle.balqirven.proofs.bq_change.Reads as change-reads
use Rattle.balqirven.proofs.bq_change.Symbol as change-symbol
use Rattle.balqirven.proofs.bq_change.Met as change-met
use Rattle.balqirven.proofs.bq_revoke.Kinds as revoke-kinds
use Rattle.balqirven.proofs.bq_revoke.Reads as revoke-reads
use Rattle.balqirven.proofs.bq_revoke.Symbol as revoke-symbol
use Rattle.balqirven.proofs.bq_revoke.Met as revoke-met
use Rattle.balqirven.proofs.bq_onlycap.Kinds as onlycap-kinds
use Rattle.balqirven.proofs.bq_onlycap.Reads as onlycap-reads
use Rattle.balqirven.proofs.bq_onlycap.Symbol as onlycap-symbol
use Rattle.balqirven.proofs.bq_onlycap.Met as onlycap-met
use Rattle.balqirven.proofs.bq_mapping.Kinds as mapping-kinds
use Rattle.balqirven.proofs.bq_mapping.Reads as mapping-reads
use Rattle.balqirven.proofs.bq_mapping.Symbol as mapping-symbol
use Rattle.balqirven.proofs.bq_mapping.Met as mapping-met
use Rattle.balqirven.proofs.bq_by_label.Kinds as by-label-kinds
use Rattle.balqirven.proofs.bq_by_label.Reads as by-label-reads
use Rattle.balqirven.proofs.bq_by_label.Symbol as by-label-symbol
use Rattle.balqirven.proofs.bq_by_label.Met as by-label-met
use Rattle.balqirven.proofs.bq_by_level.Kinds as by-level-kinds
use Rattle.balqirven.proofs.bq_by_level.Reads as by-level-reads
use Rattle.balqirven.proofs.bq_by_level.Symbol as by-level-symbol
use Rattle.balqirven.proofs.bq_by_level.Met as by-level-met
use Rattle.balqirven.proofs.bq_list_rule.Kinds as list-rule-kinds
use Rattle.balqirven.proofs.bq_list_rule.Reads as list-rule-reads
use Rattle.balqirven.proofs.bq_list_rule.Symbol as list-rule-symbol
use Rattle.balqirven.proofs.bq_list_rule.Met as list-rule-met
use Rattle.balqirven.proofs.bq_label_check.Kinds as label-check-kinds
use Rattle.balqirven.proofs.bq_label_check.Reads as label-check-reads
use Rattle.balqirven.proofs.bq_label_check.Symbol as label-check-symbol
use Rattle.balqirven.proofs.bq_label_check.Met as label-check-met
use Rattle.balqirven.proofs.bq_write_option.Kinds as write-option-kinds
use Rattle.balqirven.proofs.bq_write_option.Reads as write-option-reads
use Rattle.balqirven.proofs.bq_write_option.Symbol as write-option-symbol
use Rattle.balqirven.proofs.bq_write_option.Met as write-option-met
use Rattle.balqirven.proofs.bq_read_option.Kinds as read-option-kinds
use Rattle.balqirven.proofs.bq_read_option.Reads as read-option-reads
use Rattle.balqirven.proofs.bq_read_option.Symbol as read-option-symbol
use Rattle.balqirven.proofs.bq_read_option.Met as read-option-met
use Rattle.balqirven.proofs.bq_new_object.Kinds as new-object-kinds
use Rattle.balqirven.proofs.bq_new_object.Reads as new-object-reads
use Rattle.balqirven.proofs.bq_new_object.Symbol as new-object-symbol
use Rattle.balqirven.proofs.bq_new_object.Met as new-object-met
use Rattle.balqirven.proofs.bq_label.Kinds as label-kinds
use Rattle.balqirven.proofs.bq_label.Reads as label-reads
use Rattle.balqirven.proofs.bq_label.Symbol as label-symbol
use Rattle.balqirven.proofs.bq_label.Met as label-met
use Rattle.std.proofs.Common.{Result, Ok, Err}
use Rattle.refusals.specs.declared.Refusal.{Refusal}
use Rattle.store.specs.Layout.{Store}
use Rattle.writes.specs.Writes.{change_answer, change_store}
use Rattle.revoke.specs.Revoke.{revoke_answer, revoke_store}
use Rattle.onlycap.specs.Onlycap.{onlycap_answer, onlycap_store}
use Rattle.cipso.specs.Cipso.{map_answer, map_stored}
use Rattle.lookups.specs.Lookups.{by_label_of, by_level_of}
use Rattle.listing.specs.Listing.{list_answer, list_out, label_given, label_answer}
use Rattle.access.specs.Access.{question_of}
use Rattle.new_object.specs.NewObject.{object_label_of}
use Rattle.cipso_option.specs.Option.{option_answer, option_out, peer_given, peer_shown}
use Rattle.answers.specs.Answers.{shown, object_shown}
use Rattle.reports.specs.declared.Loader.{Loader}
use Rattle.reports.specs.Report.{fresh_loader}
use Rattle.load.specs.Loader.{Load, load, ready, step_piece, step_end, piece_answer, piece_after, end_answer, end_after}
use Rattle.answers.specs.Answers.{write_shown, revoke_shown, piece_shown, end_shown, output_shown, lookup_shown, search_shown, part_shown}
use Rattle.listing.proofs.Laws.{label-done, label_is, label-refused}
use Rattle.balqirven.proofs.Laws.{label-stands}
use Rattle.lists.specs.Called.{Called, Asked, Learnt}
use Rattle.calls.specs.Contracts as contracts
use Rattle.lists.specs.Reader as r
use Rattle.lists.specs.Reader.{Ask, Write, Call, Reply}
use Rattle.calls.specs.Calls.{Answers, Writes, Runs, none, a_piece, an_end, an_ask, a_write, a_question, a_change, a_revoke, an_onlycap, a_mapping, a_look_up, a_search, a_listing, a_label, a_check, an_option, a_peer, a_new_object, taken_reply, finished_reply}

-- ---- the routines

-- what a name means where the function's code is wired, under any name in any environment, is known at P and Q
abbrev pub Real : (n : ℕ) (ps : List (ParamKind n)) (r : ResultKind n) → In n ps → Out n ps r → Callee → Code → Type 2
Real n ps r P Q name code =
    (w : World) →
    Wired w.𝓡.env code →
    (γ : Env) (k : Callee) →
    γ k ≡ w.𝓡.env name →
    Known w.𝓛 (Over w.𝓛 w.𝓜 w.𝓡 γ) n ps r P Q k

pub real_piece : Real 5 piece-kinds.ps piece-kinds.r (Asked contracts.piece) (Learnt contracts.piece) piece-symbol.name piece-symbol.code
real_piece w wired γ k e = piece-reads.known w γ k (w.𝓡.env piece-symbol.name) e (piece-met.met w.𝓤 w.𝓛 w.𝓜 w.𝓡 wired)

pub real_end : Real 4 end-kinds.ps end-kinds.r (Asked contracts.end) (Learnt contracts.end) end-symbol.name end-symbol.code
real_end w wired γ k e = end_reads.known w γ k (w.𝓡.env end-symbol.name) e (end-met.met w.𝓤 w.𝓛 w.𝓜 w.𝓡 wired)

pub real_question : Real 6 question-kinds.ps question-kinds.r (Asked contracts.question) (Learnt contracts.question) question-symbol.name question-symbol.code
real_question w wired γ k e = question-reads.known w γ k (w.𝓡.env question-symbol.name) e (question-met.met w.𝓤 w.𝓛 w.𝓜 w.𝓡 wired)

pub real_change : Real 4 change-kinds.ps change-kinds.r (Asked contracts.change) (Learnt contracts.change) change-symbol.name change-symbol.code
real_change w wired γ k e = change-reads.known w γ k (w.𝓡.env change-symbol.name) e (change-met.met w.𝓤 w.𝓛 w.𝓜 w.𝓡 wired)

pub real_revoke : Real 4 revoke-kinds.ps revoke-kinds.r (Asked contracts.revoke) (Learnt contracts.revoke) revoke-symbol.name revoke-symbol.code
real_revoke w wired γ k e = revoke-reads.known w γ k (w.𝓡.env revoke-symbol.name) e (revoke-met.met w.𝓤 w.𝓛 w.𝓜 w.𝓡 wired)

pub real_onlycap : Real 4 onlycap-kinds.ps onlycap-kinds.r (Asked contracts.onlycap) (Learnt contracts.onlycap) onlycap-symbol.name onlycap-symbol.code
real_onlycap w wired γ k e = onlycap-reads.known w γ k (w.𝓡.env onlycap-symbol.name) e (onlycap-met.met w.𝓤 w.𝓛 w.𝓜 w.𝓡 wired)

pub real_mapping : Real 4 mapping-kinds.ps mapping-kinds.r (Asked contracts.mapping) (Learnt contracts.mapping) mapping-symbol.name mapping-symbol.code
real_mapping w wired γ k e = mapping-reads.known w γ k (w.𝓡.env mapping-symbol.name) e (mapping-met.met w.𝓤 w.𝓛 w.𝓜 w.𝓡 wired)

pub real_by-label : Real 4 by-label-kinds.ps by-label-kinds.r (Asked contracts.by_label) (Learnt contracts.by_label) by-label-symbol.name by-label-symbol.code
real_by-label w wired γ k e = by-label-reads.known w γ k (w.𝓡.env by-label-symbol.name) e (by-label-met.met w.𝓤 w.𝓛 w.𝓜 w.𝓡 wired)

pub real_by-level : Real 3 by-level-kinds.ps by-level-kinds.r (Asked contracts.by_level) (Learnt contracts.by_level) by-level-symbol.name by-level-symbol.code
real_by-level w wired γ k e = by-level-reads.known w γ k (w.𝓡.env by-level-symbol.name) e (by-level-met.met w.𝓤 w.𝓛 w.𝓜 w.𝓡 wired)

pub real_list_rule : Real 4 list-rule-kinds.ps list-rule-kinds.r (Asked contracts.list_rule) (Learnt contracts.list_rule) list-rule-symbol.name list-rule-symbol.code
real_list_rule w wired γ k e = list-rule-reads.known w γ k (w.𝓡.env list-rule-symbol.name) e (list-rule-met.met w.𝓤 w.𝓛 w.𝓜 w.𝓡 wired)

pub real_label_check : Real 3 label-check-kinds.ps label-check-kinds.r (Asked contracts.label_check) (Learnt contracts.label_check) label-check-symbol.name label-check-symbol.code
real_label_check w wired γ k e = label-check-reads.known w γ k (w.𝓡.env label-check-symbol.name) e (label-check-met.met w.𝓤 w.𝓛 w.𝓜 w.𝓡 wired)

pub real_write_option : Real 5 write-option-kinds.ps write-option-kinds.r (Asked contracts.write_option) (Learnt contracts.write_option) write-option-symbol.name write-option-symbol.code
real_write_option w wired γ k e = write-option-reads.known w γ k (w.𝓡.env write-option-symbol.name) e (write-option-met.met w.𝓤 w.𝓛 w.𝓜 w.𝓡 wired)

pub real_read_option : Real 4 read-option-kinds.ps read-option-kinds.r (Asked contracts.read_option) (Learnt contracts.read_option) read-option-symbol.name read-option-symbol.code
real_read_option w wired γ k e = read-option-reads.known w γ k (w.𝓡.env read-option-symbol.name) e (read-option-met.met w.𝓤 w.𝓛 w.𝓜 w.𝓡 wired)

pub real_new-object : Real 5 new-object-kinds.ps new-object-kinds.r (Asked contracts.new_object) (Learnt contracts.new_object) new-object-symbol.name new-object-symbol.code
real_new-object w wired γ k e = new-object-reads.known w γ k (w.𝓡.env new-object-symbol.name) e (new-object-met.met w.𝓤 w.𝓛 w.𝓜 w.𝓡 wired)

pub real_label : Real 3 label-kinds.ps label-kinds.r (Asked contracts.label) (Learnt contracts.label) label-symbol.name label-symbol.code
real_label w wired γ k e = label-reads.known w γ k (w.𝓡.env label-symbol.name) e (label-met.met w.𝓤 w.𝓛 w.𝓜 w.𝓡 wired)

-- ---- a run of every list

-- the loader that a caller goes on with is the state's
piece-loader : (s : Load) (text : List ℕ) → (piece_shown s.loader (piece_answer s text)).loader ≡ (piece_after s text).loader
unfolding piece_answer piece_after
piece-loader s text = by-test (ready s)
  where
    by-test : (b : Bool) → (piece_shown s.loader (cond b (Ok (step_piece s text).loader) (Err damaged))).loader ≡ (cond b (step_piece s text) s).loader
    by-test true = refl
    by-test false = refl

end-loader : (s : Load) → (end_shown s.loader (end_answer s)).loader ≡ (end_after s).loader
unfolding end_answer end_after
end-loader s = by-test (ready s)
  where
    by-test :
        (b : Bool) →
        (end_shown s.loader (cond b (Ok ((step_end s).loader.report, fresh_loader)) (Err damaged))).loader
        ≡ (cond b (load (step_end s).store (step_end s).line fresh_loader) s).loader
    by-test true = refl
    by-test false = refl

with_loader : (s : Load) {l : Loader} → l ≡ s.loader → load s.store s.line l ≡ s
with_loader s e = rw e

-- what stands where a label's part is said to stand is the label
label-given : (st : Store) (k : ℕ) → take (part_shown k (length (label_given st k)) (label_answer st k)).length (drop (part_shown k (length (label_given st k)) (label_answer st k)).start st.labels) ≡ label_given st k
label-given st k = by_answer (label_answer st k) refl
  where
    by_answer :
        (x : Result (Unit {0}) Refusal) →
        label_answer st k ≡ x →
        take (part_shown k (length (label_given st k)) x).length (drop (part_shown k (length (label_given st k)) x).start st.labels) ≡ label_given st k
    by_answer (Ok tt) e =
        let h = label-done st k e in
        let few : k < 64 = omega (arith, h.1, h.0.counts.labels) in
        ap (λ (x : List ℕ). take (length x) (drop (k * 256 + 1) st.labels)) (sym (label_is st k h.0 h.1))
        ∙ label-stands st.labels k h.0.sizes.labels few
        ∙ label_is st k h.0 h.1
    by_answer (Err j) e = label-refused st k j e

-- calls within the contracts, from any state

abbrev ref : {X : Type 0} → X → Bor X
ref x = record { ref_ptr = (0, 0); now = x }

abbrev mut : {X : Type 0} → X → MutBor X
mut x = record { ref_ptr = (0, 0); ghost_name = 0; now = x }

abbrev piece_call : (s : Load) (text : List ℕ) → Called contracts.piece
piece_call s text =
    record {
      lifetimes = ([], ([], ([], ([], ([], tt)))));
      args = (mut s.store.labels, (mut s.store.entries, (mut s.store.words, (mut s.line, (s.loader, (ref text, tt))))));
      asked = tt;
      result = piece_shown s.loader (piece_answer s text);
      last = ((piece_after s text).store.labels, ((piece_after s text).store.entries, ((piece_after s text).store.words, ((piece_after s text).line, (tt, (tt, tt))))));
      ensures = (refl, with_loader (piece_after s text) (piece-loader s text));
    }

abbrev end_call : (s : Load) → Called contracts.end
end_call s =
    record {
      lifetimes = ([], ([], ([], ([], tt))));
      args = (mut s.store.labels, (mut s.store.entries, (mut s.store.words, (mut s.line, (s.loader, tt)))));
      asked = tt;
      result = end_shown s.loader (end_answer s);
      last = ((end_after s).store.labels, ((end_after s).store.entries, ((end_after s).store.words, ((end_after s).line, (tt, tt)))));
      ensures = (refl, with_loader (end_after s) (end-loader s));
    }

abbrev question_call : (st : Store) (x o request : List ℕ) (capable : Bool) → Called contracts.question
question_call st x o request capable =
    record {
      lifetimes = ([], ([], ([], ([], ([], ([], tt))))));
      args = (ref st.labels, (ref st.entries, (ref st.words, (ref x, (ref o, (ref request, (capable, tt)))))));
      asked = tt;
      result = shown (question_of st x o request capable);
      last = (tt, (tt, (tt, (tt, (tt, (tt, (tt, tt)))))));
      ensures = refl;
    }

abbrev change_call : (st : Store) (text : List ℕ) → Called contracts.change
change_call st text =
    record {
      lifetimes = ([], ([], ([], ([], tt))));
      args = (mut st.labels, (mut st.entries, (mut st.words, (ref text, tt))));
      asked = tt;
      result = write_shown (change_answer st text);
      last = ((change_store st text).labels, ((change_store st text).entries, ((change_store st text).words, (tt, tt))));
      ensures = (refl, refl);
    }

abbrev onlycap_call : (st : Store) (text : List ℕ) → Called contracts.onlycap
onlycap_call st text =
    record {
      lifetimes = ([], ([], ([], ([], tt))));
      args = (mut st.labels, (mut st.entries, (mut st.words, (ref text, tt))));
      asked = tt;
      result = write_shown (onlycap_answer st text);
      last = ((onlycap_store st text).labels, ((onlycap_store st text).entries, ((onlycap_store st text).words, (tt, tt))));
      ensures = (refl, refl);
    }

abbrev mapping_call : (st : Store) (text : List ℕ) → Called contracts.mapping
mapping_call st text =
    record {
      lifetimes = ([], ([], ([], ([], tt))));
      args = (mut st.labels, (mut st.entries, (mut st.words, (ref text, tt))));
      asked = tt;
      result = write_shown (map_answer st text);
      last = ((map_stored st text).labels, ((map_stored st text).entries, ((map_stored st text).words, (tt, tt))));
      ensures = (refl, refl);
    }

abbrev revoke_call : (st : Store) (l : List ℕ) → Called contracts.revoke
revoke_call st l =
    record {
      lifetimes = ([], ([], ([], ([], tt))));
      args = (ref st.labels, (mut st.entries, (ref st.words, (ref l, tt))));
      asked = tt;
      result = revoke_shown (revoke_answer st l);
      last = (tt, ((revoke_store st l).entries, (tt, (tt, tt))));
      ensures = (refl, refl);
    }

abbrev by-label_call : (st : Store) (l : List ℕ) → Called contracts.by_label
by-label_call st l =
    record {
      lifetimes = ([], ([], ([], ([], tt))));
      args = (ref st.labels, (ref st.entries, (ref st.words, (ref l, tt))));
      asked = tt;
      result = lookup_shown (by_label_of st l);
      last = (tt, (tt, (tt, (tt, tt))));
      ensures = refl;
    }

abbrev by-level_call : (st : Store) (level : ℕ) (set : CategorySet) → Called contracts.by_level
by-level_call st level set =
    record {
      lifetimes = ([], ([], ([], tt)));
      args = (ref st.labels, (ref st.entries, (ref st.words, (level, (set, tt)))));
      asked = tt;
      result = search_shown (by_level_of st level set);
      last = (tt, (tt, (tt, (tt, (tt, tt)))));
      ensures = refl;
    }

abbrev list_rule_call : (st : Store) (k : ℕ) (out : List ℕ) → Called contracts.list_rule
list_rule_call st k out =
    record {
      lifetimes = ([], ([], ([], ([], tt))));
      args = (ref st.labels, (ref st.entries, (ref st.words, (k, (mut out, tt)))));
      asked = tt;
      result = output_shown (list_answer st k out);
      last = (tt, (tt, (tt, (tt, (list_out st k out, tt)))));
      ensures = (refl, refl);
    }

abbrev write_option_call : (st : Store) (l out : List ℕ) → Called contracts.write_option
write_option_call st l out =
    record {
      lifetimes = ([], ([], ([], ([], ([], tt)))));
      args = (ref st.labels, (ref st.entries, (ref st.words, (ref l, (mut out, tt)))));
      asked = tt;
      result = output_shown (option_answer st l out);
      last = (tt, (tt, (tt, (tt, (option_out st l out, tt)))));
      ensures = (refl, refl);
    }

abbrev read_option_call : (st : Store) (option : List ℕ) → Called contracts.read_option
read_option_call st option =
    record {
      lifetimes = ([], ([], ([], ([], tt))));
      args = (ref st.labels, (ref st.entries, (ref st.words, (ref option, tt))));
      asked = tt;
      result = peer_shown (peer_given st option);
      last = (tt, (tt, (tt, (tt, tt))));
      ensures = refl;
    }

abbrev new-object_call : (st : Store) (creator folder : List ℕ) (folder_transmutes is_folder : Bool) → Called contracts.new_object
new-object_call st creator folder folder_transmutes is_folder =
    record {
      lifetimes = ([], ([], ([], ([], ([], tt)))));
      args = (ref st.labels, (ref st.entries, (ref st.words, (ref creator, (ref folder, (folder_transmutes, (is_folder, tt)))))));
      asked = tt;
      result = object_shown (object_label_of st creator folder folder_transmutes is_folder);
      last = (tt, (tt, (tt, (tt, (tt, (tt, (tt, tt)))))));
      ensures = refl;
    }

abbrev label_check_call : (st : Store) (k : ℕ) → Called contracts.label_check
label_check_call st k =
    record {
      lifetimes = ([], ([], ([], tt)));
      args = (ref st.labels, (ref st.entries, (ref st.words, (k, tt))));
      asked = tt;
      result = write_shown (label_answer st k);
      last = (tt, (tt, (tt, (tt, tt))));
      ensures = refl;
    }

abbrev label_call : (st : Store) (k : ℕ) → Called contracts.label
label_call st k =
    record {
      lifetimes = ([], ([], ([], tt)));
      args = (ref st.labels, (ref st.entries, (ref st.words, (k, tt))));
      asked = tt;
      result = part_shown k (length (label_given st k)) (label_answer st k);
      last = (tt, (tt, (tt, (tt, tt))));
      ensures = (refl, label-given st k);
    }

answered : (st : Store) (q : Ask) → (reply : Reply) × Answers st q reply
answered st (r.question x o request capable) = (_, a_question (question_call st x o request capable))
answered st (r.by_label x) = (_, a_look_up (by-label_call st x))
answered st (r.by_level level set) = (_, a_search (by-level_call st level set))
answered st (r.list_a_rule n out) = (_, a_listing (list_rule_call st n out))
answered st (r.label n) = (_, a_label (label_call st n))
answered st (r.write_option l out) = (_, an_option (write_option_call st l out))
answered st (r.read_option option) = (_, a_peer (read_option_call st option))
answered st (r.new_object creator folder folder_transmutes is_folder) = (_, a_new_object (new-object_call st creator folder folder_transmutes is_folder))
answered st (r.label_check n) = (_, a_check (label_check_call st n))

wrote : (st : Store) (w : Write) → (reply : Reply) × (st' : Store) × Writes st w reply st'
wrote st (r.change text) = (_, _, a_change (change_call st text))
wrote st (r.revoke l) = (_, _, a_revoke (revoke_call st l))
wrote st (r.onlycap text) = (_, _, an_onlycap (onlycap_call st text))
wrote st (r.mapping text) = (_, _, a_mapping (mapping_call st text))

pub runs : (st : Store) (line : List ℕ) (loader : Loader) (cs : List Call) → (rs : List Reply) × (s' : Load) × Runs (load st line loader) cs rs s'
runs st line loader [] = ([], load st line loader, none)
runs st line loader (r.piece text ∷ cs) =
    let k = piece_call (load st line loader) text in
    let after = piece_after (load st line loader) text in
    let rest = runs after.store after.line k.result.loader cs in
    (taken_reply k.result ∷ rest.0, rest.1, a_piece k rest.2)
runs st line loader (r.end_call ∷ cs) =
    let k = end_call (load st line loader) in
    let after = end_after (load st line loader) in
    let rest = runs after.store after.line k.result.loader cs in
    (finished_reply k.result ∷ rest.0, rest.1, an_end k rest.2)
runs st line loader (r.ask q ∷ cs) =
    let k = answered st q in
    let rest = runs st line loader cs in
    (k.0 ∷ rest.0, rest.1, an_ask k.1 rest.2)
runs st line loader (r.write w ∷ cs) =
    let k = wrote st w in
    let rest = runs k.1 line loader cs in
    (k.0 ∷ rest.0, rest.1, a_write k.2 rest.2)

-- The session follows the plain reader: what each step of the lent state says and leaves, 01's words say of what that state stands for.
-- Assumes nothing.
use mathlib.Core.Path.{◌≡◌, refl, sym, ap, ◌∙◌, subst}
use mathlib.Core.Bool.{Bool, true, false, cond, ◌&&◌}
use mathlib.Core.List.{List, [], ◌∷◌, ◌++◌}
use Prim.Native.Nat.{ℕ, ◌*◌, ◌≤◌}
use native.Mathlib.Omega.{arith}
use lib.Dec.{ltb, eqb}
use borrow.Author.Tests.{lt-ltb, le-ltb, ltb-true, ltb-false, ne_eqb, le-leb}
use lib.ListN.{length, take, get_or}
use lib.Seq.{take_all, get_or-take, take-append_seam}
use Rattle.search.specs.Bytes.{same_bytes, written}
use Rattle.refusals.specs.Refusals.{too_long, wrong_fields}
use Rattle.alphabet.specs.Alphabet.{newline, line_limit, fields}
use Rattle.store.specs.Table.{Table, fresh}
use Rattle.store.specs.Layout.{Store, Sizes}
use Rattle.store.specs.Judged.{fresh_store}
use Rattle.store.proofs.Judged.{fresh-is, fresh-undamaged}
use Rattle.access.specs.Access.{answer, question_of}
use Rattle.access.specs.declared.Answer.{Answer}
use Rattle.access.specs.declared.Answer.TheVariants.{Refused}
use Rattle.reports.specs.declared.Loader.{Loader}
use Rattle.reports.specs.Report.{fresh_loader}
use Rattle.std.proofs.Common.{Result, Ok, Err}
use Rattle.refusals.specs.declared.Refusal.{Refusal}
use Rattle.reports.specs.declared.Report.{Report}
use Rattle.program.specs.declared.Session.{Session}
use Rattle.program.specs.declared.Declined.{Declined}
use Rattle.load.specs.Loader.{Load, load, ready, step_byte, end_answer, end_after}
use Rattle.load.proofs.Laws.{is-ready}
use Rattle.lists.specs.Reader.{Totals, Reader, start_on, finish, limited_totals, report}
use Rattle.lists.specs.Reader as reader
use Rattle.lists.proofs.Follows.{SameLine, Holds, step_follows, fresh_holds}
use Rattle.lists.proofs.Steps.{totals_of, end-reply, end_law, question_law}
use Rattle.replies.specs.Replies.{line_room, answer_line}
use Rattle.program.specs.Program.{mark, is_mark, asked, answer_to, report_line}
use Rattle.program.specs.Turns.{went_count}
use Rattle.program.specs.Steps.{State, state, fresh_session, asking, reading, at_mark, emptied, without_mark, answer_of, answer_text, ended_text, text_after, text_says, byte_by, say_by, take_input_byte, say_input_byte, take_input, say_input, say_last_by, take_last, say_last, Turns}
use Rattle.program.proofs.Laws.{unmarked_yes, unmarked_no}
use Rattle.lists.proofs.Lines.{keeping}
use Rattle.program.proofs.Plain.{Phase, loads, asks, plain_unmarked, phase_to, reports, answers, phase_says, phase_last, phase_on, said_on}

-- ---- the line under way

mark-line : (line : List ℕ) (l : Loader) (kept : List ℕ) → SameLine line l.kept kept → at_mark line l ≡ is_mark kept
unfolding same_bytes
mark-line line l [] h = rw h.size
mark-line line l (x ∷ []) h =
    let k : l.kept ≡ 1 = h.size in
    let first : get_or line 0 0 ≡ x = sym (get_or-take 1 line 0 0 (omega arith)) ∙ ap (λ (t : List ℕ). get_or t 0 0) (ap (λ (n : ℕ). take n line) (sym k) ∙ h.bytes) in
    rw (k, first) (by-test (eqb x mark))
  where
    by-test : (t : Bool) → t ≡ (t && true)
    by-test true = refl
    by-test false = refl
mark-line line l (x ∷ y ∷ ys) h = rw (ne_eqb l.kept 1 (λ z. omega (arith, z, h.size))) (by-test (eqb x mark))
  where
    by-test : (t : Bool) → false ≡ (t && false)
    by-test true = refl
    by-test false = refl

mark-same : (s : Load) (p : Reader) → Holds s p → at_mark s.line s.loader ≡ is_mark p.kept
mark-same s p h = mark-line s.line s.loader p.kept h.line

emptied-holds : (s : Load) (p : Reader) → Holds s p → Holds (emptied s) (keeping p [])
emptied-holds s p h =
    record {
      ready = record { undamaged = h.ready.undamaged; line = h.ready.line; kept = omega arith };
      table = h.table;
      line = record { full = h.line.full; size = refl; bytes = refl };
      totals = h.totals;
    }

unmarked-holds : (s : Load) (p : Reader) → Holds s p → Holds (without_mark s) (plain_unmarked p)
unmarked-holds s p h = by-test (is_mark p.kept) (mark-same s p h)
  where
    by-test : (m : Bool) → at_mark s.line s.loader ≡ m → Holds (without_mark s) (keeping p (cond m [] p.kept))
    by-test true q = subst (λ (l : Loader). Holds (load s.store s.line l) (keeping p [])) (unmarked_yes s.line s.loader q) (emptied-holds s p h)
    by-test false q = subst (λ (l : Loader). Holds (load s.store s.line l) p) (unmarked_no s.line s.loader q) h

-- ---- a question line that is kept is answered as the whole line would be

same_asked : (f g : List ℕ → List ℕ → List ℕ → Bool → Answer) → ((x o r : List ℕ) (c : Bool) → f x o r c ≡ g x o r c) → (fs : List (List ℕ)) → asked f fs ≡ asked g fs
same_asked f g h [] = refl
same_asked f g h (s ∷ []) = refl
same_asked f g h (s ∷ o ∷ []) = refl
same_asked f g h (s ∷ o ∷ r ∷ []) = h s o r false
same_asked f g h (s ∷ o ∷ r ∷ c ∷ []) = ap (λ (a : Answer). cond (same_bytes c (111 ∷ [])) a (Refused wrong_fields)) (h s o r true)
same_asked f g h (s ∷ o ∷ r ∷ c ∷ x ∷ more) = refl

answer-same : (s : Load) (p : Reader) → Holds s p → answer_of s.store s.line s.loader.kept ≡ answer_to (answer p.table) p.kept
unfolding answer_to
answer-same s p h = by-test (ltb line_limit (length p.kept)) refl
  where
    by-test : (t : Bool) → ltb line_limit (length p.kept) ≡ t → answer_of s.store s.line s.loader.kept ≡ cond t (Refused too_long) (asked (answer p.table) (fields p.kept))
    by-test true q = rw (lt-ltb line_limit s.loader.kept (omega (arith, ltb-true line_limit (length p.kept) q, h.line.size)))
    by-test false q =
        let z = ltb-false line_limit (length p.kept) q in
        let whole : take s.loader.kept s.line ≡ p.kept = h.line.bytes ∙ take_all line_limit p.kept z in
        rw (le-ltb line_limit s.loader.kept (omega (arith, z, h.line.size)))
        (ap (λ (l : List ℕ). asked (question_of s.store) (fields l)) whole
        ∙ same_asked (question_of s.store) (answer p.table) (λ x o r c. question_law s p x o r c h) (fields p.kept))

-- ---- the end call's report, as it is written

report-text : (r : Result (Report × Loader) Refusal) (c : Totals) → end-reply r ≡ report c → ended_text r ≡ report_line c
unfolding report_line
report-text (Ok (r, l)) c q = let z : totals_of r ≡ c = cc in ap (λ (x : Totals). report_line x) z
report-text (Err n) c q = let z : ◌≡◌ {A = ℕ} 0 1 = cc in absurd (omega arith)

text_says_lem : (s : Load) (p : Reader) → Holds s p → text_says s ≡ reports (plain_unmarked p)
text_says_lem s p h =
    report-text (end_answer (without_mark s)) (limited_totals (finish (plain_unmarked p)).totals)
    (end_law {s = without_mark s} {s' = end_after (without_mark s)} {r = end_answer (without_mark s)} (plain_unmarked p) refl refl (unmarked-holds s p h)).reply

text-holds : (s : Load) (p : Reader) → Holds s p → Holds (end_after (without_mark s)) (start_on (finish (plain_unmarked p)).table)
text-holds s p h = (end_law {s = without_mark s} {s' = end_after (without_mark s)} {r = end_answer (without_mark s)} (plain_unmarked p) refl refl (unmarked-holds s p h)).holds

none_kept : (p : Reader) → finish (keeping p []) ≡ keeping p []
unfolding finish
none_kept p = refl

-- ---- what a lent state stands for, and a byte, an input, the end

abbrev pub Stands : State → Phase → Type 0
Stands s (loads p) = (s.loading ≡ true) × Holds s.load p
Stands s (asks p) = (s.loading ≡ false) × Holds s.load p

-- what a step keeps
pub record Kept (s : State) (said : List ℕ) (q : Phase) (plain : List ℕ) : Type 0 where
  pub stands : Stands s q
  pub says : said ≡ plain

byte-loads : (s : Load) (p : Reader) (b : ℕ) → Holds s p → Kept (byte_by true s b) (say_by true s b) (phase_to (loads p) b) (phase_says (loads p) b)
byte-loads s p b h = rw (mark-same s p h) (by-test (is_mark p.kept) (eqb b newline) refl)
  where
    by-test :
        (m t : Bool) →
        is_mark p.kept ≡ m →
        Kept (cond (m && t) (text_after s) (reading (step_byte s b))) (cond (m && t) (text_says s) []) (cond (m && t) (asks (start_on p.table)) (loads (reader.take_byte p b))) (cond (m && t) (reports (keeping p [])) [])
    by-test true true q =
        let same : plain_unmarked p ≡ keeping p [] = ap (λ (m : Bool). keeping p (cond m [] p.kept)) q in
        record {
          stands = (refl, subst (λ (t : Table). Holds (end_after (without_mark s)) (start_on t)) (ap (λ (x : Reader). (finish x).table) same ∙ ap (λ (x : Reader). x.table) (none_kept p)) (text-holds s p h));
          says = text_says_lem s p h ∙ ap (λ (x : Reader). reports x) same;
        }
    by-test true false q = record { stands = (refl, step_follows s p b h); says = refl }
    by-test false t q = record { stands = (refl, step_follows s p b h); says = refl }

byte-asks : (s : Load) (p : Reader) (b : ℕ) → Holds s p → Kept (byte_by false s b) (say_by false s b) (phase_to (asks p) b) (phase_says (asks p) b)
byte-asks s p b h = by-test (eqb b newline)
  where
    by-test : (t : Bool) → Kept (cond t (asking (emptied s)) (asking (step_byte s b))) (cond t (answer_text s) []) (cond t (asks (keeping p [])) (asks (reader.take_byte p b))) (cond t (answers p) [])
    by-test true = record { stands = (refl, emptied-holds s p h); says = ap answer_line (answer-same s p h) }
    by-test false = record { stands = (refl, step_follows s p b h); says = refl }

byte_follows : (s : State) (q : Phase) (b : ℕ) → Stands s q → Kept (take_input_byte s b) (say_input_byte s b) (phase_to q b) (phase_says q b)
byte_follows s (loads p) b h = subst (λ (t : Bool). Kept (byte_by t s.load b) (say_by t s.load b) (phase_to (loads p) b) (phase_says (loads p) b)) (sym h.0) (byte-loads s.load p b h.1)
byte_follows s (asks p) b h = subst (λ (t : Bool). Kept (byte_by t s.load b) (say_by t s.load b) (phase_to (asks p) b) (phase_says (asks p) b)) (sym h.0) (byte-asks s.load p b h.1)

input_follows : (s : State) (q : Phase) (input : List ℕ) → Stands s q → Kept (take_input s input) (say_input s input) (phase_on q input) (said_on q input)
input_follows s q [] h = record { stands = h; says = refl }
input_follows s q (b ∷ bs) h =
    let one = byte_follows s q b h in
    let rest = input_follows (take_input_byte s b) (phase_to q b) bs one.stands in
    record { stands = rest.stands; says = ap (λ (l : List ℕ). l ++ say_input (take_input_byte s b) bs) one.says ∙ ap (λ (l : List ℕ). phase_says q b ++ l) rest.says }

last-asks : (s : Load) (p : Reader) → Holds s p → say_last_by false s ≡ phase_last (asks p)
last-asks s p h = by-test (ltb 0 (length p.kept)) refl
  where
    by-test : (t : Bool) → ltb 0 (length p.kept) ≡ t → say_last_by false s ≡ cond t (answers p) []
    by-test true q = rw (lt-ltb 0 s.loader.kept (omega (arith, ltb-true 0 (length p.kept) q, h.line.size))) (ap answer_line (answer-same s p h))
    by-test false q = rw (le-ltb 0 s.loader.kept (omega (arith, ltb-false 0 (length p.kept) q, h.line.size)))

last_follows : (s : State) (q : Phase) → Stands s q → say_last s ≡ phase_last q
last_follows s (loads p) h = ap (λ (t : Bool). say_last_by t s.load) h.0 ∙ text_says_lem s.load p h.1
last_follows s (asks p) h = ap (λ (t : Bool). say_last_by t s.load) h.0 ∙ last-asks s.load p h.1

-- ---- each contract, at a state that stands for what is read

stands-ready : (s : State) (q : Phase) → Stands s q → ready s.load ≡ true
stands-ready s (loads p) h = is-ready s.load h.1.ready
stands-ready s (asks p) h = is-ready s.load h.1.ready

-- the front of an output that something was put into
front-is : (out said : List ℕ) → take (length said) (written out 0 said) ≡ said
unfolding written
front-is out said = take-append_seam said _

turn_says : {most : ℕ} {s after s' : State} {said out out' : List ℕ} {r : Result (Session × ℕ) Declined} → Turns most s after said out r s' out' → most ≤ length out → ready s.load ≡ true → (s' ≡ after) × (take (went_count r) out' ≡ said)
turn_says {most = most} {said = said} {out = out} {out' = out'} turn room fine =
    let p = le-leb most (length out) room in
    let a = turn.answer in
    let b = turn.state in
    let c = turn.output in
    (rw (p, fine) at b, ap (λ (t : Result (Session × ℕ) Declined). take (went_count t) out') (rw (p, fine) at a) ∙ ap (λ (l : List ℕ). take (length said) l) (rw (p, fine) at c) ∙ front-is out said)

pub feed_law : {s s' : State} {out out' : List ℕ} {r : Result (Session × ℕ) Declined} (q : Phase) (input : List ℕ) → Turns (line_room * length input) s (take_input s input) (say_input s input) out r s' out' → line_room * length input ≤ length out → Stands s q → Kept s' (take (went_count r) out') (phase_on q input) (said_on q input)
feed_law {s} q input turn room h =
    let t = turn_says turn room (stands-ready s q h) in
    let k = input_follows s q input h in
    record { stands = subst (λ (x : State). Stands x (phase_on q input)) (sym t.0) k.stands; says = t.1 ∙ k.says }

pub finish_law : {s s' : State} {out out' : List ℕ} {r : Result (Session × ℕ) Declined} (q : Phase) → Turns line_room s (take_last s) (say_last s) out r s' out' → line_room ≤ length out → Stands s q → take (went_count r) out' ≡ phase_last q
finish_law {s} q turn room h = (turn_says turn room (stands-ready s q h)).1 ∙ last_follows s q h

pub begun : (st : Store) (line : List ℕ) → Sizes st.labels st.entries st.words → length line ≡ line_limit → Stands (state (fresh_store st) line fresh_session) (loads (start_on fresh))
begun st line sizes full = (refl, subst (λ (t : Table). Holds (load (fresh_store st) line fresh_loader) (start_on t)) (fresh-is st sizes) (fresh_holds (fresh_store st) line (fresh-undamaged st sizes) full))

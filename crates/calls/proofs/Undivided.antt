-- Demand 3: every list of calls of the exported functions is the plain reader's. Assumes nothing.
use Prim.Native.Nat.{ℕ}
use mathlib.Core.Path.{◌≡◌, refl, sym, ap, ◌∙◌, subst}
use mathlib.Core.Bool.{true, false}
use mathlib.Core.List.{List, [], ◌∷◌, foldl, map}
use Rattle.refusals.specs.Refusals as refusal
use Rattle.std.proofs.Common.{Result, Ok, Err}
use Rattle.refusals.specs.declared.Refusal.{Refusal}
use Rattle.reports.specs.declared.Report.{Report}
use Rattle.store.specs.Table.{Table}
use Rattle.store.specs.Layout.{Store, store, table_of, undamaged_of}
use Rattle.writes.specs.Writes.{change_answer}
use Rattle.revoke.specs.Revoke.{revoke_answer}
use Rattle.onlycap.specs.Onlycap.{onlycap_answer}
use Rattle.cipso.specs.Cipso.{map_answer}
use Rattle.listing.specs.Listing.{label_answer}
use Rattle.cipso_option.specs.Option.{peer_shown}
use Rattle.answers.specs.Answers.{shown, object_shown}
use Rattle.reports.specs.declared.Loader.{Loader}
use Rattle.load.specs.Loader.{Load, load, ready, piece_answer, piece_after, end_answer, end_after}
use Rattle.answers.specs.Answers.{write_shown, revoke_shown, piece_shown, end_shown, output_shown, lookup_shown, search_shown}
use Rattle.answers.specs.declared.Length.{Length}
use Rattle.lists.specs.Called.{first, second, third, fourth, fifth, sixth, seventh, lent, lent_mut, loading, loaded}
use Rattle.lists.specs.Reader as r
use Rattle.lists.specs.Reader.{Reader, start_on, take_piece, Ask, Call, Reply, done_reply, count_reply, Write, write_says, write_on, ask_says, after, after_all, says_all, Event, events, reports}
use Rattle.lists.proofs.Follows.{Holds, fresh_holds}
use Rattle.lists.proofs.Steps.{fed_reply, end-reply, piece_law, end_law, on, after-events, reports_on, reports-events}
use Rattle.lists.proofs.Others.{store_left, write-holds, by-label-refused, by-label-says, by-level-refused, by-level-says, change-refused, change-says, check_refused, check_says, label-refused, label-says, list_refused, list_says, option_refused, option_says, peer_refused, peer-says, object-refused, object-says, mapping-refused, mapping-says, onlycap-refused, onlycap-says, question-refused, question-says, revoke-refused, revoke-says, write_refused}
use Rattle.calls.specs.Calls.{Fresh, Answers, Writes, Runs, none, a_piece, an_end, an_ask, a_write, a_question, a_change, a_revoke, an_onlycap, a_mapping, a_look_up, a_search, a_listing, a_label, a_check, an_option, a_peer, a_new_object, taken_reply, finished_reply, written_reply, counted_reply}
use Rattle.calls.specs.PlainReaders.{acts, Made, PlainReaders, refusal_of}
use Rattle.calls.proofs.Acts.{made, grown-made}

-- ---- what a host reads of an answer is the answer

shown-taken : (l : Loader) (x : Result Loader Refusal) → taken_reply (piece_shown l x) ≡ fed_reply x
shown-taken l (Ok n) = refl
shown-taken l (Err n) = refl

shown-finished : (l : Loader) (x : Result (Report × Loader) Refusal) → finished_reply (end_shown l x) ≡ end-reply x
shown-finished l (Ok (n, m)) = refl
shown-finished l (Err n) = refl

shown-written : (x : Result (Unit {0}) Refusal) → written_reply (write_shown x) ≡ done_reply x
shown-written (Ok tt) = refl
shown-written (Err n) = refl

shown-counted : (x : Result ℕ Refusal) → counted_reply (revoke_shown x) ≡ count_reply x
shown-counted (Ok n) = refl
shown-counted (Err n) = refl

both_listed : {x y : Length} {out to : List ℕ} → x ≡ y → out ≡ to → r.listed x out ≡ r.listed y to
both_listed e f = rw (e, f)

-- ---- one call on the tables alone, from an undamaged state: what is read of its answer is the plain reader's

pub answers-read : {st : Store} {q : Ask} {reply : Reply} → undamaged_of st ≡ true → Answers st q reply → reply ≡ ask_says (table_of st) q
answers-read u (a_question k) = ap r.answered k.ensures ∙ question-says (lent k.args) u (fourth k.args).now (fifth k.args).now (sixth k.args).now (seventh k.args)
answers-read u (a_look_up k) = ap r.mapped k.ensures ∙ by-label-says (lent k.args) u (fourth k.args).now
answers-read u (a_search k) = ap r.lowest k.ensures ∙ by-level-says (lent k.args) u (fourth k.args) (fifth k.args)
answers-read u (a_listing k) = both_listed k.ensures.0 k.ensures.1 ∙ list_says (lent k.args) u (fourth k.args) (fifth k.args).now
answers-read u (a_label k) = label-says (lent k.args) u (fourth k.args) _ k.result _ k.ensures.0 k.ensures.1
answers-read u (an_option k) = both_listed k.ensures.0 k.ensures.1 ∙ option_says (lent k.args) u (fourth k.args).now (fifth k.args).now
answers-read u (a_new_object k) =
    ap r.labelled k.ensures ∙ object-says (lent k.args) u (fourth k.args).now (fifth k.args).now (sixth k.args) (seventh k.args)
answers-read u (a_peer k) = ap r.peer k.ensures ∙ peer-says (lent k.args) u (fourth k.args).now
answers-read u (a_check k) = ap written_reply k.ensures ∙ shown-written (label_answer (lent k.args) (fourth k.args)) ∙ check_says (lent k.args) u (fourth k.args)

pub writes-read : {st st' : Store} {w : Write} {reply : Reply} → undamaged_of st ≡ true → Writes st w reply st' → reply ≡ write_says (table_of st) w
writes-read u (a_change k) = ap written_reply k.ensures.0 ∙ shown-written (change_answer (lent_mut k.args) (fourth k.args).now) ∙ change-says (lent_mut k.args) u (fourth k.args).now
writes-read u (a_revoke k) = ap counted_reply k.ensures.0 ∙ shown-counted (revoke_answer (store (first k.args).now (second k.args).now (third k.args).now) (fourth k.args).now) ∙ revoke-says (store (first k.args).now (second k.args).now (third k.args).now) u (fourth k.args).now
writes-read u (an_onlycap k) = ap written_reply k.ensures.0 ∙ shown-written (onlycap_answer (lent_mut k.args) (fourth k.args).now) ∙ onlycap-says (lent_mut k.args) u (fourth k.args).now
writes-read u (a_mapping k) = ap written_reply k.ensures.0 ∙ shown-written (map_answer (lent_mut k.args) (fourth k.args).now) ∙ mapping-says (lent_mut k.args) u (fourth k.args).now

-- and a write leaves what its definition says, of any state
pub writes_leave : {st st' : Store} {w : Write} {reply : Reply} → Writes st w reply st' → st' ≡ store_left st w
writes_leave (a_change k) = k.ensures.1
writes_leave (a_revoke k) = ap (λ (x : List ℕ). store (first k.args).now x (third k.args).now) k.ensures.1
writes_leave (an_onlycap k) = k.ensures.1
writes_leave (a_mapping k) = k.ensures.1

-- ---- every list of calls, from any state that stands for a plain reader

pub record Followed (s : Load) (rs : List Reply) (p : Reader) (qs : List Reply) : Type 0 where
  pub holds : Holds s p
  pub replies : rs ≡ qs

one_more : {s : Load} {x q : Reply} {rs qs : List Reply} {p : Reader} → x ≡ q → Followed s rs p qs → Followed s (x ∷ rs) p (q ∷ qs)
one_more e f = record { holds = f.holds; replies = cc (e, f.replies) }

-- a single write left this store
after_write : (w : Write) {s : Load} {st : Store} (p : Reader) → st ≡ store_left s.store w → Holds s p → Holds (load st s.line s.loader) (write_on p w)
after_write w {s} p e h = subst (λ (z : Store). Holds (load z s.line s.loader) (write_on p w)) (sym e) (write-holds s p w h)

pub follows : {s s' : Load} {cs : List Call} {rs : List Reply} (p : Reader) → Holds s p → Runs s cs rs s' → Followed s' rs (after_all p cs) (says_all p cs)
follows p h none = record { holds = h; replies = refl }
follows p h (a_piece k rest) =
    let text = (sixth k.args).now in
    let d = piece_law text {s = loading k.args} {s' = loaded k.last k.result.loader} {r = piece_answer (loading k.args) text} p refl k.ensures.1 h in
    one_more (ap taken_reply k.ensures.0 ∙ shown-taken (fifth k.args) (piece_answer (loading k.args) text) ∙ d.reply) (follows (take_piece p text) d.holds rest)
follows p h (an_end k rest) =
    let d = end_law {s = loading k.args} {s' = loaded k.last k.result.loader} {r = end_answer (loading k.args)} p refl k.ensures.1 h in
    one_more (ap finished_reply k.ensures.0 ∙ shown-finished (fifth k.args) (end_answer (loading k.args)) ∙ d.reply) (follows (after p r.end_call) d.holds rest)
follows p h (an_ask {q = q} k rest) = one_more (answers-read h.ready.undamaged k ∙ ap (λ (t : Table). ask_says t q) h.table) (follows p h rest)
follows p h (a_write {w = w} k rest) =
    one_more (writes-read h.ready.undamaged k ∙ ap (λ (t : Table). write_says t w) h.table) (follows (write_on p w) (after_write w p (writes_leave k) h) rest)

-- ---- DEMAND 3

pub undivided : {s s' : Load} {cs : List Call} {rs : List Reply} → Fresh s → Runs s cs rs s' → PlainReaders s cs rs s'
undivided {s} {cs = cs} g run =
    let t = table_of s.store in
    let p = start_on t in
    let h = subst (λ (l : Loader). Holds (load s.store s.line l) p) (sym g.loader) (fresh_holds s.store s.line g.undamaged g.line) in
    let e = follows p h run in
    let same = ap (λ (q : Reader). q.table) (sym (after-events p cs)) ∙ sym e.holds.table in
    let acted = subst (λ (x : Table). Made t (acts cs) x) same (made t [] r.zeros (events cs) (s, h)) in
    record { table = e.holds.table; replies = e.replies; made = acted; grown = grown-made acted }

-- two lists from the same table with the same bytes, end calls and single writes in the same order, whatever their cuts and questions, get the same reports and leave the
-- same table
pub same_cuts :
    {s z s' z' : Load} {cs ds : List Call} {rs qs : List Reply} →
    Fresh s →
    Fresh z →
    table_of s.store ≡ table_of z.store →
    events cs ≡ events ds →
    Runs s cs rs s' →
    Runs z ds qs z' →
    (table_of s'.store ≡ table_of z'.store) × (reports rs ≡ reports qs)
same_cuts {s} {z} {cs = cs} {ds = ds} g h t e run₁ run₂ =
    let p = start_on (table_of s.store) in
    let x = undivided g run₁ in
    let y = undivided h run₂ in
    let back = ap (λ (u : Table). start_on u) (sym t) in (
      x.table
          ∙ ap (λ (q : Reader). q.table) (after-events p cs ∙ ap (λ (es : List Event). foldl on p es) e ∙ sym (after-events p ds))
          ∙ ap (λ (q : Reader). (after_all q ds).table) (sym back)
          ∙ sym y.table,
      ap reports x.replies
          ∙ reports-events p cs
          ∙ ap (λ (es : List Event). reports_on p es) e
          ∙ sym (reports-events p ds)
          ∙ ap (λ (q : Reader). reports (says_all q ds)) (sym back)
          ∙ sym (ap reports y.replies),
    )

-- ---- a damaged table: every call is refused with 0, and nothing changes

never_ready : (s : Load) → undamaged_of s.store ≡ false → ready s ≡ false
unfolding ready
never_ready s e = rw e

module _ {s : Load} (u : undamaged_of s.store ≡ false) where
  piece-refused : (text : List ℕ) {s' : Load} → s' ≡ piece_after s text → (fed_reply (piece_answer s text) ≡ r.refusal (refusal.told refusal.damaged)) × (s' ≡ s)
  unfolding piece_answer piece_after
  piece-refused text q = let z = never_ready s u in (rw z, rw z at q)

  end_refused : {s' : Load} → s' ≡ end_after s → (end-reply (end_answer s) ≡ r.refusal (refusal.told refusal.damaged)) × (s' ≡ s)
  unfolding end_answer end_after
  end_refused q = let z = never_ready s u in (rw z, rw z at q)

still : {s s' : Load} → s' ≡ s → undamaged_of s.store ≡ false → undamaged_of s'.store ≡ false
still p e = ap (λ (x : Load). undamaged_of x.store) p ∙ e

-- one refused call more, which left the state as it was
refused-more :
    {s s₁ s' : Load} {x q : Reply} {rs qs : List Reply} →
    s₁ ≡ s →
    x ≡ q →
    (s' ≡ s₁) × (rs ≡ qs) →
    (s' ≡ s) × ((x ∷ rs) ≡ (q ∷ qs))
refused-more p e r = (r.0 ∙ p, cc (e, r.1))

answers-refused : {st : Store} {q : Ask} {reply : Reply} → undamaged_of st ≡ false → Answers st q reply → reply ≡ refusal_of (r.ask q)
answers-refused u (a_question k) = ap r.answered (k.ensures ∙ ap shown (question-refused _ u _ _ _ _))
answers-refused u (a_look_up k) = ap r.mapped (k.ensures ∙ ap lookup_shown (by-label-refused _ u _))
answers-refused u (a_search k) = ap r.lowest (k.ensures ∙ ap search_shown (by-level-refused _ u _ _))
answers-refused u (a_listing k) =
    let c = list_refused _ u (fourth k.args) (fifth k.args).now in
    both_listed (k.ensures.0 ∙ ap output_shown c.0) (k.ensures.1 ∙ c.1)
answers-refused u (an_option k) =
    let c = option_refused _ u (fourth k.args).now (fifth k.args).now in
    both_listed (k.ensures.0 ∙ ap output_shown c.0) (k.ensures.1 ∙ c.1)
answers-refused u (a_new_object k) = ap r.labelled (k.ensures ∙ ap object_shown (object-refused _ u _ _ _ _))
answers-refused u (a_peer k) = ap r.peer (k.ensures ∙ ap peer_shown (peer_refused _ u _))
answers-refused u (a_label k) = label-refused _ u _ _ _ _ k.ensures.0
answers-refused u (a_check k) = ap written_reply (k.ensures ∙ ap write_shown (check_refused _ u _))

writes-refused : {st st' : Store} {w : Write} {reply : Reply} → undamaged_of st ≡ false → Writes st w reply st' → reply ≡ refusal_of (r.write w)
writes-refused u (a_change k) = ap written_reply (k.ensures.0 ∙ ap write_shown (change-refused _ u _))
writes-refused u (a_revoke k) = ap counted_reply (k.ensures.0 ∙ ap revoke_shown (revoke-refused _ u _))
writes-refused u (an_onlycap k) = ap written_reply (k.ensures.0 ∙ ap write_shown (onlycap-refused _ u _))
writes-refused u (a_mapping k) = ap written_reply (k.ensures.0 ∙ ap write_shown (mapping-refused _ u _))

pub damaged : {s s' : Load} {cs : List Call} {rs : List Reply} → undamaged_of s.store ≡ false → Runs s cs rs s' → (s' ≡ s) × (rs ≡ map refusal_of cs)
damaged u none = (refl, refl)
damaged u (a_piece k rest) =
    let c = piece-refused {s = loading k.args} u (sixth k.args).now k.ensures.1 in
    refused-more c.1 (ap taken_reply k.ensures.0 ∙ shown-taken (fifth k.args) (piece_answer (loading k.args) (sixth k.args).now) ∙ c.0) (damaged (still c.1 u) rest)
damaged u (an_end k rest) =
    let c = end_refused {s = loading k.args} u k.ensures.1 in
    refused-more c.1 (ap finished_reply k.ensures.0 ∙ shown-finished (fifth k.args) (end_answer (loading k.args)) ∙ c.0) (damaged (still c.1 u) rest)
damaged u (an_ask k rest) = refused-more refl (answers-refused u k) (damaged u rest)
damaged u (a_write {st = st} {w = w} {line = line} {loader = loader} k rest) =
    let c = ap (λ (x : Store). load x line loader) (writes_leave k ∙ write_refused st u w) in
    refused-more c (writes-refused u k) (damaged (still c u) rest)

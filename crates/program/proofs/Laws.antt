-- Laws of the program's exact step: a call's answer, the line under way, and the input up to the byte that ends something. Assumes nothing.
use mathlib.Core.Path.{◌≡◌, refl, sym, ap, ◌∙◌, subst}
use mathlib.Core.Bool.{Bool, true, false, cond, ◌&&◌}
use mathlib.Core.List.{List, [], ◌∷◌, ◌++◌}
use Prim.Native.Nat.{ℕ, suc, ◌+◌, ◌-◌, ◌*◌, ◌<◌, ◌≤◌}
use native.Mathlib.Omega.{arith}
use native.Mathlib.Numerals.{add-one}
use lib.Dec.{ltb, leb, eqb}
use borrow.Author.Tests.{eqb-true, eqb-false, ne_eqb, ltb-true, ltb-false, lt-ltb, le-ltb, le-leb, lt-leb}
use lib.ListN.{length, take, drop, set, get_or, length-drop, drop_of_length-le, length-append}
use lib.Seq.{length-take-le, take_all, take-append_seam, get_or-set_same, drop-cons, drop-drop}
use Rattle.search.specs.Bytes.{written}
use Rattle.search.proofs.Laws.{and_both}
use Rattle.refusals.specs.Refusals.{too_long}
use Rattle.alphabet.specs.Alphabet.{newline, line_limit, fields}
use Rattle.store.specs.Layout.{Store, undamaged_of}
use Rattle.access.specs.Access.{question_of}
use Rattle.access.specs.declared.Answer.TheVariants.{Refused}
use Rattle.reports.specs.declared.Loader.{Loader}
use Rattle.reports.specs.declared.Report.{Report}
use Rattle.reports.specs.Report.{with_kept}
use Rattle.std.proofs.Common.{Result, Ok, Err}
use Rattle.refusals.specs.declared.Refusal.{Refusal}
use Rattle.program.specs.declared.Declined.{Declined}
use Rattle.program.specs.declared.Declined.TheVariants.{NoRoom, Damaged}
use Rattle.text_lines.specs.Within.{before_newline}
use Rattle.text_lines.proofs.Laws.{run-last, end-within}
use Rattle.load.specs.Loader.{Load, load, ready, step_byte, step_piece, piece_answer, piece_after, end_answer, end_after}
use Rattle.load.specs.Within.{fed_loader, ended_loader}
use Rattle.load.proofs.Laws.{Ready, ready-is, is-ready, ready_step, ready-piece, joins, too_long_lem, byte_empties}
use Rattle.replies.specs.Replies.{line_room, report_text}
use Rattle.replies.specs.Within.{Put}
use Rattle.replies.proofs.Laws.{written_none, put-length, put-said, put-none, put_next}
use Rattle.program.specs.Program.{mark, asked}
use Rattle.program.specs.Turns.{went_session, went_count}
use Rattle.program.specs.declared.Session.{Session}
use Rattle.program.specs.Steps.{State, state, session_of, reading, asking, at_mark, emptied, unmarked, answer_of, answer_text, ended_text, without_mark, text_after, text_says, take_input_byte, say_input_byte, take_input, say_input, last_by, say_last_by, take_last, say_last, turn_of, Front, Turns}
use Rattle.program.specs.Within.{text_end}

-- ---- a call, by its answer

front : (n : ℕ) (out : List ℕ) → n ≤ length out → Front n out
front n out h = (h, sym (length-take-le n out h))

none_written : (out : List ℕ) → out ≡ written out 0 []
none_written out = sym (written_none out 0)

module _ {most : ℕ} {s after : State} {said : List ℕ} where
  pub no_room : (out : List ℕ) → length out < most → Turns most s after said out (Err NoRoom) s out
  no_room out h =
      let p = lt-leb most (length out) h in
      record { answer = rw p; state = rw p; output = rw p (none_written out); front = front 0 out (omega arith) }

  pub damaged : (out : List ℕ) → most ≤ length out → ready s.load ≡ false → Turns most s after said out (Err Damaged) s out
  damaged out h q =
      let p = le-leb most (length out) h in
      record { answer = rw (p, q); state = rw (p, q); output = rw (p, q) (none_written out); front = front 0 out (omega arith) }

  pub went :
      {n : ℕ} {x : Session} {st : Store} {line out out' : List ℕ} →
      most ≤ length out →
      ready s.load ≡ true →
      state st line x ≡ after →
      Put most out 0 said out' n →
      Turns most s after said out (Ok (x, n)) (state st line x) out'
  went {n = n} {x = x} {out = out} {out' = out'} h q a w =
      let p = le-leb most (length out) h in
      let size = put-length w (omega (arith, w.short, h)) in
      let counts : n ≡ length said = omega (arith, w.ends) in
      record {
        answer = rw (p, q) (ap (λ (y : Session). Ok (y, n)) (ap session_of a) ∙ ap (λ (k : ℕ). Ok (session_of after, k)) counts);
        state = rw (p, q) a;
        output = rw (p, q) w.bytes;
        front = front n out' (omega (arith, counts, w.short, size, h));
      }

-- a call that hands on what another did, of the same output
module _ {m n : ℕ} {z s after after' : State} {said said' out : List ℕ} {r : Result (Session × ℕ) Declined} {s' : State} {out' : List ℕ} (turn : Turns m z after said out r s' out') (h : m ≤ n) (k : n ≤ length out) where
  pub hands_on : ready z.load ≡ true → ready s.load ≡ true → after ≡ after' → said ≡ said' → Turns n s after' said' out r s' out'
  hands_on fine fine' a b =
      let p = le-leb n (length out) k in
      let q = le-leb m (length out) (omega (arith, h, k)) in
      record {
        answer = rw (p, fine') (handed q ∙ ap (λ (x : State). Ok (session_of x, length said)) a ∙ ap (λ (l : List ℕ). Ok (session_of after', length l)) b);
        state = rw (p, fine') (state-is q ∙ a);
        output = rw (p, fine') (output-is q ∙ ap (λ (l : List ℕ). written out 0 l) b);
        front = turn.front;
      }
    where
      handed : leb m (length out) ≡ true → r ≡ Ok (session_of after, length said)
      handed q = let z = turn.answer in rw (q, fine) at z

      state-is : leb m (length out) ≡ true → s' ≡ after
      state-is q = let z = turn.state in rw (q, fine) at z

      output-is : leb m (length out) ≡ true → out' ≡ written out 0 said
      output-is q = let z = turn.output in rw (q, fine) at z

-- a state with other slices that are the same
same_slices : {st : Store} {line : List ℕ} {l : Loader} (s : State) → load st line l ≡ load s.load.store s.load.line l → state st line (session_of s) ≡ s
same_slices s p = ap (λ (x : Load). state x.store x.line (session_of s)) p

-- ---- the line under way

pub unmarked_yes : (line : List ℕ) (l : Loader) → at_mark line l ≡ true → with_kept l 0 ≡ unmarked line l
unfolding unmarked
unmarked_yes line l p = rw p

pub unmarked_no : (line : List ℕ) (l : Loader) → at_mark line l ≡ false → l ≡ unmarked line l
unfolding unmarked
unmarked_no line l p = rw p

pub ready-unmarked : (s : Load) → ready (without_mark s) ≡ ready s
unfolding ready unmarked
ready-unmarked s = by-test (at_mark s.line s.loader) refl
  where
    by-test :
        (m : Bool) →
        at_mark s.line s.loader ≡ m →
        (undamaged_of s.store && (eqb (length s.line) line_limit && leb (cond m (with_kept s.loader 0) s.loader).kept 601)) ≡ (undamaged_of s.store && (eqb (length s.line) line_limit && leb s.loader.kept 601))
    by-test true p = let k = eqb-true s.loader.kept 1 (and_both (eqb s.loader.kept 1) (eqb (get_or s.line 0 0) mark) p).0 in rw k
    by-test false p = refl

-- whether a byte leaves the line `?`
byte_marks : (s : Load) (b : ℕ) → length s.line ≡ line_limit → at_mark (step_byte s b).line (step_byte s b).loader ≡ (eqb s.loader.kept 0 && eqb b mark)
byte_marks s b full = by-newline (eqb b newline) refl
  where
    by-newline : (x : Bool) → eqb b newline ≡ x → at_mark (step_byte s b).line (step_byte s b).loader ≡ (eqb s.loader.kept 0 && eqb b mark)
    by-newline true p =
        let k = eqb-true (step_byte s b).loader.kept 0 (byte_empties s b ∙ p) in
        let m = ne_eqb b mark (λ z. let n = eqb-true b newline p in omega (arith, z, n)) in
        rw (k, m) (by-empty (eqb s.loader.kept 0))
      where
        by-empty : (y : Bool) → false ≡ (y && false)
        by-empty true = refl
        by-empty false = refl
    by-newline false p = by-room (ltb s.loader.kept line_limit) refl
      where
        by-kept : (y : Bool) → eqb s.loader.kept 0 ≡ y → (eqb (s.loader.kept + 1) 1 && eqb (get_or (set s.line s.loader.kept b) 0 0) mark) ≡ (y && eqb b mark)
        by-kept true q =
            let z = eqb-true s.loader.kept 0 q in
            rw (z, get_or-set_same s.line 0 b 0 (omega (arith, full)))
        by-kept false q = rw (ne_eqb (s.loader.kept + 1) 1 (λ z. eqb-false s.loader.kept 0 q (omega (arith, z))))

        by-room : (y : Bool) → ltb s.loader.kept line_limit ≡ y → at_mark (step_byte s b).line (step_byte s b).loader ≡ (eqb s.loader.kept 0 && eqb b mark)
        by-room true q = rw (joins s.store s.line s.loader b (eqb-false b newline p) (ltb-true s.loader.kept line_limit q)) (by-kept (eqb s.loader.kept 0) refl)
        by-room false q =
            let h = ltb-false s.loader.kept line_limit q in
            rw (too_long_lem s.store s.line s.loader b (eqb-false b newline p) h, ne_eqb s.loader.kept 0 (λ z. omega (arith, z, h)))

-- ---- the input up to a byte that ends something: n bytes before it join the line or end lines, and say nothing

module _ (go stop : Load → State) (said : Load → List ℕ) where
  pub record Split (s : Load) (input : List ℕ) (n : ℕ) : Type 0 where
    pub inside : n ≤ length input
    pub all : n ≡ length input → (take_input (go s) input ≡ go (step_piece s input)) × (say_input (go s) input ≡ [])
    pub some :
        n < length input →
        (take_input (go s) input ≡ take_input (stop (step_piece s (take n input))) (drop (suc n) input))
        × (say_input (go s) input ≡ said (step_piece s (take n input)) ++ say_input (stop (step_piece s (take n input))) (drop (suc n) input))

  split_none : (s : Load) → Split s [] 0
  split_none s = record { inside = omega arith; all = λ e. (refl, refl); some = λ h. absurd (omega (arith, h)) }

  split_here : (s : Load) (b : ℕ) (bs : List ℕ) → take_input_byte (go s) b ≡ stop s → say_input_byte (go s) b ≡ said s → Split s (b ∷ bs) 0
  split_here s b bs p q =
      record {
        inside = omega arith;
        all = λ e. absurd (omega (arith, e));
        some = λ h. (ap (λ (x : State). take_input x bs) p, ap (λ (l : List ℕ). l ++ say_input (take_input_byte (go s) b) bs) q ∙ ap (λ (x : State). said s ++ say_input x bs) p);
      }

  split_later : (s : Load) (b : ℕ) (bs : List ℕ) (n : ℕ) → take_input_byte (go s) b ≡ go (step_byte s b) → say_input_byte (go s) b ≡ [] → Split (step_byte s b) bs n → Split s (b ∷ bs) (suc n)
  split_later s b bs n p q rest =
      let says : say_input (go s) (b ∷ bs) ≡ say_input (go (step_byte s b)) bs = ap (λ (l : List ℕ). l ++ say_input (take_input_byte (go s) b) bs) q ∙ ap (λ (x : State). say_input x bs) p in
      record {
        inside = omega (arith, rest.inside);
        all = λ e. let r = rest.all (omega (arith, e)) in (ap (λ (x : State). take_input x bs) p ∙ r.0, says ∙ r.1);
        some = λ h. let r = rest.some (omega (arith, h)) in (ap (λ (x : State). take_input x bs) p ∙ r.0, says ∙ r.1);
      }

-- rule text, up to the newline that ends the line `?`
pub text_split : (s : Load) (input : List ℕ) → Ready s → Split reading text_after text_says s input (text_end (eqb s.loader.kept 0) (at_mark s.line s.loader) input)
unfolding text_end
text_split s [] r = split_none reading text_after text_says s
text_split s (b ∷ bs) r = by-test (at_mark s.line s.loader && eqb b newline) refl (subst (λ (n : ℕ). Split reading text_after text_says (step_byte s b) bs n) same (text_split (step_byte s b) bs (ready_step s b r)))
  where
    same : text_end (eqb (step_byte s b).loader.kept 0) (at_mark (step_byte s b).line (step_byte s b).loader) bs ≡ text_end (eqb b newline) (eqb s.loader.kept 0 && eqb b mark) bs
    same =
        ap (λ (x : Bool). text_end x (at_mark (step_byte s b).line (step_byte s b).loader) bs) (byte_empties s b)
        ∙ ap (λ (x : Bool). text_end (eqb b newline) x bs) (byte_marks s b r.line)

    by-test :
        (x : Bool) →
        (at_mark s.line s.loader && eqb b newline) ≡ x →
        Split reading text_after text_says (step_byte s b) bs (text_end (eqb b newline) (eqb s.loader.kept 0 && eqb b mark) bs) →
        Split reading text_after text_says s (b ∷ bs) (cond x 0 (suc (text_end (eqb b newline) (eqb s.loader.kept 0 && eqb b mark) bs)))
    by-test true p rest = split_here reading text_after text_says s b bs (rw p) (rw p)
    by-test false p rest = split_later reading text_after text_says s b bs _ (rw p) (rw p) rest

-- question lines, up to a newline
pub line_split : (s : Load) (input : List ℕ) → Split asking (λ (x : Load). asking (emptied x)) answer_text s input (before_newline input)
unfolding before_newline
line_split s [] = split_none asking (λ (x : Load). asking (emptied x)) answer_text s
line_split s (b ∷ bs) = by-test (eqb b newline) refl (line_split (step_byte s b) bs)
  where
    by-test :
        (x : Bool) →
        eqb b newline ≡ x →
        Split asking (λ (y : Load). asking (emptied y)) answer_text (step_byte s b) bs (before_newline bs) →
        Split asking (λ (y : Load). asking (emptied y)) answer_text s (b ∷ bs) (cond x 0 (suc (before_newline bs)))
    by-test true p rest = split_here asking (λ (y : Load). asking (emptied y)) answer_text s b bs (rw p) (rw p)
    by-test false p rest = split_later asking (λ (y : Load). asking (emptied y)) answer_text s b bs _ (rw p) (rw p) rest

-- the same from an index of the input, whose line ends at `end`
module _ (here : Load) (input : List ℕ) (i end : ℕ) (h : i ≤ length input) (e : end ≡ i + before_newline (drop i input)) {there : Load} (took : there ≡ step_piece here (take (end - i) (drop i input))) where
  pub lines-over : end ≡ length input → (take_input (asking here) (drop i input) ≡ asking there) × (say_input (asking here) (drop i input) ≡ [])
  lines-over q =
      let a = (line_split here (drop i input)).all (omega (arith, e, q, length-drop i input)) in
      (a.0 ∙ sym (ap asking (took ∙ ap (step_piece here) (run-last input i end h e q))), a.1)

  pub line-over :
      (end ≡ length input → ⊥) →
      (take_input (asking here) (drop i input) ≡ take_input (asking (emptied there)) (drop (end + 1) input))
      × (say_input (asking here) (drop i input) ≡ answer_text there ++ say_input (asking (emptied there)) (drop (end + 1) input))
  line-over q =
      let a = (line_split here (drop i input)).some (omega (arith, e, q, length-drop i input, end-within input i end h e)) in
      let run : end - i ≡ before_newline (drop i input) = omega (arith, e) in
      let there-is : step_piece here (take (before_newline (drop i input)) (drop i input)) ≡ there = sym (took ∙ ap (λ (n : ℕ). step_piece here (take n (drop i input))) run) in
      let past : i + suc (before_newline (drop i input)) ≡ end + 1 = omega (arith, e) in
      let behind : drop (suc (before_newline (drop i input))) (drop i input) ≡ drop (end + 1) input = drop-drop (suc (before_newline (drop i input))) i input ∙ ap (λ (n : ℕ). drop n input) past in (
        a.0 ∙ ap (λ (x : Load). take_input (asking (emptied x)) (drop (suc (before_newline (drop i input))) (drop i input))) there-is ∙ ap (take_input (asking (emptied there))) behind,
        a.1 ∙ ap (λ (x : Load). answer_text x ++ say_input (asking (emptied x)) (drop (suc (before_newline (drop i input))) (drop i input))) there-is ∙ ap (λ (l : List ℕ). answer_text there ++ say_input (asking (emptied there)) l) behind,
      )

-- ---- where the rule text ends, at an index of the input

module _ (input : List ℕ) (i : ℕ) (none lone : Bool) where
  pub end-here : i < length input → (lone && eqb (get_or input i 0) newline) ≡ true → text_end none lone (drop i input) ≡ 0
  unfolding text_end
  end-here h p = ap (text_end none lone) (drop-cons input i 0 h) ∙ rw p

  pub end_later : i < length input → (lone && eqb (get_or input i 0) newline) ≡ false → text_end none lone (drop i input) ≡ suc (text_end (eqb (get_or input i 0) newline) (none && eqb (get_or input i 0) mark) (drop (i + 1) input))
  unfolding text_end
  end_later h p =
      ap (text_end none lone) (drop-cons input i 0 h)
      ∙ rw p (ap (λ (k : ℕ). suc (text_end (eqb (get_or input i 0) newline) (none && eqb (get_or input i 0) mark) (drop k input))) (sym (add-one i)))

  pub end_none : length input ≤ i → text_end none lone (drop i input) ≡ 0
  unfolding text_end
  end_none h = ap (text_end none lone) (drop_of_length-le input {i = i} h)

pub text-inside : (none lone : Bool) (input : List ℕ) → text_end none lone input ≤ length input
unfolding text_end
text-inside none lone [] = omega arith
text-inside none lone (b ∷ bs) = by-test (lone && eqb b newline) (text-inside (eqb b newline) (none && eqb b mark) bs)
  where
    by-test : (x : Bool) → text_end (eqb b newline) (none && eqb b mark) bs ≤ length bs → cond x 0 (suc (text_end (eqb b newline) (none && eqb b mark) bs)) ≤ length (b ∷ bs)
    by-test true h = omega arith
    by-test false h = omega (arith, h)

-- the bytes behind an index
pub rest-is : (input : List ℕ) (k : ℕ) → take (length input - k) (drop k input) ≡ drop k input
rest-is input k = take_all (length input - k) (drop k input) (omega (arith, length-drop k input))

-- ---- a question line that is kept

module _ (st : Store) (line : List ℕ) (kept : ℕ) where
  pub answer-long : line_limit < kept → Refused too_long ≡ answer_of st line kept
  answer-long h = rw (lt-ltb line_limit kept h)

  pub answer-short : kept ≤ line_limit → asked (question_of st) (fields (take kept line)) ≡ answer_of st line kept
  answer-short h = rw (le-ltb line_limit kept h)

-- ---- a call of a state that answers as a contract says

front_there : (out l : List ℕ) → Front (length l) (written out 0 l)
unfolding written
front_there out l = (simp length-append (omega arith), sym (ap length (take-append_seam l _)))

module _ (most : ℕ) (st : Store) (line : List ℕ) (x : Session) (after : State) (said out : List ℕ) where
  abbrev given : State
  given = state st line x

  abbrev goes : State
  goes = cond (leb most (length out) && ready given.load) after given

  pub some_turn : Turns most given after said out (turn_of (leb most (length out)) given after said) (state goes.load.store goes.load.line (went_session x (turn_of (leb most (length out)) given after said))) (written out 0 (cond (leb most (length out) && ready given.load) said []))
  some_turn = record { answer = refl; state = by_state (leb most (length out)) (ready given.load); output = refl; front = by_front (leb most (length out)) (ready given.load) }
    where
      by_state : (a b : Bool) → state (cond (a && b) after given).load.store (cond (a && b) after given).load.line (went_session x (cond a (cond b (Ok (session_of after, length said)) (Err Damaged)) (Err NoRoom))) ≡ cond (a && b) after given
      by_state true true = refl
      by_state true false = refl
      by_state false b = refl

      by_front : (a b : Bool) → Front (went_count (cond a (cond b (Ok (session_of after, length said)) (Err Damaged)) (Err NoRoom))) (written out 0 (cond (a && b) said []))
      by_front true true = front_there out said
      by_front true false = front_there out []
      by_front false b = front_there out []

-- ---- what the loader's calls answer says whether the state is damaged

-- of a test that decides between an answer and a refusal
refused-where : {A : Type 0} {n : Refusal} (b : Bool) (a : A) (m : Refusal) → Err n ≡ cond b (Ok a) (Err m) → b ≡ false
refused-where true a m q = cc
refused-where false a m q = refl

answered-where : {A : Type 0} {x : A} (b : Bool) (a : A) (m : Refusal) → Ok x ≡ cond b (Ok a) (Err m) → b ≡ true
answered-where true a m q = refl
answered-where false a m q = cc

end_refused : {n : Refusal} (s : Load) → Err n ≡ end_answer s → ready s ≡ false
unfolding end_answer
end_refused s q = refused-where (ready s) _ _ q

end_reported : {a : Report} {l : Loader} (s : Load) → Ok (a, l) ≡ end_answer s → ready s ≡ true
unfolding end_answer
end_reported s q = answered-where (ready s) _ _ q

end_stays : (s : Load) → ready s ≡ false → end_after s ≡ s
unfolding end_after
end_stays s p = rw p

-- ---- the end of the rule text, by what the end call answers and leaves

module _ (s : State) {last : Loader} (p : last ≡ unmarked s.load.line s.load.loader) {r : Result (Report × Loader) Refusal} (answer : r ≡ end_answer (load s.load.store s.load.line last)) {st : Store} {line : List ℕ} (after : load st line (ended_loader last r) ≡ end_after (load s.load.store s.load.line last)) where
  ended : r ≡ end_answer (without_mark s.load)
  ended = answer ∙ ap (λ (x : Loader). end_answer (load s.load.store s.load.line x)) p

  pub text-damaged : {n : Refusal} (out : List ℕ) → r ≡ Err n → line_room ≤ length out → Turns line_room s (text_after s.load) (text_says s.load) out (Err Damaged) (state st line (session_of s)) out
  text-damaged out told room =
      let q = end_refused (without_mark s.load) (sym told ∙ ended) in
      let stays = end_stays (load s.load.store s.load.line last) (ap (λ (x : Loader). ready (load s.load.store s.load.line x)) p ∙ q) in
      subst (λ (x : State). Turns line_room s (text_after s.load) (text_says s.load) out (Err Damaged) x out)
      (sym (same_slices s (ap (λ (x : Loader). load st line x) (sym (ap (ended_loader last) told)) ∙ after ∙ stays)))
      (damaged out room (sym (ready-unmarked s.load) ∙ q))

  pub text_went :
      {a : Report} {next : Loader} {n : ℕ} {out out' : List ℕ} →
      r ≡ Ok (a, next) →
      line_room ≤ length out →
      Put line_room out 0 (report_text a) out' n →
      Turns line_room s (text_after s.load) (text_says s.load) out (Ok (record { loading = false; loader = next }, n)) (state st line (record { loading = false; loader = next })) out'
  text_went told room w =
      went room
      (sym (ready-unmarked s.load) ∙ end_reported (without_mark s.load) (sym told ∙ ended))
      (ap asking (ap (λ (x : Loader). load st line x) (sym (ap (ended_loader last) told)) ∙ after ∙ ap (λ (x : Loader). end_after (load s.load.store s.load.line x)) p))
      (put-said line_room w (ap ended_text (sym told ∙ ended)) (omega arith))

-- ---- and the question lines behind it

module _ (s : State) {out out₁ : List ℕ} {r : Result (Session × ℕ) Declined} {st : Store} {line : List ℕ} (turn : Turns line_room s (text_after s.load) (text_says s.load) out r (state st line (went_session (session_of s) r)) out₁) (room : line_room ≤ length out) (small : went_count r ≤ line_room) where
  answered : {b : Bool} → ready s.load ≡ b → r ≡ cond b (Ok (session_of (text_after s.load), length (text_says s.load))) (Err Damaged)
  answered q = let z = turn.answer in rw (le-leb line_room (length out) room, q) at z

  module _ {x : Session} {n : ℕ} (told : r ≡ Ok (x, n)) where
    pub undamaged : ready s.load ≡ true
    undamaged = by-test (ready s.load) refl
      where
        by-test : (b : Bool) → ready s.load ≡ b → ready s.load ≡ true
        by-test true q = q
        by-test false q = let y = sym told ∙ answered q in let z : ◌≡◌ {A = ℕ} 0 1 = cc in absurd (omega arith)

    pub at_most : n ≤ line_room
    at_most = let y = ap went_count told in omega (arith, small, y)

    begins : asking (load st line x.loader) ≡ text_after s.load
    begins =
        let z = turn.state in
        let y = rw (le-leb line_room (length out) room, undamaged) at z in
        ap (λ (w : Session). asking (load st line w.loader)) (sym (ap (went_session (session_of s)) told))
        ∙ ap (λ (w : State). asking w.load) y

    reported : Put line_room out 0 (text_says s.load) out₁ n
    reported =
        let z = turn.output in
        let counts : n ≡ length (text_says s.load) = ap went_count (sym told ∙ answered undamaged) in
        record { bytes = rw (le-leb line_room (length out) room, undamaged) at z; ends = omega (arith, counts); short = omega (arith, counts, at_most) }

    pub left-size : length out₁ ≡ length out
    left-size = put-length reported (omega (arith, reported.short, room))

    pub over-went :
        (input : List ℕ) {line₂ out₂ : List ℕ} {last : Loader} {m : ℕ} →
        line_room * suc (length input) ≤ length out →
        asking (load st line₂ last) ≡ take_input (asking (load st line x.loader)) input →
        Put (line_room * length input) out₁ n (say_input (asking (load st line x.loader)) input) out₂ m →
        Turns (line_room * suc (length input)) s (take_input (text_after s.load) input) (text_says s.load ++ say_input (text_after s.load) input) out (Ok (record { loading = false; loader = last }, m)) (state st line₂ (record { loading = false; loader = last })) out₂
    over-went input space a w =
        went space undamaged (a ∙ ap (λ (y : State). take_input y input) begins)
        (put-said (line_room * suc (length input)) (put_next (line_room * suc (length input)) reported w (omega (arith, room)) (omega arith)) (ap (λ (y : State). text_says s.load ++ say_input y input) begins) (omega arith))

-- ---- a piece of rule text, by what the loader answers and leaves

piece-refused : {n : Refusal} (s : Load) (text : List ℕ) → Err n ≡ piece_answer s text → ready s ≡ false
unfolding piece_answer
piece-refused s text q = refused-where (ready s) _ _ q

piece-done : {l : Loader} (s : Load) (text : List ℕ) → Ok l ≡ piece_answer s text → ready s ≡ true
unfolding piece_answer
piece-done s text q = answered-where (ready s) _ _ q

piece_stays : (s : Load) (text : List ℕ) → ready s ≡ false → piece_after s text ≡ s
unfolding piece_after
piece_stays s text p = rw p

piece-leaves : (s : Load) (text : List ℕ) → ready s ≡ true → piece_after s text ≡ step_piece s text
unfolding piece_after
piece-leaves s text p = rw p

is-reading : (s : State) → s.loading ≡ true → reading s.load ≡ s
is-reading s p = ap (λ (b : Bool). phased b s.load) (sym p)
  where
    phased : Bool → Load → State
    phased b l = record { loading = b; load = l }

is-asking : (s : State) → s.loading ≡ false → asking s.load ≡ s
is-asking s p = ap (λ (b : Bool). phased b s.load) (sym p)
  where
    phased : Bool → Load → State
    phased b l = record { loading = b; load = l }

module _ (s : State) (p : s.loading ≡ true) (input : List ℕ) (end : ℕ) (e : end ≡ text_end (eqb s.load.loader.kept 0) (at_mark s.load.line s.load.loader) input) {r : Result Loader Refusal} (answer : r ≡ piece_answer s.load (take end input)) {st : Store} {line : List ℕ} (after : load st line (fed_loader s.load.loader r) ≡ piece_after s.load (take end input)) where
  pub feed_damaged : {n : Refusal} (out : List ℕ) → r ≡ Err n → line_room * length input ≤ length out → Turns (line_room * length input) s (take_input s input) (say_input s input) out (Err Damaged) (state st line (session_of s)) out
  feed_damaged out told room =
      let q = piece-refused s.load (take end input) (sym told ∙ answer) in
      subst (λ (x : State). Turns (line_room * length input) s (take_input s input) (say_input s input) out (Err Damaged) x out)
      (sym (same_slices s (ap (λ (x : Loader). load st line x) (sym (ap (fed_loader s.load.loader) told)) ∙ after ∙ piece_stays s.load (take end input) q)))
      (damaged out room q)

  module _ {next : Loader} (told : r ≡ Ok next) where
    fine : ready s.load ≡ true
    fine = piece-done s.load (take end input) (sym told ∙ answer)

    led : load st line next ≡ step_piece s.load (take end input)
    led = ap (λ (x : Loader). load st line x) (sym (ap (fed_loader s.load.loader) told)) ∙ after ∙ piece-leaves s.load (take end input) fine

    split : Split reading text_after text_says s.load input end
    split = subst (λ (n : ℕ). Split reading text_after text_says s.load input n) (sym e) (text_split s.load input (ready-is s.load fine))

    read-ready : ready (load st line next) ≡ true
    read-ready = ap ready led ∙ is-ready (step_piece s.load (take end input)) (ready-piece s.load (take end input) (ready-is s.load fine))

    -- all of it is rule text
    pub feed-all :
        (out : List ℕ) →
        line_room * length input ≤ length out →
        end ≡ length input →
        Turns (line_room * length input) s (take_input s input) (say_input s input) out (Ok (record { loading = true; loader = next }, 0)) (state st line (record { loading = true; loader = next })) out
    feed-all out room q =
        let a = split.all q in
        went room fine
        (ap reading (led ∙ ap (step_piece s.load) (take_all end input (omega (arith, q)))) ∙ sym a.0 ∙ ap (λ (x : State). take_input x input) (is-reading s p))
        (put-said (line_room * length input) (put-none 0 out 0) (sym a.1 ∙ ap (λ (x : State). say_input x input) (is-reading s p)) (omega arith))

    -- the line `?` ends it
    pub feed-rest :
        {out out' rest line₂ : List ℕ} {st₂ : Store} {r₂ : Result (Session × ℕ) Declined} →
        rest ≡ drop (end + 1) input →
        line_room * length input ≤ length out →
        (end ≡ length input → ⊥) →
        Turns (line_room * suc (length rest)) (reading (load st line next)) (take_input (text_after (load st line next)) rest) (text_says (load st line next) ++ say_input (text_after (load st line next)) rest) out r₂ (state st₂ line₂ (went_session (record { loading = true; loader = next }) r₂)) out' →
        Turns (line_room * length input) s (take_input s input) (say_input s input) out r₂ (state st₂ line₂ (went_session (session_of s) r₂)) out'
    feed-rest {out = out} {out' = out'} {rest = rest} {line₂ = line₂} {st₂ = st₂} {r₂ = r₂} is room some turn =
        let less : end < length input = omega (arith, some, split.inside) in
        let small : line_room * suc (length rest) ≤ line_room * length input = omega (arith, ap length is, length-drop (end + 1) input, less) in
        let q = split.some less in
        let behind : rest ≡ drop (suc end) input = is ∙ ap (λ (k : ℕ). drop k input) (add-one end) in
        let answer = turn.answer in
        let told = rw (le-leb (line_room * suc (length rest)) (length out) (omega (arith, small, room)), read-ready) at answer in
        subst (λ (x : Session). Turns (line_room * length input) s (take_input s input) (say_input s input) out r₂ (state st₂ line₂ x) out')
        (ap (went_session (record { loading = true; loader = next })) told ∙ sym (ap (went_session (session_of s)) told))
        (hands_on turn small room read-ready fine
        (ap (λ (x : Load). take_input (text_after x) rest) led
        ∙ ap (take_input (text_after (step_piece s.load (take end input)))) behind
        ∙ sym q.0
        ∙ ap (λ (y : State). take_input y input) (is-reading s p))
        (ap (λ (x : Load). text_says x ++ say_input (text_after x) rest) led
        ∙ ap (λ (l : List ℕ). text_says (step_piece s.load (take end input)) ++ say_input (text_after (step_piece s.load (take end input))) l) behind
        ∙ sym q.1
        ∙ ap (λ (y : State). say_input y input) (is-reading s p)))

-- ---- question lines, and the end of the input

module _ (s : State) (p : s.loading ≡ false) where
  pub finish-none : (out : List ℕ) → line_room ≤ length out → ready s.load ≡ true → s.load.loader.kept ≡ 0 → Turns line_room s (take_last s) (say_last s) out (Ok (session_of s, 0)) s out
  finish-none out room fine k =
      went room fine
      (sym (is-asking s p) ∙ ap (λ (n : ℕ). asking (load s.load.store s.load.line (with_kept s.load.loader n))) k ∙ sym (ap (λ (b : Bool). last_by b s.load) p))
      (put-said line_room (put-none 0 out 0) (sym (ap (λ (b : Bool). say_last_by b s.load) p ∙ silent)) (omega arith))
    where
      silent : say_last_by false s.load ≡ []
      silent = rw (le-ltb 0 s.load.loader.kept (omega (arith, k)))

-- ---- question lines, read up to index i of the input: what was said so far, and what is still to be said

pub record Said (begun here : State) (input : List ℕ) (i : ℕ) (out₀ : List ℕ) (from : ℕ) (out : List ℕ) (at : ℕ) : Type 0 where
  pub so_far : List ℕ
  pub put : Put (line_room * i) out₀ from so_far out at
  pub says : say_input begun input ≡ so_far ++ say_input here (drop i input)

-- Of each call the first fault that holds: the answer is built by tests, and these are the faults in their order. Assumes nothing.
use Prim.Native.Nat.{ℕ, ◌+◌, ◌-◌, ◌≤◌}
use native.Mathlib.Omega.{arith}
use mathlib.Core.Path.{◌≡◌, refl, sym, ap, ◌∙◌}
use mathlib.Core.Bool.{Bool, true, false, cond, not, ◌&&◌, ◌||◌}
use mathlib.Core.List.{List, [], ◌∷◌, foldl}
use mathlib.Core.Logic.{◌↔◌}
use lib.Dec.{eqb, ltb, leb}
use lib.ListN.{length, get_or}
use borrow.Author.Tests.{lt-ltb, le-ltb, ltb-true, ltb-false, le-leb, lt-leb, leb-true, leb-false, eq-eqb, ne_eqb}
use Rattle.search.specs.Search.{all, first, entries, place_of, later}
use Rattle.search.specs.Bytes.{ascii, same_bytes}
use Rattle.std.proofs.Common.{Option, Some, None, Result, Ok, Err}
use Rattle.search.proofs.Laws.{no, and_both, entries-length, all-at, first-none}
use Rattle.refusals.specs.Refusals.{damaged, too_long, wrong_fields, bad_access, same_labels, labels_full, rules_full, bad_request, bad_level_or_category, mappings_full, too_many_overrides, no_such_number, bad_label_at, bad_label, bad_option, bad_option_category, no_such_mapping, not_in_an_option, other_doi, output_too_short}
use Rattle.refusals.specs.declared.Refusal.{Refusal}
use Rattle.alphabet.specs.Alphabet.{well_formed, bad_byte, bad_byte_of_two, fields, bad_byte_in}
use Rattle.modes.specs.Modes.{allowed_byte, modes_of, read_modes, line_letters, change_letters, request_letters, any, stored_modes}
use Rattle.lookups.specs.declared.Cipso.{Cipso}
use Rattle.numbers.specs.Categories.{is_level, is_mapping_level, is_category, known_set, no_categories, with_category}
use Rattle.numbers.specs.declared.CategorySet.{CategorySet}
use Rattle.numbers.proofs.Sets.{category_sets}
use Rattle.numbers.specs.Numbers.{number_of}
use Rattle.set_bytes.specs.SetBytes.{bit_at, set_of_bitmap, only_categories}
use Rattle.store.specs.declared.Mapping.{Mapping}
use Rattle.store.specs.Table.{Table, fresh, label_in, mapping_in, names, rule_numbered, no_place, with_onlycap, sound_rule, sound_mapping, sound_table}
use Rattle.store.specs.Pairs.{modes_found, modes_between, modes_or_none}
use Rattle.store.specs.Layout.{Store, table_of, full_sizes, undamaged_of, label_at, rule_at, mapping_at}
use Rattle.store.specs.Judged.{Judged, is_skipped, is_refused, is_accepted, done_of, on_state, fresh_write, fresh_answer}
use Rattle.store.proofs.Laws.{undamaged-is}
use Rattle.lines.specs.Lines.{refused, rule, change, rule_with, rule_by, rule_fields, rule_of, change_with, change_by, change_fields, change_of, bring_up_in}
use Rattle.rules.specs.Rules.{pair_labels, pair_rule, with_pair, pair_judged}
use Rattle.rules.proofs.Pairs.{pair-length}
use Rattle.writes.specs.Writes.{judged, changed, outcome_of, line_outcome, change_write, change_answer}
use Rattle.writes.specs.declared.Outcome.{Outcome}
use Rattle.writes.specs.declared.Outcome.TheVariants as v
use Rattle.revoke.specs.Revoke.{without_modes, revoke_write, revoke_count, count_of, revoke_answer}
use Rattle.onlycap.specs.Onlycap.{lone_dash, different, labels_with, with_list, onlycap_labels, onlycap_fields, onlycap_write, onlycap_answer}
use Rattle.cipso.specs.Cipso as cipso
use Rattle.cipso.proofs.Laws.{categories_from, categories_start}
use Rattle.lookups.specs.Lookups.{lookup_by, looked_up, label_lookup, has_both, sought, level_lookup, by_label_of, by_level_of}
use Rattle.cipso_option.specs.Option.{our_doi, option_by, label_option, option_given, option_answer, doi_in, is_option, Peer, not_read, own_peer, mapped_peer, peer_at, peer_of, peer_given}
use Rattle.cipso_option.specs.Option as peer
use Rattle.cipso_option.proofs.Laws.{option_short, option_long, option_tests, option_sized, doi_tests}
use Rattle.run.specs.declared.Record.{Record}
use Rattle.run.specs.Run as run
use Rattle.program.specs.Program.{asked, answer_to}
use Rattle.access.specs.Access.{is_found, effective, answer, answered, decide, by_request, question_of}
use Rattle.new_object.specs.NewObject.{object_label_for, object_label, object_label_of}
use Rattle.new_object.specs.declared.ObjectLabel.{ObjectLabel}
use Rattle.access.specs.SevenRules.{first_of, seven_rules}
use Rattle.access.specs.declared.Verdict.{Verdict}
use Rattle.access.specs.declared.Verdict.TheVariants as verdict
use Rattle.access.specs.declared.Answer.{Answer}
use Rattle.access.specs.declared.Answer.TheVariants as a
use Rattle.output.specs.Output as output
use Rattle.output.specs.Output.{put_answer, text_answer}
use Rattle.listing.specs.Listing.{rule_text, rule_given, list_answer, label_answer}
use Rattle.load.specs.Loader.{Load, ready, piece_answer, end_answer}
use Rattle.grown.specs.Pairs.{SoundTable, new_labels, has_rule}
use Rattle.grown.proofs.Pairs.{undamaged-sound, labels-counted}
use Rattle.faults.proofs.Different.{those-all, entered_many}
use Rattle.faults.proofs.Records.{refuses, error_of, of_result, not_leb, text-first, record_faults_lem, line_faults_lem}
use Rattle.faults.specs.Faults.{
  Fault,
  ◌when◌,
  First,
  none,
  by,
  first_fault,
  Refuses,
  bad_labels,
  bad_access_field,
  free_places,
  pair_faults,
  line_field_faults,
  line_faults,
  change_faults,
  revoke_faults,
  change_field_faults,
  different_ones,
  new_ones,
  clears,
  onlycap_label_faults,
  onlycap_field_faults,
  onlycap_faults,
  number_passes,
  level_field,
  category_field,
  has_mapping,
  mapping_field_faults,
  mapping_faults,
  fresh_faults,
  loader_faults,
  by_label_faults,
  in_run_faults,
  by_level_faults,
  option_for,
  write_option_faults,
  is_not,
  other_layout,
  doi_is_not_3,
  option_level,
  option_bitmap,
  rebuilt,
  some_label_has,
  read_option_faults,
  is_too_long,
  field,
  ask_faults,
  question_faults,
  new_object_faults,
  asks_a_question,
  question_line_faults,
  listing_faults,
  label_by_number_faults,
  FirstInOrder,
}

-- ---- what other answers are refused by

abbrev peer-by : Peer → First Refusal
peer-by (peer.label x) = none
peer-by (not_read n) = by n

of_peer : (x : Peer) (faults : List (Fault Refusal)) → peer-by x ≡ first_fault faults → Refuses x not_read faults
of_peer = refuses not_read peer-by (λ n. refl) from
  where
    from : (x : Peer) (n : Refusal) → peer-by x ≡ by n → x ≡ not_read n
    from (peer.label x) n q = let z : ◌≡◌ {A = ℕ} 0 1 = cc in absurd (omega arith)
    from (not_read m) n q = let z : m ≡ n = cc in ap not_read z

abbrev answer-by : Answer → First Refusal
answer-by (a.Granted x) = none
answer-by (a.Denied x) = none
answer-by (a.Override x) = none
answer-by (a.Refused n) = by n

of_answer : (x : Answer) (faults : List (Fault Refusal)) → answer-by x ≡ first_fault faults → Refuses x a.Refused faults
of_answer = refuses a.Refused answer-by (λ n. refl) from
  where
    from : (x : Answer) (n : Refusal) → answer-by x ≡ by n → x ≡ a.Refused n
    from (a.Granted x) n q = let z : ◌≡◌ {A = ℕ} 0 1 = cc in absurd (omega arith)
    from (a.Denied x) n q = let z : ◌≡◌ {A = ℕ} 0 1 = cc in absurd (omega arith)
    from (a.Override x) n q = let z : ◌≡◌ {A = ℕ} 0 1 = cc in absurd (omega arith)
    from (a.Refused m) n q = let z : m ≡ n = cc in ap a.Refused z

-- and what a write is judged by
abbrev state_faults : Store → List (Fault Refusal) → List (Fault Refusal)
state_faults st more = damaged when not (undamaged_of st) ∷ more

abbrev write_faults : List ℕ → List (Fault Refusal) → List (Fault Refusal)
write_faults text more = too_long when ltb 600 (length text) ∷ more

abbrev long_faults : List ℕ → List (Fault Refusal) → List (Fault Refusal)
long_faults text more = too_long when ltb 1000 (length text) ∷ more

abbrev judged_by : Judged → First Refusal
judged_by is_skipped = none
judged_by (is_refused n) = by n
judged_by (is_accepted t) = none

done-judged : (j : Judged) → error_of (done_of j) ≡ judged_by j
done-judged is_skipped = refl
done-judged (is_refused n) = refl
done-judged (is_accepted t) = refl

outcome_judged : (held : Bool) (j : Judged) → error_of (outcome_of held j) ≡ judged_by j
outcome_judged held is_skipped = refl
outcome_judged held (is_refused n) = refl
outcome_judged held (is_accepted t) = refl

count-judged : (k : ℕ) (j : Judged) → error_of (count_of k j) ≡ judged_by j
count-judged k is_skipped = refl
count-judged k (is_refused n) = refl
count-judged k (is_accepted t) = refl

-- ---- the test of the state comes first

state-first :
    {A R : Type 0} (refusal : A → First R) (b : Bool) (x y : A) (more : First R) {z : R} →
    refusal y ≡ by z →
    (b ≡ true → refusal x ≡ more) →
    refusal (cond b x y) ≡ cond (not b) (by z) more
state-first refusal true x y more e h = h refl
state-first refusal false x y more e h = e

-- ---- a fresh table, a piece, the end call

fresh-first : (st : Store) → Refuses (fresh_answer st) Err (fresh_faults st)
unfolding fresh_answer fresh_write
fresh-first st = of_result _ (fresh_faults st) (state-first (λ j. error_of (done_of j)) (full_sizes st) (is_accepted fresh) (is_refused damaged) none refl (λ u. refl))

piece-first : (s : Load) (text : List ℕ) → Refuses (piece_answer s text) Err (loader_faults s)
unfolding piece_answer
piece-first s text = of_result _ (loader_faults s) (state-first error_of (ready s) _ (Err damaged) none refl (λ u. refl))

end-first : (s : Load) → Refuses (end_answer s) Err (loader_faults s)
unfolding end_answer
end-first s = of_result _ (loader_faults s) (state-first error_of (ready s) _ (Err damaged) none refl (λ u. refl))

-- ---- tests said otherwise

-- more than the free ones of n places
over-free : (places n k : ℕ) → n ≤ places → ltb places (n + k) ≡ ltb (places - n) k
over-free places n k h = by-test (ltb places (n + k)) refl
  where
    by-test : (b : Bool) → ltb places (n + k) ≡ b → b ≡ ltb (places - n) k
    by-test true q = sym (lt-ltb (places - n) k (omega (arith, ltb-true places (n + k) q)))
    by-test false q = sym (le-ltb (places - n) k (omega (arith, ltb-false places (n + k) q)))

-- of a table that has no more entries than it may have, it may have no more exactly when it has them all
full : (limit n : ℕ) → n ≤ limit → leb limit n ≡ eqb n limit
full limit n h = by-test (leb limit n) refl
  where
    by-test : (b : Bool) → leb limit n ≡ b → b ≡ eqb n limit
    by-test true q = sym (eq-eqb n limit (omega (arith, leb-true limit n q)))
    by-test false q = sym (ne_eqb n limit (λ z. omega (arith, leb-false limit n q)))

not_ltb : (a b : ℕ) → not (ltb a b) ≡ leb b a
not_ltb a b = by-test (ltb a b) refl
  where
    by-test : (x : Bool) → ltb a b ≡ x → not x ≡ leb b a
    by-test true q = sym (lt-leb _ _ (ltb-true a b q))
    by-test false q = sym (le-leb _ _ (ltb-false a b q))

-- ---- a pair, in tables within their limits

module _ (t : Table) (few_labels : length t.labels ≤ 64) (few_rules : length t.rules ≤ 256) where
  no_rule-place : (g : Option ℕ) → no_place g (length t.rules) 256 ≡ (not (has_rule (modes_found t.rules g)) && eqb (length t.rules) 256)
  no_rule-place (Some k) = refl
  no_rule-place None = full 256 (length t.rules) few_rules

  pair-first : (s o : List ℕ) (m : ℕ) → same_bytes s o ≡ false → judged_by (pair_judged t s o m) ≡ first_fault (pair_faults t s o)
  unfolding modes_between
  pair-first s o m different =
      by_tests (ltb 64 (length (pair_labels t s o))) (no_place (pair_rule t s o) (length t.rules) 256)
      ∙ rw (
        pair-length t s o different,
        labels-counted (label_in t s) (label_in t o) (length t.labels),
        over-free 64 (length t.labels) (new_labels (label_in t s) + new_labels (label_in t o)) few_labels,
        no_rule-place (pair_rule t s o),
      )
    where
      by_tests : (a b : Bool) → judged_by (cond a (is_refused labels_full) (cond b (is_refused rules_full) (is_accepted (with_pair t s o m)))) ≡ cond a (by labels_full) (cond b (by rules_full) none)
      by_tests true b = refl
      by_tests false true = refl
      by_tests false false = refl

  -- ---- a line of rule text

  rule-first :
      (place : ℕ) (s o x : List ℕ) →
      judged_by (judged t (rule_by place s o x))
      ≡ cond (bad_labels s o) (by (bad_label_at place)) (cond (bad_access_field line_letters true x) (by bad_access) (cond (same_bytes s o) (by same_labels) (first_fault (pair_faults t s o))))
  unfolding rule_by read_modes
  rule-first place s o x = by_tests (well_formed s) (well_formed o) (all (allowed_byte line_letters true) x)
    where
      by-same :
          (b : Bool) →
          same_bytes s o ≡ b →
          judged_by (judged t (cond b (refused same_labels) (rule s o (stored_modes (modes_of x))))) ≡ cond b (by same_labels) (first_fault (pair_faults t s o))
      by-same true q = refl
      by-same false q = pair-first s o (stored_modes (modes_of x)) q

      by_tests :
          (a b c : Bool) →
          judged_by (judged t (cond (a && b) (rule_with s o (cond c (Some (modes_of x)) None)) (refused (bad_label_at place))))
          ≡ cond (not a || not b) (by (bad_label_at place)) (cond (not c) (by bad_access) (cond (same_bytes s o) (by same_labels) (first_fault (pair_faults t s o))))
      by_tests false b c = refl
      by_tests true false c = refl
      by_tests true true false = refl
      by_tests true true true = by-same (same_bytes s o) refl

  line-fields :
      (place : ℕ) (fs : List (List ℕ)) → judged_by (judged t (rule_fields place fs)) ≡ first_fault (cond (eqb (length fs) 0) [] (line_field_faults t place fs))
  line-fields place [] = refl
  line-fields place (s ∷ []) = refl
  line-fields place (s ∷ o ∷ []) = refl
  line-fields place (s ∷ o ∷ x ∷ []) = rule-first place s o x
  line-fields place (s ∷ o ∷ x ∷ y ∷ more) =
      rw (ne_eqb (length (s ∷ o ∷ x ∷ y ∷ more)) 0 (λ q. omega arith), ne_eqb (length (s ∷ o ∷ x ∷ y ∷ more)) 3 (λ q. omega arith))

  line_first : (text : List ℕ) → judged_by (judged t (rule_of text)) ≡ first_fault (line_faults t text)
  unfolding rule_of
  line_first text = by_length (ltb 600 (length text))
    where
      by_length :
          (b : Bool) →
          judged_by (judged t (cond b (refused too_long) (rule_fields (bad_byte_in text) (fields text))))
          ≡ cond b (by too_long) (first_fault (cond (eqb (length (fields text)) 0) [] (line_field_faults t (bad_byte_in text) (fields text))))
      by_length true = refl
      by_length false = line-fields (bad_byte_in text) (fields text)

  -- ---- change

  change-by :
      (place : ℕ) (s o x y : List ℕ) →
      judged_by (judged t (change_by place s o x y))
      ≡ cond (bad_labels s o) (by (bad_label_at place))
      (cond (bad_access_field change_letters true x || bad_access_field change_letters true y) (by bad_access) (cond (same_bytes s o) (by same_labels) (first_fault (pair_faults t s o))))
  unfolding change_by read_modes
  change-by place s o x y = by_tests (well_formed s) (well_formed o) (all (allowed_byte change_letters true) x) (all (allowed_byte change_letters true) y)
    where
      by-same :
          (b : Bool) →
          same_bytes s o ≡ b →
          judged_by (judged t (cond b (refused same_labels) (change s o (modes_of x) (modes_of y)))) ≡ cond b (by same_labels) (first_fault (pair_faults t s o))
      by-same true q = refl
      by-same false q = pair-first s o (changed (modes_or_none (modes_between t s o)) (modes_of x) (modes_of y)) q

      by_tests :
          (a b c d : Bool) →
          judged_by (judged t (cond (a && b) (change_with s o (cond c (Some (modes_of x)) None) (cond d (Some (modes_of y)) None)) (refused (bad_label_at place))))
          ≡ cond (not a || not b) (by (bad_label_at place)) (cond (not c || not d) (by bad_access) (cond (same_bytes s o) (by same_labels) (first_fault (pair_faults t s o))))
      by_tests false b c d = refl
      by_tests true false c d = refl
      by_tests true true false d = refl
      by_tests true true true false = refl
      by_tests true true true true = by-same (same_bytes s o) refl

  change-fields : (place : ℕ) (fs : List (List ℕ)) → judged_by (judged t (change_fields place fs)) ≡ first_fault (change_field_faults t place fs)
  change-fields place [] = refl
  change-fields place (s ∷ []) = refl
  change-fields place (s ∷ o ∷ []) = refl
  change-fields place (s ∷ o ∷ x ∷ []) = refl
  change-fields place (s ∷ o ∷ x ∷ y ∷ []) = change-by place s o x y
  change-fields place (s ∷ o ∷ x ∷ y ∷ z ∷ more) = rw (ne_eqb (length (s ∷ o ∷ x ∷ y ∷ z ∷ more)) 4 (λ q. omega arith))

  change-judged : (text : List ℕ) → judged_by (change_write text t) ≡ cond (ltb 600 (length text)) (by too_long) (first_fault (change_field_faults t (bad_byte_in text) (fields text)))
  unfolding change_of
  change-judged text = by_length (ltb 600 (length text))
    where
      by_length :
          (b : Bool) →
          judged_by (judged t (cond b (refused too_long) (change_fields (bad_byte_in text) (fields text)))) ≡ cond b (by too_long) (first_fault (change_field_faults t (bad_byte_in text) (fields text)))
      by_length true = refl
      by_length false = change-fields (bad_byte_in text) (fields text)

-- ---- of a lent state

labels-few : (st : Store) → undamaged_of st ≡ true → length (table_of st).labels ≤ 64
labels-few st u = rw (entries-length (label_at st.labels) (get_or st.words 0 0)) (undamaged-is st u).counts.labels

rules-few : (st : Store) → undamaged_of st ≡ true → length (table_of st).rules ≤ 256
rules-few st u = rw (entries-length (rule_at st.entries) (get_or st.words 1 0)) (undamaged-is st u).counts.rules

mappings-few : (st : Store) → undamaged_of st ≡ true → length (table_of st).mappings ≤ 32
mappings-few st u = rw (entries-length (mapping_at st.entries st.words) (get_or st.words 2 0)) (undamaged-is st u).counts.mappings

-- a write that answers done
write-first :
    (st : Store) (write : Table → Judged) (more : List (Fault Refusal)) →
    (undamaged_of st ≡ true → judged_by (write (table_of st)) ≡ first_fault more) →
    Refuses (done_of (on_state st write)) Err (state_faults st more)
unfolding on_state
write-first st write more h =
    of_result _ (state_faults st more)
    (state-first (λ j. error_of (done_of j)) (undamaged_of st) (write (table_of st)) (is_refused damaged) (first_fault more) refl
    (λ u. done-judged (write (table_of st)) ∙ h u))

-- an outcome that is no skip
is_skipped_lem : Result Outcome Refusal → Bool
is_skipped_lem (Ok v.Skipped) = true
is_skipped_lem (Ok (v.Accepted held)) = false
is_skipped_lem (Err n) = false

not_skipped-refused : {n : Refusal} → Err n ≡ Ok v.Skipped → ⊥
unfolding is_skipped_lem
not_skipped-refused e = no (ap is_skipped_lem e)

never_skipped : (t : Table) (held : Bool) (place : ℕ) (s o access : List ℕ) → outcome_of held (judged t (rule_by place s o access)) ≡ Ok v.Skipped → ⊥
unfolding is_skipped_lem rule_by read_modes
never_skipped t held place s o access e = no (sym (by_tests (well_formed s && well_formed o) (all (allowed_byte line_letters true) access) (same_bytes s o)) ∙ ap is_skipped_lem e)
  where
    by-room : (p q : Bool) (u : Table) → is_skipped_lem (outcome_of held (cond p (is_refused labels_full) (cond q (is_refused rules_full) (is_accepted u)))) ≡ false
    by-room true q u = refl
    by-room false true u = refl
    by-room false false u = refl

    by_tests : (p q same : Bool) → is_skipped_lem (outcome_of held (judged t (cond p (rule_with s o (cond q (Some (modes_of access)) None)) (refused (bad_label_at place))))) ≡ false
    by_tests false q same = refl
    by_tests true false same = refl
    by_tests true true same = by-same (same_bytes s o)
      where
        by-same : (b : Bool) → is_skipped_lem (outcome_of held (judged t (cond b (refused same_labels) (rule s o (stored_modes (modes_of access)))))) ≡ false
        by-same true = refl
        by-same false = by-room (ltb 64 (length (pair_labels t s o))) (no_place (pair_rule t s o) (length t.rules) 256) (with_pair t s o (stored_modes (modes_of access)))

line_refused : (st : Store) (text : List ℕ) → undamaged_of st ≡ true → Refuses (line_outcome st text) Err (line_faults (table_of st) text)
unfolding line_outcome
line_refused st text u =
    of_result _ (line_faults (table_of st) text)
    (outcome_judged (bring_up_in text) (judged (table_of st) (rule_of text)) ∙ line_first (table_of st) (labels-few st u) (rules-few st u) text)

-- a line is skipped exactly where it is not too long and has no field
line-skipped : (st : Store) (text : List ℕ) → (line_outcome st text ≡ Ok v.Skipped) ↔ ((is_too_long text ≡ false) × (fields text ≡ []))
unfolding line_outcome rule_of
line-skipped st text = (λ e. by_length (is_too_long text) refl e, λ h. rw (h.0, h.1))
  where
    t : Table
    t = table_of st

    by-fields : (place : ℕ) (fs : List (List ℕ)) → outcome_of (bring_up_in text) (judged t (rule_fields place fs)) ≡ Ok v.Skipped → fs ≡ []
    by-fields place [] e = refl
    by-fields place (s ∷ []) e = absurd (not_skipped-refused e)
    by-fields place (s ∷ o ∷ []) e = absurd (not_skipped-refused e)
    by-fields place (s ∷ o ∷ a ∷ []) e = absurd (never_skipped t (bring_up_in text) place s o a e)
    by-fields place (s ∷ o ∷ a ∷ x ∷ more) e = absurd (not_skipped-refused e)

    by_length :
        (b : Bool) →
        is_too_long text ≡ b →
        outcome_of (bring_up_in text) (judged t (cond b (refused too_long) (rule_fields (bad_byte_in text) (fields text)))) ≡ Ok v.Skipped →
        (is_too_long text ≡ false) × (fields text ≡ [])
    by_length true q e = absurd (not_skipped-refused e)
    by_length false q e = (q, by-fields (bad_byte_in text) (fields text) e)

change-refused : (st : Store) (text : List ℕ) → Refuses (change_answer st text) Err (change_faults st text)
unfolding change_answer
change-refused st text =
    write-first st (change_write text) (write_faults text (change_field_faults (table_of st) (bad_byte_in text) (fields text)))
    (λ u. change-judged (table_of st) (labels-few st u) (rules-few st u) text)

-- ---- revoke

revoke-refused : (st : Store) (text : List ℕ) → Refuses (revoke_answer st text) Err (revoke_faults st text)
unfolding revoke_answer on_state revoke_write
revoke-refused st text =
    of_result _ (revoke_faults st text)
    (state-first (λ j. error_of (count_of k j)) (undamaged_of st) (revoke_write text (table_of st)) (is_refused damaged) _ refl
    (λ u. count-judged k (revoke_write text (table_of st)) ∙ by_tests (ltb 600 (length text)) (well_formed text)))
  where
    k : ℕ
    k = revoke_count text (table_of st)

    by_tests :
        (a b : Bool) →
        judged_by (cond a (is_refused too_long) (cond b (is_accepted (without_modes (table_of st) (label_in (table_of st) text))) (is_refused (bad_label_at (bad_byte text)))))
        ≡ cond a (by too_long) (cond (not b) (by (bad_label_at (bad_byte text))) none)
    by_tests true b = refl
    by_tests false true = refl
    by_tests false false = refl

-- ---- the override list, in tables within their limits

different_many : (fs : List (List ℕ)) → length (different fs) ≡ length (different_ones fs)
different_many fs = let k = ap length (those-all (different_ones fs)) in omega (arith, entered_many fs [])

module _ (t : Table) (few_labels : length t.labels ≤ 64) where
  labels-first : (place : ℕ) (fs : List (List ℕ)) → judged_by (onlycap_labels place t fs) ≡ first_fault (onlycap_label_faults t place fs)
  labels-first place fs =
      by_tests (all well_formed fs) (ltb 8 (length (different fs))) (ltb 64 (length (labels_with t fs)))
      ∙ rw (different_many fs, entered_many fs t.labels, over-free 64 (length t.labels) (length (new_ones t.labels fs)) few_labels)
    where
      by_tests :
          (a b c : Bool) →
          judged_by (cond a (cond b (is_refused too_many_overrides) (cond c (is_refused labels_full) (is_accepted (with_list t fs)))) (is_refused (bad_label_at place)))
          ≡ cond (not a) (by (bad_label_at place)) (cond b (by too_many_overrides) (cond c (by labels_full) none))
      by_tests false b c = refl
      by_tests true true c = refl
      by_tests true false true = refl
      by_tests true false false = refl

  lone_dash_is : (fs : List (List ℕ)) → lone_dash fs ≡ clears fs
  lone_dash_is [] = refl
  lone_dash_is (x ∷ []) = refl
  lone_dash_is (x ∷ y ∷ more) = rw (ne_eqb (length (x ∷ y ∷ more)) 1 (λ q. omega arith))

  override-first : (place : ℕ) (fs : List (List ℕ)) → judged_by (onlycap_fields place t fs) ≡ first_fault (onlycap_field_faults t place fs)
  override-first place [] = refl
  override-first place (x ∷ more) = rw (ne_eqb (length (x ∷ more)) 0 (λ q. omega arith)) (by-dash (lone_dash (x ∷ more)) (lone_dash_is (x ∷ more)))
    where
      by-dash :
          (b : Bool) →
          b ≡ clears (x ∷ more) →
          judged_by (cond b (is_accepted (with_onlycap t [])) (onlycap_labels place t (x ∷ more))) ≡ first_fault (cond (clears (x ∷ more)) [] (onlycap_label_faults t place (x ∷ more)))
      by-dash true q = rw (← q)
      by-dash false q = rw (← q) (labels-first place (x ∷ more))

  onlycap-judged : (text : List ℕ) → judged_by (onlycap_write text t) ≡ first_fault (write_faults text (onlycap_field_faults t (bad_byte_in text) (fields text)))
  unfolding onlycap_write
  onlycap-judged text = by_length (ltb 600 (length text))
    where
      by_length : (b : Bool) → judged_by (cond b (is_refused too_long) (onlycap_fields (bad_byte_in text) t (fields text))) ≡ cond b (by too_long) (first_fault (onlycap_field_faults t (bad_byte_in text) (fields text)))
      by_length true = refl
      by_length false = override-first (bad_byte_in text) (fields text)

onlycap-refused : (st : Store) (text : List ℕ) → Refuses (onlycap_answer st text) Err (onlycap_faults st text)
unfolding onlycap_answer
onlycap-refused st text =
    write-first st (onlycap_write text) (write_faults text (onlycap_field_faults (table_of st) (bad_byte_in text) (fields text))) (λ u. onlycap-judged (table_of st) (labels-few st u) text)

-- ---- mapping

-- of what is built by a test, both ways that the test can go
either : {A : Type 0} (refusal : A → First Refusal) (b : Bool) {x y : A} {m n : First Refusal} → refusal x ≡ m → refusal y ≡ n → refusal (cond b x y) ≡ cond b m n
either refusal true g h = g
either refusal false g h = h

module _ (t : Table) (few_labels : length t.labels ≤ 64) (few_mappings : length t.mappings ≤ 32) (sound : SoundTable t) where
  no_label-place : (g : Option ℕ) → no_place g (length t.labels) 64 ≡ ltb (free_places t) (new_labels g)
  no_label-place (Some k) = sym (le-ltb (64 - length t.labels) 0 (omega arith))
  no_label-place None = by-test (leb 64 (length t.labels)) refl
    where
      by-test : (b : Bool) → leb 64 (length t.labels) ≡ b → b ≡ ltb (64 - length t.labels) 1
      by-test true q = sym (lt-ltb (64 - length t.labels) 1 (omega (arith, leb-true 64 (length t.labels) q)))
      by-test false q = sym (le-ltb (64 - length t.labels) 1 (omega (arith, leb-false 64 (length t.labels) q)))

  -- no mapping names the number that a new label gets
  mappings-sound : all (sound_mapping (length t.labels)) t.mappings ≡ true
  unfolding sound_table
  mappings-sound =
      let n = length t.labels in
      let a = and_both (all (sound_rule n) t.rules && all (sound_mapping n) t.mappings) (all (λ (k : ℕ). ltb k n) t.onlycap) sound in
      (and_both (all (sound_rule n) t.rules) (all (sound_mapping n) t.mappings) a.0).1

  new-unmapped : mapping_in t (length t.labels) ≡ None
  unfolding sound_mapping names
  new-unmapped =
      first-none (names (length t.labels)) nowhere t.mappings
      (λ k h.
      let m = get_or t.mappings k nowhere in
      let e = all-at (sound_mapping (length t.labels)) nowhere t.mappings mappings-sound k h in
      let c = and_both (ltb m.label (length t.labels)) (known_set m.set) e in
      ne_eqb m.label (length t.labels) (λ q. omega (arith, ltb-true m.label (length t.labels) c.0)))
    where
      nowhere : Mapping
      nowhere = record { label = 0; level = 0; set = no_categories }

  no_mapping-place :
      (x : List ℕ) →
      no_place (cipso.mapping_for t x) (length t.mappings) 32 ≡ (not (has_mapping t (label_in t x)) && eqb (length t.mappings) 32)
  no_mapping-place x = by_label (label_in t x)
    where
      by-mapping : (g : Option ℕ) → no_place g (length t.mappings) 32 ≡ (not (is_found g) && eqb (length t.mappings) 32)
      by-mapping (Some k) = refl
      by-mapping None = full 32 (length t.mappings) few_mappings

      by_label :
          (g : Option ℕ) →
          no_place (mapping_in t (place_of g (length t.labels))) (length t.mappings) 32 ≡ (not (has_mapping t g) && eqb (length t.mappings) 32)
      by_label (Some n) = by-mapping (mapping_in t n)
      by_label None = rw new-unmapped (full 32 (length t.mappings) few_mappings)

  abbrev room_faults : List ℕ → List (Fault Refusal)
  room_faults x =
      labels_full when ltb (free_places t) (new_labels (label_in t x)) ∷ mappings_full when (not (has_mapping t (label_in t x)) && eqb (length t.mappings) 32) ∷ []

  room-first : (x : List ℕ) (level : ℕ) (s : CategorySet) → judged_by (cipso.mapping_judged t x level s) ≡ first_fault (room_faults x)
  room-first x level s =
      by_tests (no_place (label_in t x) (length t.labels) 64) (no_place (cipso.mapping_for t x) (length t.mappings) 32)
      ∙ rw (no_label-place (label_in t x), no_mapping-place x)
    where
      by_tests :
          (a b : Bool) →
          judged_by (cond a (is_refused labels_full) (cond b (is_refused mappings_full) (is_accepted (cipso.with_mapping t x level s)))) ≡ cond a (by labels_full) (cond b (by mappings_full) none)
      by_tests true b = refl
      by_tests false true = refl
      by_tests false false = refl

  -- fields make a set exactly when each is a category: one that is none makes the fault, which stays
  with_fault :
      (x : List ℕ) (level : ℕ) (fs : List (List ℕ)) →
      judged_by (cipso.said_judged t (cipso.with_set x level (foldl cipso.with_field (cipso.with_number no_categories None) fs))) ≡ by bad_level_or_category
  with_fault x level [] = refl
  with_fault x level (g ∷ fs) = with_fault x level fs

  with_categories :
      (x : List ℕ) (level : ℕ) (s : CategorySet) (fs : List (List ℕ)) →
      judged_by (cipso.said_judged t (cipso.with_set x level (categories_from s fs))) ≡ cond (not (all category_field fs)) (by bad_level_or_category) (first_fault (room_faults x))
  unfolding all
  with_categories x level s [] = room-first x level s
  with_categories x level s (g ∷ fs) = by_number (number_of g) (λ k. with_categories x level (with_category s k) fs)
    where
      by-test : (b c : Bool) → cond b (cond (not c) (by bad_level_or_category) (first_fault (room_faults x))) (by bad_level_or_category) ≡ cond (not (b && c)) (by bad_level_or_category) (first_fault (room_faults x))
      by-test true c = refl
      by-test false c = refl

      by_number :
          (k : Option ℕ) →
          ((n : ℕ) →
          judged_by (cipso.said_judged t (cipso.with_set x level (categories_from (with_category s n) fs)))
          ≡ cond (not (all category_field fs)) (by bad_level_or_category) (first_fault (room_faults x))) →
          judged_by (cipso.said_judged t (cipso.with_set x level (foldl cipso.with_field (cipso.with_number s k) fs)))
          ≡ cond (not (number_passes is_category k && all category_field fs)) (by bad_level_or_category) (first_fault (room_faults x))
      by_number None more = with_fault x level fs
      by_number (Some n) more =
          either (λ cs. judged_by (cipso.said_judged t (cipso.with_set x level (foldl cipso.with_field cs fs)))) (is_category n) (more n) (with_fault x level fs)
          ∙ by-test (is_category n) (all category_field fs)

  mapping-by :
      (place : ℕ) (x level : List ℕ) (fs : List (List ℕ)) →
      judged_by (cipso.said_judged t (cipso.said_by place x level fs))
      ≡ cond (not (well_formed x)) (by (bad_label_at place)) (cond (not (level_field level) || not (all category_field fs)) (by bad_level_or_category) (first_fault (room_faults x)))
  unfolding cipso.said_by
  mapping-by place x level fs = by-formed (well_formed x)
    where
      by-test :
          (n : ℕ) (b : Bool) →
          judged_by (cipso.said_judged t (cond b (cipso.with_set x n (cipso.categories_of fs)) (cipso.refused bad_level_or_category)))
          ≡ cond (not b || not (all category_field fs)) (by bad_level_or_category) (first_fault (room_faults x))
      by-test n true = rw (categories_start fs) (with_categories x n no_categories fs)
      by-test n false = refl

      by_level :
          (k : Option ℕ) →
          judged_by (cipso.said_judged t (cipso.with_level x k (cipso.categories_of fs)))
          ≡ cond (not (number_passes is_mapping_level k) || not (all category_field fs)) (by bad_level_or_category) (first_fault (room_faults x))
      by_level None = refl
      by_level (Some n) = by-test n (is_mapping_level n)

      by-formed :
          (b : Bool) →
          judged_by (cipso.said_judged t (cond b (cipso.with_level x (number_of level) (cipso.categories_of fs)) (cipso.refused (bad_label_at place))))
          ≡ cond (not b) (by (bad_label_at place)) (cond (not (level_field level) || not (all category_field fs)) (by bad_level_or_category) (first_fault (room_faults x)))
      by-formed true = by_level (number_of level)
      by-formed false = refl

  mapping-fields : (place : ℕ) (fs : List (List ℕ)) → judged_by (cipso.said_judged t (cipso.said_fields place fs)) ≡ first_fault (mapping_field_faults t place fs)
  mapping-fields place [] = refl
  mapping-fields place (x ∷ []) = refl
  mapping-fields place (x ∷ level ∷ fs) = rw (le-ltb (length (x ∷ level ∷ fs)) 2 (omega arith)) (mapping-by place x level fs)

  mapping-judged : (text : List ℕ) → judged_by (cipso.mapping_write text t) ≡ first_fault (long_faults text (mapping_field_faults t (bad_byte_in text) (fields text)))
  unfolding cipso.mapping_write cipso.mapping_of
  mapping-judged text = by_length (ltb 1000 (length text))
    where
      by_length :
          (b : Bool) →
          judged_by (cipso.said_judged t (cond b (cipso.refused too_long) (cipso.said_fields (bad_byte_in text) (fields text))))
          ≡ cond b (by too_long) (first_fault (mapping_field_faults t (bad_byte_in text) (fields text)))
      by_length true = refl
      by_length false = mapping-fields (bad_byte_in text) (fields text)

mapping-refused : (st : Store) (text : List ℕ) → Refuses (cipso.map_answer st text) Err (mapping_faults st text)
unfolding cipso.map_answer
mapping-refused st text =
    write-first st (cipso.mapping_write text) (long_faults text (mapping_field_faults (table_of st) (bad_byte_in text) (fields text)))
    (λ u. mapping-judged (table_of st) (labels-few st u) (mappings-few st u) (undamaged-sound st u) text)

-- ---- the lookups

by-label-refused : (st : Store) (x : List ℕ) → Refuses (by_label_of st x) Err (by_label_faults st x)
unfolding by_label_of label_lookup
by-label-refused st x = of_result _ (by_label_faults st x) (state-first error_of (undamaged_of st) _ (Err damaged) _ refl (λ u. by-test (well_formed x)))
  where
    by-mapping : (at : Option ℕ) → error_of (looked_up (table_of st).mappings at) ≡ none
    by-mapping (Some i) = refl
    by-mapping None = refl

    by_place : (at : Option ℕ) → error_of (lookup_by (table_of st) at) ≡ none
    by_place None = refl
    by_place (Some k) = by-mapping (mapping_in (table_of st) k)

    by-test : (b : Bool) → error_of (cond b (lookup_by (table_of st) (label_in (table_of st) x)) (Err (bad_label_at (bad_byte x)))) ≡ cond (not b) (by (bad_label_at (bad_byte x))) none
    by-test true = by_place (label_in (table_of st) x)
    by-test false = refl

-- a level and a set that can be looked up
by-sought : (at : Option ℕ) (level : ℕ) (set : CategorySet) → error_of (cond (sought level set) (Ok at) (Err bad_level_or_category)) ≡ first_fault (in_run_faults level set)
unfolding sought
by-sought at level set = by_tests (is_level level) (known_set set)
  where
    by_tests : (a b : Bool) → error_of (cond (a && b) (Ok at) (Err bad_level_or_category)) ≡ cond (not a || not b) (by bad_level_or_category) none
    by_tests true true = refl
    by_tests true false = refl
    by_tests false b = refl

by-level-refused : (st : Store) (level : ℕ) (set : CategorySet) → Refuses (by_level_of st level set) Err (by_level_faults st level set)
unfolding by_level_of level_lookup
by-level-refused st level set =
    of_result _ (by_level_faults st level set)
    (state-first error_of (undamaged_of st) _ (Err damaged) _ refl
    (λ u. by-sought (first (has_both (table_of st) level set) (entries (λ (k : ℕ). k) (length (table_of st).labels))) level set))

run-refused : (records : List Record) (level : ℕ) (set : CategorySet) → Refuses (run.run_of records level set) Err (in_run_faults level set)
unfolding run.run_of run.settled_of
run-refused records level set = of_result _ (in_run_faults level set) (by-sought (run.lowest_of records level set) level set)

-- ---- the packet option, written

write_option_refused : (st : Store) (x out : List ℕ) → Refuses (option_answer st x out) Err (write_option_faults st x out)
unfolding option_answer option_given label_option label_lookup
write_option_refused st x out =
    of_result _ (write_option_faults st x out)
    (state-first (λ y. error_of (text_answer y out)) (undamaged_of st) _ (output.refused damaged) _ refl (λ u. by-formed (well_formed x)))
  where
    t : Table
    t = table_of st

    -- of what was looked up: by what its option is refused, and by what where that is too long for the output
    option-by : Result (Option Cipso) Refusal → First Refusal
    option-by y = error_of (text_answer (option_by x y) out)

    sized : Result (Option Cipso) Refusal → First Refusal
    sized y = cond (ltb (length out) (length (option_for x y))) (by output_too_short) none

    by-own :
        (b : Bool) → error_of (text_answer (cond b (output.text (option_for x (Ok None))) (output.refused not_in_an_option)) out) ≡ cond (not b) (by not_in_an_option) (sized (Ok None))
    by-own true = text-first (option_for x (Ok None)) out
    by-own false = refl

    unmapped : option-by (Ok None) ≡ cond (ltb 23 (length x)) (by not_in_an_option) (sized (Ok None))
    unmapped = by-own (leb (length x) 23) ∙ rw (not_leb (length x) 23)

    by-mapping :
        (at : Option ℕ) → option-by (looked_up t.mappings at) ≡ cond (not (is_found at) && ltb 23 (length x)) (by not_in_an_option) (sized (looked_up t.mappings at))
    by-mapping (Some i) = text-first (option_for x (looked_up t.mappings (Some i))) out
    by-mapping None = unmapped

    by_place : (at : Option ℕ) → option-by (lookup_by t at) ≡ cond (not (has_mapping t at) && ltb 23 (length x)) (by not_in_an_option) (sized (lookup_by t at))
    by_place (Some k) = by-mapping (mapping_in t k)
    by_place None = unmapped

    looked : Bool → Result (Option Cipso) Refusal
    looked b = cond b (lookup_by t (label_in t x)) (Err (bad_label_at (bad_byte x)))

    by-formed :
        (b : Bool) → option-by (looked b) ≡ cond (not b) (by (bad_label_at (bad_byte x))) (cond (not (has_mapping t (label_in t x)) && ltb 23 (length x)) (by not_in_an_option) (sized (looked b)))
    by-formed true = by_place (label_in t x)
    by-formed false = refl

-- ---- the packet option, read

-- bytes are an option exactly where they have no other layout
layout_tested : (o : List ℕ) → is_option o ≡ not (other_layout o)
layout_tested o = by_length (ltb (length o) 10) refl (ltb 40 (length o)) refl
  where
    by_tests : (p q r s t : Bool) → (p && (q && (r && (s && t)))) ≡ not (not p || (not q || (not r || (not s || not t))))
    by_tests false q r s t = refl
    by_tests true false r s t = refl
    by_tests true true false s t = refl
    by_tests true true true false t = refl
    by_tests true true true true false = refl
    by_tests true true true true true = refl

    by_length :
        (a : Bool) →
        ltb (length o) 10 ≡ a →
        (b : Bool) →
        ltb 40 (length o) ≡ b →
        is_option o ≡ not (a || (b || (is_not o 0 134 || (is_not o 1 (length o) || (is_not o 6 1 || (is_not o 7 (length o - 6) || is_not o 8 0))))))
    by_length true e b f = option_short o (ltb-true _ _ e)
    by_length false e true f = option_long o (ltb-true _ _ f)
    by_length false e false f =
        sym (option_tests o (ltb-false _ _ e) (ltb-false _ _ f))
        ∙ by_tests (eqb (get_or o 0 0) 134) (eqb (get_or o 1 0) (length o)) (eqb (get_or o 6 0) 1) (eqb (get_or o 7 0) (length o - 6)) (eqb (get_or o 8 0) 0)

-- and its DOI is ours exactly where it is no other
doi_tested : (o : List ℕ) → 10 ≤ length o → same_bytes (doi_in o) our_doi ≡ not (doi_is_not_3 o)
doi_tested o h = sym (doi_tests o h) ∙ by_tests (eqb (get_or o 2 0) 0) (eqb (get_or o 3 0) 0) (eqb (get_or o 4 0) 0) (eqb (get_or o 5 0) 3)
  where
    by_tests : (p q r s : Bool) → (p && (q && (r && s))) ≡ not (not p || (not q || (not r || not s)))
    by_tests false q r s = refl
    by_tests true false r s = refl
    by_tests true true false s = refl
    by_tests true true true false = refl
    by_tests true true true true = refl

-- a search finds one exactly where one passes
found-any : (p : ℕ → Bool) (xs : List ℕ) → is_found (first p xs) ≡ any p xs
unfolding first
found-any p [] = refl
found-any p (x ∷ xs) = by-test (p x) (first p xs) (found-any p xs)
  where
    by-test : (b : Bool) (at : Option ℕ) → is_found at ≡ any p xs → is_found (cond b (Some 0) (later at)) ≡ (b || any p xs)
    by-test true at e = refl
    by-test false (Some k) e = e
    by-test false None e = e

-- the set of a bitmap can be looked up at any level
bitmap-sought : (level : ℕ) (bitmap : List ℕ) → is_level level ≡ true → sought level (set_of_bitmap bitmap) ≡ true
unfolding sought set_of_bitmap
bitmap-sought level bitmap h = rw (h, category_sets.passing_known (bit_at bitmap))

module _ (t : Table) (o : List ℕ) (h : is_level (option_level o) ≡ true) where
  abbrev peer_faults : List (Fault Refusal)
  peer_faults =
      bad_label when (eqb (option_level o) 250 && not (well_formed (rebuilt o)))
      ∷ no_such_mapping when (not (eqb (option_level o) 250) && not (some_label_has t (option_level o) (set_of_bitmap (option_bitmap o))))
      ∷ []

  -- by its level
  peer-at : peer-by (peer_at t (option_level o) (set_of_bitmap (option_bitmap o))) ≡ first_fault peer_faults
  unfolding peer_at level_lookup
  peer-at = rw (bitmap-sought (option_level o) (option_bitmap o) h) (by_level (eqb (option_level o) 250))
    where
      among : Option ℕ
      among = first (has_both t (option_level o) (set_of_bitmap (option_bitmap o))) (entries (λ (k : ℕ). k) (length t.labels))

      by-own : (b : Bool) → peer-by (cond b (peer.label (rebuilt o)) (not_read bad_label)) ≡ cond (not b) (by bad_label) none
      by-own true = refl
      by-own false = refl

      by-found : (at : Option ℕ) → peer-by (mapped_peer t (Ok at)) ≡ cond (not (is_found at)) (by no_such_mapping) none
      by-found (Some k) = refl
      by-found None = refl

      by_level :
          (b : Bool) →
          peer-by (cond b (own_peer (rebuilt o)) (mapped_peer t (Ok among)))
          ≡ cond (b && not (well_formed (rebuilt o))) (by bad_label) (cond (not b && not (some_label_has t (option_level o) (set_of_bitmap (option_bitmap o)))) (by no_such_mapping) none)
      by_level true = by-own (well_formed (rebuilt o))
      by_level false =
          by-found among
          ∙ ap (λ (b : Bool). cond (not b) (by no_such_mapping) none) (found-any (has_both t (option_level o) (set_of_bitmap (option_bitmap o))) (entries (λ (k : ℕ). k) (length t.labels)))

  peer-first :
      peer-by (peer_of t o)
      ≡ cond (other_layout o) (by bad_option) (cond (doi_is_not_3 o) (by other_doi) (cond (not (only_categories (option_bitmap o))) (by bad_option_category) (first_fault peer_faults)))
  unfolding peer_of
  peer-first = rw (layout_tested o) (by_layout (other_layout o) refl)
    where
      given : Peer
      given = peer_at t (option_level o) (set_of_bitmap (option_bitmap o))

      by_tests :
          (b c : Bool) →
          peer-by (cond (not b) (cond c given (not_read bad_option_category)) (not_read other_doi)) ≡ cond b (by other_doi) (cond (not c) (by bad_option_category) (first_fault peer_faults))
      by_tests true c = refl
      by_tests false true = peer-at
      by_tests false false = refl

      by_layout :
          (a : Bool) →
          other_layout o ≡ a →
          peer-by (cond (not a) (cond (same_bytes (doi_in o) our_doi) (cond (only_categories (option_bitmap o)) given (not_read bad_option_category)) (not_read other_doi)) (not_read bad_option))
          ≡ cond a (by bad_option) (cond (doi_is_not_3 o) (by other_doi) (cond (not (only_categories (option_bitmap o))) (by bad_option_category) (first_fault peer_faults)))
      by_layout true q = refl
      by_layout false q = rw (doi_tested o (option_sized o (layout_tested o ∙ ap not q)).0) (by_tests (doi_is_not_3 o) (only_categories (option_bitmap o)))

read_option_refused : (st : Store) (o : List ℕ) → is_level (option_level o) ≡ true → Refuses (peer_given st o) not_read (read_option_faults st o)
unfolding peer_given
read_option_refused st o h =
    of_peer _ (read_option_faults st o)
    (state-first peer-by (undamaged_of st) (peer_of (table_of st) o) (not_read damaged) _ refl (λ u. peer-first (table_of st) o h))

-- ---- a question

-- what the answer to a question is refused by, of any table
asked-first :
    (t : Table) (s o request : List ℕ) (capable : Bool) → answer-by (answer t s o request capable) ≡ first_fault (ask_faults s o request)
unfolding answer decide read_modes
asked-first t s o request capable = by_tests (well_formed s) (well_formed o) (eqb (length request) 0) (all (allowed_byte request_letters false) request)
  where
    by_verdict : (override : Bool) (x : Verdict) → answer-by (answered override x) ≡ none
    by_verdict override (verdict.Grants k) = refl
    by_verdict true (verdict.Denies x) = refl
    by_verdict false (verdict.Denies x) = refl
    by_verdict true verdict.Undecided = refl
    by_verdict false verdict.Undecided = refl

    by_tests :
        (p q m n : Bool) →
        answer-by (cond (p && q) (cond m (a.Refused bad_request) (by_request t s o capable (cond n (Some (modes_of request)) None))) (a.Refused (bad_label_at (bad_byte_of_two s o))))
        ≡ cond (not p || not q) (by (bad_label_at (bad_byte_of_two s o))) (cond (m || not n) (by bad_request) none)
    by_tests false q m n = refl
    by_tests true false m n = refl
    by_tests true true true n = refl
    by_tests true true false false = refl
    by_tests true true false true = by_verdict (effective t (label_in t s) capable) (first_of (seven_rules t s o (modes_of request)))

question-refused : (st : Store) (s o request : List ℕ) (capable : Bool) → Refuses (question_of st s o request capable) a.Refused (question_faults st s o request)
unfolding question_of
question-refused st s o request capable =
    of_answer _ (question_faults st s o request)
    (state-first answer-by (undamaged_of st) _ (a.Refused damaged) _ refl (λ u. asked-first (table_of st) s o request capable))

-- ---- the label of a new object

new-object-refused :
    (st : Store) (creator folder : List ℕ) (folder_transmutes is_folder : Bool) →
    Refuses (object_label_of st creator folder folder_transmutes is_folder) Err (new_object_faults st creator folder)
unfolding object_label_of object_label
new-object-refused st creator folder folder_transmutes is_folder =
    of_result _ (new_object_faults st creator folder)
    (state-first error_of (undamaged_of st) _ (Err damaged) _ refl (λ u. by_tests (well_formed creator) (well_formed folder)))
  where
    given : ObjectLabel
    given = object_label_for creator folder (modes_between (table_of st) creator folder) folder_transmutes is_folder

    by_tests :
        (p q : Bool) →
        error_of (cond (p && q) (Ok given) (Err (bad_label_at (bad_byte_of_two creator folder)))) ≡ cond (not p || not q) (by (bad_label_at (bad_byte_of_two creator folder))) none
    by_tests false q = refl
    by_tests true false = refl
    by_tests true true = refl

-- ---- a question line of the program

question-line-refused : (t : Table) (line : List ℕ) → Refuses (answer_to (answer t) line) a.Refused (question_line_faults line)
unfolding answer_to
question-line-refused t line = of_answer _ (question_line_faults line) (by_length (ltb 600 (length line)) (asked (answer t) (fields line)) (by-fields (fields line)))
  where
    by-o :
        (s o request c : List ℕ) (b : Bool) →
        answer-by (cond b (answer t s o request true) (a.Refused wrong_fields)) ≡ cond (not b) (by wrong_fields) (first_fault (ask_faults s o request))
    by-o s o request c true = asked-first t s o request true
    by-o s o request c false = refl

    by-fields :
        (fs : List (List ℕ)) →
        answer-by (asked (answer t) fs) ≡ cond (not (asks_a_question fs)) (by wrong_fields) (first_fault (ask_faults (field fs 0) (field fs 1) (field fs 2)))
    by-fields [] = refl
    by-fields (s ∷ []) = refl
    by-fields (s ∷ o ∷ []) = refl
    by-fields (s ∷ o ∷ r ∷ []) = asked-first t s o r false
    by-fields (s ∷ o ∷ r ∷ c ∷ []) = by-o s o r c (same_bytes c (ascii "o"))
    by-fields (s ∷ o ∷ r ∷ c ∷ x ∷ more) = rw (ne_eqb (length (s ∷ o ∷ r ∷ c ∷ x ∷ more)) 3 (λ e. omega arith), ne_eqb (length (s ∷ o ∷ r ∷ c ∷ x ∷ more)) 4 (λ e. omega arith))

    by_length :
        (b : Bool) (x : Answer) {m : First Refusal} →
        answer-by x ≡ m →
        answer-by (cond b (a.Refused too_long) x) ≡ cond b (by too_long) m
    by_length true x e = refl
    by_length false x e = e

-- ---- a rule and a label by number

listing-refused : (st : Store) (k : ℕ) (out : List ℕ) → Refuses (list_answer st k out) Err (listing_faults st k out)
unfolding list_answer rule_given put_answer
listing-refused st k out =
    of_result _ (listing_faults st k out)
    (state-first (λ x. error_of (text_answer x out)) (undamaged_of st) _ (output.refused damaged) _ refl
    (λ u. by_number (ltb k (length (table_of st).rules)) ∙ rw (not_ltb k (length (table_of st).rules), not_leb (length given) (length out))))
  where
    given : List ℕ
    given = rule_text (table_of st) (rule_numbered (table_of st) k)

    by_length : (b : Bool) → error_of (cond b (Ok (length given)) (Err output_too_short)) ≡ cond (not b) (by output_too_short) none
    by_length true = refl
    by_length false = refl

    by_number :
        (b : Bool) →
        error_of (text_answer (cond b (output.text given) (output.refused no_such_number)) out)
        ≡ cond (not b) (by no_such_number) (cond (not (leb (length given) (length out))) (by output_too_short) none)
    by_number false = refl
    by_number true = by_length (leb (length given) (length out))

label-refused : (st : Store) (k : ℕ) → Refuses (label_answer st k) Err (label_by_number_faults st k)
unfolding label_answer
label-refused st k =
    of_result _ (label_by_number_faults st k)
    (state-first error_of (undamaged_of st) _ (Err damaged) _ refl
    (λ u. by-test (ltb k (length (table_of st).labels)) ∙ rw (not_ltb k (length (table_of st).labels))))
  where
    by-test : (b : Bool) → error_of {A = Unit {0}} (cond b (Ok tt) (Err no_such_number)) ≡ cond (not b) (by no_such_number) none
    by-test true = refl
    by-test false = refl

pub first_in_order : FirstInOrder
first_in_order =
    record {
      fresh_table = fresh-first;
      piece = piece-first;
      end_call = end-first;
      line = line_refused;
      skipped_line = line-skipped;
      change = change-refused;
      revoke = revoke-refused;
      onlycap = onlycap-refused;
      mapping = mapping-refused;
      mapping_by_label = by-label-refused;
      by_level_and_set = by-level-refused;
      in_a_run = run-refused;
      write_option = write_option_refused;
      read_option = read_option_refused;
      question = question-refused;
      new_object = new-object-refused;
      question_line = question-line-refused;
      listing = listing-refused;
      label_by_number = label-refused;
      record_to_line = record_faults_lem;
      line_to_record = line_faults_lem;
    }

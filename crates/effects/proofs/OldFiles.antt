-- Lines of old files do what they did, but for b: a search for a pair finds the same rule, whatever its modes, a question asks for no b, and in an access field
-- b leaves what a dash leaves. Assumes nothing.
use mathlib.Core.Path.{◌≡◌, refl, sym, ap, ◌∙◌}
use mathlib.Core.Bool.{Bool, true, false, cond, ◌&&◌, ◌||◌}
use mathlib.Core.List.{List, [], ◌∷◌, map, foldl}
use Prim.Native.Nat.{ℕ, zero, suc}
use lib.Dec.{eqb, ltb}
use lib.Bits.{bit_and}
use borrow.Author.Tests.{eqb-true}
use lib.ListN.{length, get_or, set, length-map}
use Rattle.search.specs.Search.{all, put}
use Rattle.search.specs.Bytes.{same_bytes}
use Rattle.std.proofs.Common.{Option, Some, None}
use Rattle.search.proofs.Laws.{map_snoc}
use Rattle.refusals.specs.Refusals.{too_long, bad_label_at, same_labels, labels_full, rules_full}
use Rattle.alphabet.specs.Alphabet.{dash, is_blank, label_byte, well_formed, fields, bad_byte_in}
use Rattle.modes.specs.Modes.{bit_of, allowed_byte, modes_of, read_modes, line_letters, request_letters, known_modes, stored_modes}
use Rattle.modes.proofs.Bits.{and_swap, and_or}
use Rattle.modes.proofs.Laws.{joined, read_known, known-stored}
use Rattle.lines.specs.Lines.{refused, rule, rule_with, rule_by, rule_fields, rule_of, bring_up_in}
use Rattle.store.specs.declared.Rule.{Rule}
use Rattle.store.specs.Table.{Table, label_in, no_place}
use Rattle.store.specs.Pairs.{PairModes, has_modes, no_rule, rule_between, modes_found, modes_between}
use Rattle.store.specs.Judged.{Judged, is_skipped, is_refused, is_accepted, table_after}
use Rattle.rules.specs.Rules.{pair_labels, pair_rule, with_pair, pair_judged}
use Rattle.writes.specs.Writes.{judged, outcome_of}
use Rattle.access.specs.SevenRules.{holds, modes_pass}
use Rattle.access.specs.Access.{effective, decide, by_request, answer}
use Rattle.effects.proofs.Revoked.{same_place}
use Rattle.effects.specs.OldFiles.{rule_with_01, rule_fields_01, rule_of_01, rule_without_b, without_b, tables_by, outcomes_by, dash_for_b, AsBefore}

abbrev none : Rule
none = record { subject = 0; object = 0; modes = 0 }

-- ---- a rule put among rules, and one of them, without b

map-set : (l : List Rule) (i : ℕ) (r : Rule) → map rule_without_b (set l i r) ≡ set (map rule_without_b l) i (rule_without_b r)
map-set [] i r = refl
map-set (x ∷ xs) zero r = refl
map-set (x ∷ xs) (suc i) r = ap (λ (l : List Rule). rule_without_b x ∷ l) (map-set xs i r)

map-put : (f : Option ℕ) (l : List Rule) (r : Rule) → map rule_without_b (put f l r) ≡ put f (map rule_without_b l) (rule_without_b r)
unfolding put
map-put (Some i) l r = map-set l i r
map-put None l r = map_snoc rule_without_b l r

rule-at : (l : List Rule) (k : ℕ) → get_or (map rule_without_b l) k none ≡ rule_without_b (get_or l k none)
rule-at [] k = refl
rule-at (x ∷ xs) zero = refl
rule-at (x ∷ xs) (suc k) = rule-at xs k

-- ---- the pair's rule is the same one

abbrev modes_without_b : PairModes → PairModes
modes_without_b (has_modes m) = has_modes (stored_modes m)
modes_without_b no_rule = no_rule

module _ (t : Table) where
  same-rule : (s o : Option ℕ) → rule_between (without_b t) s o ≡ rule_between t s o
  same-rule (Some i) (Some j) = same_place rule_without_b (λ r. refl) (λ r. refl) t.rules i j
  same-rule (Some i) None = refl
  same-rule None o = refl

  found-modes : (f : Option ℕ) → modes_found (map rule_without_b t.rules) f ≡ modes_without_b (modes_found t.rules f)
  found-modes (Some k) = ap (λ (r : Rule). has_modes r.modes) (rule-at t.rules k)
  found-modes None = refl

  same-modes : (s o : List ℕ) → modes_between (without_b t) s o ≡ modes_without_b (modes_between t s o)
  unfolding modes_between
  same-modes s o =
      ap (modes_found (map rule_without_b t.rules)) (same-rule (label_in t s) (label_in t o))
      ∙ found-modes (rule_between t (label_in t s) (label_in t o))

-- ---- a line

abbrev judged_without_b : Judged → Judged
judged_without_b is_skipped = is_skipped
judged_without_b (is_refused r) = is_refused r
judged_without_b (is_accepted t) = is_accepted (without_b t)

module _ (t : Table) where
  pair_set : (s o : List ℕ) (m : ℕ) → with_pair (without_b t) s o (stored_modes m) ≡ without_b (with_pair t s o m)
  unfolding with_pair
  pair_set s o m = rw (same-rule t (label_in t s) (label_in t o), map-put (pair_rule t s o) t.rules)

  pair-judged : (s o : List ℕ) (m : ℕ) → pair_judged (without_b t) s o (stored_modes m) ≡ judged_without_b (pair_judged t s o m)
  pair-judged s o m =
      rw (pair_set s o m, same-rule t (label_in t s) (label_in t o), length-map t.rules rule_without_b)
      (by_tests (ltb 64 (length (pair_labels t s o))) (no_place (pair_rule t s o) (length t.rules) 256))
    where
      by_tests :
          (p q : Bool) →
          cond p (is_refused labels_full) (cond q (is_refused rules_full) (is_accepted (without_b (with_pair t s o m))))
          ≡ judged_without_b (cond p (is_refused labels_full) (cond q (is_refused rules_full) (is_accepted (with_pair t s o m))))
      by_tests true q = refl
      by_tests false true = refl
      by_tests false false = refl

  line-judged : (line : List ℕ) → judged (without_b t) (rule_of line) ≡ judged_without_b (judged t (rule_of_01 line))
  unfolding rule_of rule_by rule_of_01
  line-judged line = by_length (ltb 600 (length line))
    where
      by-same : (s o : List ℕ) (m : ℕ) (b : Bool) → judged (without_b t) (cond b (refused same_labels) (rule s o (stored_modes m))) ≡ judged_without_b (judged t (cond b (refused same_labels) (rule s o m)))
      by-same s o m true = refl
      by-same s o m false = pair-judged s o m

      by-access : (s o : List ℕ) (a : Option ℕ) → judged (without_b t) (rule_with s o a) ≡ judged_without_b (judged t (rule_with_01 s o a))
      by-access s o (Some m) = by-same s o m (same_bytes s o)
      by-access s o None = refl

      by-formed :
          (s o a : List ℕ) (b : Bool) →
          judged (without_b t) (cond b (rule_with s o (read_modes line_letters true a)) (refused (bad_label_at (bad_byte_in line))))
          ≡ judged_without_b (judged t (cond b (rule_with_01 s o (read_modes line_letters true a)) (refused (bad_label_at (bad_byte_in line)))))
      by-formed s o a true = by-access s o (read_modes line_letters true a)
      by-formed s o a false = refl

      by-fields : (fs : List (List ℕ)) → judged (without_b t) (rule_fields (bad_byte_in line) fs) ≡ judged_without_b (judged t (rule_fields_01 (bad_byte_in line) fs))
      by-fields [] = refl
      by-fields (s ∷ []) = refl
      by-fields (s ∷ o ∷ []) = refl
      by-fields (s ∷ o ∷ a ∷ []) = by-formed s o a (well_formed s && well_formed o)
      by-fields (s ∷ o ∷ a ∷ x ∷ more) = refl

      by_length :
          (b : Bool) →
          judged (without_b t) (cond b (refused too_long) (rule_fields (bad_byte_in line) (fields line)))
          ≡ judged_without_b (judged t (cond b (refused too_long) (rule_fields_01 (bad_byte_in line) (fields line))))
      by_length true = refl
      by_length false = by-fields (fields line)

  after_same : (j : Judged) → table_after (without_b t) (judged_without_b j) ≡ without_b (table_after t j)
  after_same is_skipped = refl
  after_same (is_refused r) = refl
  after_same (is_accepted u) = refl

  after_line : (line : List ℕ) → table_after (without_b t) (judged (without_b t) (rule_of line)) ≡ without_b (table_after t (judged t (rule_of_01 line)))
  after_line line = ap (table_after (without_b t)) (line-judged line) ∙ after_same (judged t (rule_of_01 line))

same_outcome : (b : Bool) (j : Judged) → outcome_of b (judged_without_b j) ≡ outcome_of b j
same_outcome b is_skipped = refl
same_outcome b (is_refused r) = refl
same_outcome b (is_accepted u) = refl

-- ---- lines one after another

tables-same : (t : Table) (ls : List (List ℕ)) → tables_by rule_of (without_b t) ls ≡ without_b (tables_by rule_of_01 t ls)
tables-same t [] = refl
tables-same t (l ∷ ls) = ap (λ (u : Table). tables_by rule_of u ls) (after_line t l) ∙ tables-same (table_after t (judged t (rule_of_01 l))) ls

outcomes_same : (t : Table) (ls : List (List ℕ)) → outcomes_by rule_of (without_b t) ls ≡ outcomes_by rule_of_01 t ls
outcomes_same t [] = refl
outcomes_same t (l ∷ ls) =
    rw (
      ap (outcome_of (bring_up_in l)) (line-judged t l) ∙ same_outcome (bring_up_in l) (judged t (rule_of_01 l)),
      after_line t l,
      outcomes_same (table_after t (judged t (rule_of_01 l))) ls,
    )

-- ---- a question

holds_same : (wanted m : ℕ) → known_modes wanted ≡ true → holds wanted (stored_modes m) ≡ holds wanted m
holds_same wanted m k =
    ap (λ (x : ℕ). eqb x wanted) (sym (and_swap wanted m 62) ∙ ap (λ (x : ℕ). bit_and x m) (known-stored wanted k))

pass_same : (p : PairModes) (wanted : ℕ) → known_modes wanted ≡ true → modes_pass (modes_without_b p) (holds wanted) ≡ modes_pass p (holds wanted)
pass_same (has_modes m) wanted k = holds_same wanted m k
pass_same no_rule wanted k = refl

module _ (t : Table) (s o : List ℕ) (capable : Bool) where
  decide-same : (wanted : ℕ) → known_modes wanted ≡ true → decide (without_b t) s o wanted capable ≡ decide t s o wanted capable
  unfolding decide effective
  decide-same wanted k = rw (same-modes t s o, pass_same (modes_between t s o) wanted k)

  request_same : (a : Option ℕ) → ((m : ℕ) → a ≡ Some m → known_modes m ≡ true) → by_request (without_b t) s o capable a ≡ by_request t s o capable a
  request_same (Some m) k = decide-same m (k m refl)
  request_same None k = refl

request_known : known_modes request_letters ≡ true
unfolding known_modes
request_known = refl

answer-same : (t : Table) (s o request : List ℕ) (capable : Bool) → answer (without_b t) s o request capable ≡ answer t s o request capable
unfolding answer
answer-same t s o request capable = rw (request_same t s o capable (read_modes request_letters false request) (read_known request_letters false request_known request))

-- ---- b is a placeholder

-- what is the same of a dash, of b and of B is the same of a byte and of what stands for it
dash-same : {A : Type 0} (g : ℕ → A) → g dash ≡ g 98 → g dash ≡ g 66 → (b : ℕ) → g (dash_for_b b) ≡ g b
dash-same g small capital b = by-test (eqb b 98) (eqb b 66) (eqb-true b 98) (eqb-true b 66)
  where
    by-test : (s t : Bool) → (s ≡ true → b ≡ 98) → (t ≡ true → b ≡ 66) → g (cond (s || (t || false)) dash b) ≡ g b
    by-test true t is-s is_t = rw (is-s refl) small
    by-test false true is-s is_t = rw (is_t refl) capital
    by-test false false is-s is_t = refl

-- so they are allowed alike, and leave the same
dash_allowed : (b : ℕ) → allowed_byte line_letters true (dash_for_b b) ≡ allowed_byte line_letters true b
unfolding allowed_byte bit_of
dash_allowed b = dash-same (allowed_byte line_letters true) refl refl b

dash-stored : (b : ℕ) → stored_modes (bit_of (dash_for_b b)) ≡ stored_modes (bit_of b)
unfolding bit_of
dash-stored b = dash-same (λ (x : ℕ). stored_modes (bit_of x)) refl refl b

field_allowed : (a : List ℕ) → all (allowed_byte line_letters true) (map dash_for_b a) ≡ all (allowed_byte line_letters true) a
unfolding all
field_allowed [] = refl
field_allowed (b ∷ bs) = rw (dash_allowed b, field_allowed bs)

field_stored : (a : List ℕ) (m n : ℕ) → stored_modes m ≡ stored_modes n → stored_modes (foldl joined m (map dash_for_b a)) ≡ stored_modes (foldl joined n a)
field_stored [] m n e = e
field_stored (b ∷ bs) m n e =
    field_stored bs (joined m (dash_for_b b)) (joined n b)
    (and_or m (bit_of (dash_for_b b)) 62 ∙ rw (e, dash-stored b) (sym (and_or n (bit_of b) 62)))

placeholder : (place : ℕ) (s o a : List ℕ) → rule_by place s o a ≡ rule_by place s o (map dash_for_b a)
unfolding rule_by read_modes modes_of
placeholder place s o a = rw (field_allowed a) (by-test (all (allowed_byte line_letters true) a))
  where
    by-test :
        (t : Bool) →
        cond (well_formed s && well_formed o) (rule_with s o (cond t (Some (foldl joined 0 a)) None)) (refused (bad_label_at place))
        ≡ cond (well_formed s && well_formed o) (rule_with s o (cond t (Some (foldl joined 0 (map dash_for_b a))) None)) (refused (bad_label_at place))
    by-test true = rw (field_stored a 0 0 refl)
    by-test false = refl

-- ---- THE CLAIM

pub as_before : AsBefore
unfolding rule_of rule_by rule_of_01 all same_bytes is_blank label_byte well_formed fields bit_of allowed_byte modes_of read_modes
as_before =
    record {
      placeholder = placeholder;
      tables = tables-same;
      lines = outcomes_same;
      questions = answer-same;
      fresh_table = refl;
      an_old_line = (refl, refl, refl, refl);
    }

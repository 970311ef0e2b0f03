-- Where the code finds the rule of a pair of labels, or puts it: by a search for each label and one for the rule. Nobody has to believe this. Assumes nothing.
use Rattle.std.specs.Prelude.{ℕ, ◌+◌, ◌≤◌, cond, ◌≡◌, List, length, get_or, ltb, Option, Some, None, Result, Ok, Err}
use Rattle.refusals.specs.Refusals.{labels_full, rules_full}
use Rattle.search.specs.Within.{count_after}
use Rattle.search.specs.Search.{put, place_of}
use Rattle.store.specs.declared.Rule.{Rule}
use Rattle.store.specs.Table.{Table, label_in, pair_in, label_limit, rule_limit, labels_entered, no_place}
use Rattle.store.specs.Layout.{Store, table_of, modes_from, Sizes}
use Rattle.store.specs.Judged.{Judged, is_refused, is_accepted}
use Rattle.store.specs.Within.{Counts}
use Rattle.rules.specs.declared.Spot.{Spot}
use Rattle.refusals.specs.declared.Refusal.{Refusal}

-- the numbers that two labels have, or get when they enter, subject first, and how many labels there then are
abbrev pub subject_number_of : Table → Option ℕ → ℕ
subject_number_of t s = place_of s (length t.labels)

abbrev pub object_number_of : Table → Option ℕ → Option ℕ → ℕ
object_number_of t s o = place_of o (count_after s (length t.labels))

abbrev pub labels_after : Table → Option ℕ → Option ℕ → ℕ
labels_after t s o = count_after o (count_after s (length t.labels))

-- the pair's rule, by these numbers
abbrev pub rule_of_pair : Table → Option ℕ → Option ℕ → Option ℕ
rule_of_pair t s o = pair_in t (subject_number_of t s) (object_number_of t s o)

-- 6 more new labels than free label places, 7 the pair has no rule and 256 are stored
abbrev pub place_for : Table → Option ℕ → Option ℕ → Result Spot Refusal
place_for t s o =
    cond (ltb label_limit (labels_after t s o))
    (Err labels_full)
    (cond (no_place (rule_of_pair t s o) (length t.rules) rule_limit)
    (Err rules_full)
    (Ok (record { subject = s; object = o; rule = rule_of_pair t s o })))

unfoldable pub placing : Table → List ℕ → List ℕ → Result Spot Refusal
placing t s o = place_for t (label_in t s) (label_in t o)

-- the modes of the pair's rule; a pair with no rule has none
abbrev pub modes_of_rule : Option ℕ → List Rule → ℕ
modes_of_rule (Some i) rules = (get_or rules i (record { subject = 0; object = 0; modes = 0 })).modes
modes_of_rule None rules = 0

-- an accepted rule: new labels enter, subject first, and the pair's modes are set wholly, in its place or last
abbrev pub rule_for : Table → Spot → ℕ → Rule
rule_for t spot m = record { subject = subject_number_of t spot.subject; object = object_number_of t spot.subject spot.object; modes = m }

unfoldable pub with_pair_at : Table → List ℕ → List ℕ → Spot → ℕ → Table
with_pair_at t s o spot m =
    record {
      labels = labels_entered spot.object (labels_entered spot.subject t.labels s) o;
      rules = put spot.rule t.rules (rule_for t spot m);
      mappings = t.mappings;
      onlycap = t.onlycap;
    }

-- what becomes of it, by the place
abbrev pub judged_at : Table → List ℕ → List ℕ → ℕ → Result Spot Refusal → Judged
judged_at t s o m (Err n) = is_refused n
judged_at t s o m (Ok spot) = is_accepted (with_pair_at t s o spot m)

-- the modes of the rule at a place
abbrev pub modes_at_place : List ℕ → Option ℕ → ℕ
modes_at_place e (Some i) = get_or e (modes_from + i) 0
modes_at_place e None = 0

-- what is known of a pair that has a place in a tested store
pub record Placed (st : Store) (s o : List ℕ) (spot : Spot) : Type 0 where
  pub sizes : Sizes st.labels st.entries st.words
  pub counts : Counts st.words
  pub at : placing (table_of st) s o ≡ Ok spot
  pub subject : length s ≤ 255
  pub object : length o ≤ 255

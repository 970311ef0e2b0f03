-- What the code finds and sets is what 01 says of the pair: of two different labels, in sound tables. Assumes nothing.
use mathlib.Core.Path.{◌≡◌, refl, sym, ap, ◌∙◌}
use mathlib.Core.Bool.{Bool, true, false, cond}
use mathlib.Core.List.{List}
use Prim.Native.Nat.{ℕ}
use lib.Dec.{ltb}
use lib.ListN.{length}
use Rattle.search.specs.Search.{first}
use Rattle.search.specs.Bytes.{same_bytes}
use Rattle.std.proofs.Common.{Option, Some, None, Ok, Err}
use Rattle.search.proofs.Laws.{same_sym}
use Rattle.refusals.specs.Refusals.{labels_full, rules_full}
use Rattle.store.specs.Table.{Table, label_in, enter, no_place, sound_table}
use Rattle.store.specs.Pairs.{modes_found, modes_between, modes_or_none}
use Rattle.store.specs.Judged.{is_refused, is_accepted}
use Rattle.store.proofs.Pairs.{enter-number, enter-other, enter-length, between_read}
use Rattle.rules.specs.Rules.{pair_labels, pair_rule, with_pair, pair_judged}
use Rattle.rules.specs.Within.{subject_number_of, object_number_of, labels_after, rule_of_pair, modes_of_rule, placing, with_pair_at, judged_at}
use Rattle.rules.specs.declared.Spot.{Spot}

module _ (t : Table) (s o : List ℕ) (different : same_bytes s o ≡ false) where
  apart : same_bytes o s ≡ false
  apart = same_sym o s ∙ different

  pub subject_number : first (same_bytes s) (pair_labels t s o) ≡ Some (subject_number_of t (label_in t s))
  subject_number = enter-other (enter t.labels s) o s different ∙ enter-number t.labels s

  pub object_number : first (same_bytes o) (pair_labels t s o) ≡ Some (object_number_of t (label_in t s) (label_in t o))
  object_number = enter-number (enter t.labels s) o ∙ rw (enter-other t.labels s o apart, enter-length t.labels s)

  pub pair-length : length (pair_labels t s o) ≡ labels_after t (label_in t s) (label_in t o)
  pair-length = enter-length (enter t.labels s) o ∙ rw (enter-other t.labels s o apart, enter-length t.labels s)

  module _ (sound : sound_table (length t.labels) t ≡ true) where
    pub rule-read : pair_rule t s o ≡ rule_of_pair t (label_in t s) (label_in t o)
    rule-read = sym (between_read t sound (label_in t s) (label_in t o))

    abbrev pub here : Spot
    here = record { subject = label_in t s; object = label_in t o; rule = rule_of_pair t (label_in t s) (label_in t o) }

    pub same-pair : (m : ℕ) → with_pair t s o m ≡ with_pair_at t s o here m
    unfolding with_pair with_pair_at
    same-pair m = rw (rule-read, subject_number, object_number, enter-other t.labels s o apart)

    -- WHAT BECOMES OF IT
    pub judged-at : (m : ℕ) → pair_judged t s o m ≡ judged_at t s o m (placing t s o)
    unfolding placing
    judged-at m = rw (pair-length, rule-read, same-pair m) (by_tests (ltb 64 (labels_after t (label_in t s) (label_in t o))) (no_place (rule_of_pair t (label_in t s) (label_in t o)) (length t.rules) 256))
      where
        by_tests :
            (a b : Bool) →
            cond a (is_refused labels_full) (cond b (is_refused rules_full) (is_accepted (with_pair_at t s o here m)))
            ≡ judged_at t s o m (cond a (Err labels_full) (cond b (Err rules_full) (Ok here)))
        by_tests true b = refl
        by_tests false true = refl
        by_tests false false = refl

    -- the modes that a change starts from
    pub modes-read : modes_of_rule (rule_of_pair t (label_in t s) (label_in t o)) t.rules ≡ modes_or_none (modes_between t s o)
    unfolding modes_between
    modes-read = ap (λ (f : Option ℕ). modes_of_rule f t.rules) (sym rule-read) ∙ by_case (pair_rule t s o)
      where
        by_case : (f : Option ℕ) → modes_of_rule f t.rules ≡ modes_or_none (modes_found t.rules f)
        by_case (Some k) = refl
        by_case None = refl

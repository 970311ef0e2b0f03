-- Each is a law of the crate run; what can be searched for, and what matches nothing, by what a known set is.
use Prim.Native.Nat.{ℕ, ◌<◌, ◌≤◌}
use mathlib.Core.Path.{◌≡◌, refl, sym, ◌∙◌}
use mathlib.Core.Bool.{Bool, true, false}
use mathlib.Core.Logic.{◌↔◌}
use borrow.Author.Tests.{leb-true, le-leb}
use Rattle.search.proofs.Laws.{no, and_both}
use Rattle.numbers.specs.Categories.{is_level, has_category, known_set}
use Rattle.numbers.specs.declared.CategorySet.{CategorySet}
use Rattle.numbers.proofs.Sets.{category_sets}
use Rattle.lookups.specs.Lookups.{sought}
use Rattle.run.proofs.Laws.{run-found, none-run, run_none, run-refused, run-refused_9, unknown-unmatched, records_many, records_at}
use Rattle.claims.proofs.search_of_a_run.Goals as goal

searchable : (level : ℕ) (set : CategorySet) → (sought level set ≡ true) ↔ ((level ≤ 255) × ((k : ℕ) → 184 < k → k ≤ 192 → has_category set k ≡ false))
unfolding sought
searchable level set = (
  λ e. let h = and_both (is_level level) (known_set set) e in (leb-true level 255 h.0, (category_sets.known set).0 h.1),
  λ h. rw (le-leb level 255 h.0, (category_sets.known set).1 h.1),
)

-- a set with such a bit is not known
unknown : (s : CategorySet) (k : ℕ) → 184 < k → k ≤ 192 → has_category s k ≡ true → known_set s ≡ false
unknown s k l m e = by-test (known_set s) refl
  where
    by-test : (t : Bool) → known_set s ≡ t → t ≡ false
    by-test true q = absurd (no (sym ((category_sets.known s).0 q k l m) ∙ e))
    by-test false q = refl

pub returns : goal.returns
returns c =
    record {
      found = λ run level set n e. run-found run level set n e;
      none = λ run level set e. none-run run level set e;
      unmatched = λ run level set h u. run_none run level set h u;
      searchable = searchable;
      refused = λ run level set h. run-refused run level set h;
      only_9 = λ run level set k e. run-refused_9 run level set k e;
      no_set = λ r level set h k l m e. unknown-unmatched r level set h (unknown r.set k l m e);
      as_many = records_many;
      each = records_at;
    }

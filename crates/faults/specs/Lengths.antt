-- 01, refusal 1, and 02, Four: a line or a write is refused with 1 exactly where it has over 600 bytes, a mapping write over 1,000. Of a state that is not
-- damaged, since 0 comes before it. The two limits stand here as numbers: a definition that goes by another one is refused. Assumes nothing.
use Rattle.std.specs.Prelude.{ℕ, ◌<◌, true, ◌↔◌, List, ◌≡◌, length, Err}
use Rattle.refusals.specs.Refusals.{too_long}
use Rattle.store.specs.Layout.{Store, undamaged_of}
use Rattle.writes.specs.Writes.{line_outcome, change_answer}
use Rattle.revoke.specs.Revoke.{revoke_answer}
use Rattle.onlycap.specs.Onlycap.{onlycap_answer}
use Rattle.cipso.specs.Cipso.{map_answer}

pub record RefusedForLength : Type 0 where
  pub line : (st : Store) (text : List ℕ) → undamaged_of st ≡ true → (line_outcome st text ≡ Err too_long) ↔ (600 < length text)
  pub change : (st : Store) (text : List ℕ) → undamaged_of st ≡ true → (change_answer st text ≡ Err too_long) ↔ (600 < length text)
  pub revoke : (st : Store) (text : List ℕ) → undamaged_of st ≡ true → (revoke_answer st text ≡ Err too_long) ↔ (600 < length text)
  pub onlycap : (st : Store) (text : List ℕ) → undamaged_of st ≡ true → (onlycap_answer st text ≡ Err too_long) ↔ (600 < length text)
  pub mapping : (st : Store) (text : List ℕ) → undamaged_of st ≡ true → (map_answer st text ≡ Err too_long) ↔ (1000 < length text)

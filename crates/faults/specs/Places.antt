-- 02, Three: what the place beside a refusal's number means, of every write, question and mapping look-up of 01, and of a line of rule text. (That
-- the report keeps a line's place, `claims::what_a_line_counts` says; by which number each is refused, Faults.) Assumes nothing.
use Rattle.std.specs.Prelude.{ℕ, ◌≡◌, Bool, true, List, ◌≢◌, ◌⊎◌, Err}
use Rattle.refusals.specs.Refusals.{number_of, place_of}
use Rattle.refusals.specs.declared.Refusal.{Refusal}
use Rattle.alphabet.specs.Alphabet.{WellFormed, FirstBad, BadIn}
use Rattle.store.specs.Layout.{Store, undamaged_of}
use Rattle.writes.specs.Writes.{line_outcome, change_answer}
use Rattle.revoke.specs.Revoke.{revoke_answer}
use Rattle.onlycap.specs.Onlycap.{onlycap_answer}
use Rattle.cipso.specs.Cipso.{map_answer}
use Rattle.lookups.specs.Lookups.{by_label_of}
use Rattle.access.specs.Access.{question_of}
use Rattle.access.specs.declared.Answer.TheVariants as a
use Rattle.listing.specs.Listing.{label_answer}
use Rattle.store.specs.Judged.{fresh_answer}

-- an answer that is refused with 3 has the place of a first bad byte; one that is refused with another number has place 0
pub record Told {A : Type 0} (answer : A) (refused : Refusal → A) (IsThere : ℕ → Type 0) : Type 0 where
  pub bad_label : (why : Refusal) → answer ≡ refused why → number_of why ≡ 3 → IsThere (place_of why)
  pub another : (why : Refusal) → answer ≡ refused why → number_of why ≢ 3 → place_of why ≡ 0

-- of a subject and an object the first bad label is the subject, or the object where the subject is well formed
abbrev pub BadOfTwo : List ℕ → List ℕ → ℕ → Type 0
BadOfTwo s o place = FirstBad s place ⊎ (WellFormed s × FirstBad o place)

-- so it is: in the line or the write from its first byte on, in the lent label, in the first bad one of the two labels of a question; and what is never
-- refused with 3 has place 0
pub record PlaceOfTheFirstBadByte : Type 0 where
  pub line : (st : Store) (text : List ℕ) → undamaged_of st ≡ true → Told (line_outcome st text) Err (BadIn 0 text)
  pub change : (st : Store) (text : List ℕ) → Told (change_answer st text) Err (BadIn 0 text)
  pub revoke : (st : Store) (label : List ℕ) → Told (revoke_answer st label) Err (FirstBad label)
  pub onlycap : (st : Store) (text : List ℕ) → Told (onlycap_answer st text) Err (BadIn 0 text)
  pub mapping : (st : Store) (text : List ℕ) → Told (map_answer st text) Err (BadIn 0 text)
  pub mapping_by_label : (st : Store) (label : List ℕ) → Told (by_label_of st label) Err (FirstBad label)
  pub question : (st : Store) (s o request : List ℕ) (capable : Bool) → Told (question_of st s o request capable) a.Refused (BadOfTwo s o)
  pub fresh_table : (st : Store) (why : Refusal) → fresh_answer st ≡ Err why → place_of why ≡ 0
  pub label_by_number : (st : Store) (k : ℕ) (why : Refusal) → label_answer st k ≡ Err why → place_of why ≡ 0

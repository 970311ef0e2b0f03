-- 02, Two: 'The rule search compares only numbers, and isn't begun where either label is unknown. Prove that in any table grown from a fresh one it
-- finds the rule that the listing writes with these two labels, and none exactly when there is none.' The listing is what its call writes. Assumes nothing.
use Rattle.std.specs.Prelude.{ℕ, true, false, ◌≡◌, List, [], ◌∷◌, ◌++◌, ◌↔◌, eqb, Option, Some, None}
use Rattle.search.specs.Bytes.{same_bytes}
use Rattle.alphabet.specs.Alphabet.{newline, fields}
use Rattle.modes.specs.Modes.{read_modes, line_letters}
use Rattle.store.specs.Table.{Table, with_labels, label_in}
use Rattle.store.specs.Layout.{Store, table_of}
use Rattle.store.specs.Pairs.{has_modes, no_rule, rule_between, modes_found, modes_between}
use Rattle.rules.specs.Rules.{pair_rule}
use Rattle.listing.specs.Listing.{list_answer, list_out}
use Rattle.grown.specs.Relisted.{front}

-- it compares only numbers: other bytes as labels change nothing; and where a label has no number it finds none, whatever the rules are. (That it isn't begun there
-- is in the code)
pub record OnlyNumbers (t : Table) : Type 0 where
  pub other_labels : (ls : List (List ℕ)) (subject object : Option ℕ) → rule_between (with_labels t ls) subject object ≡ rule_between t subject object
  pub no_subject : (object : Option ℕ) → rule_between t None object ≡ None
  pub no_object : (subject : Option ℕ) → rule_between t subject None ≡ None
  -- rule 6 goes by what it finds, of the first numbers of the two labels
  pub by_it : (s o : List ℕ) → modes_between t s o ≡ modes_found t.rules (pair_rule t s o)

-- rule 5 needs no bytes but where both labels are unknown: two known ones are equal exactly where their numbers are, and a known one equals no unknown one
pub record EqualNumbers (t : Table) (s o : List ℕ) : Type 0 where
  pub both_known : (i j : ℕ) → label_in t s ≡ Some i → label_in t o ≡ Some j → same_bytes s o ≡ eqb i j
  pub subject_known : (i : ℕ) → label_in t s ≡ Some i → label_in t o ≡ None → same_bytes s o ≡ false
  pub object_known : (j : ℕ) → label_in t s ≡ None → label_in t o ≡ Some j → same_bytes s o ≡ false

-- asked for rule number k, the listing call puts at the front of its buffer a line with these two labels: its fields are they and an access field
pub record ListedAs (st : Store) (out : List ℕ) (k : ℕ) (s o : List ℕ) : Type 0 where
  pub line : List ℕ
  pub access : List ℕ
  pub text : front (list_answer st k out) (list_out st k out) ≡ line ++ (newline ∷ [])
  pub three : fields line ≡ s ∷ o ∷ access ∷ []

-- it does so for no number
abbrev pub Unlisted : Store → List ℕ → List ℕ → List ℕ → Type 0
Unlisted st out s o = (k : ℕ) → ListedAs st out k s o → ⊥

pub record FindsListed (st : Store) (out s o : List ℕ) : Type 0 where
  -- it finds number k exactly where these two labels are listed under k, so under one number at most; and none exactly when there is none
  pub found : (k : ℕ) → (pair_rule (table_of st) s o ≡ Some k) ↔ ListedAs st out k s o
  pub none : (pair_rule (table_of st) s o ≡ None) ↔ Unlisted st out s o
  -- more than 02 asks: nothing is missed where it isn't begun: an unknown label is listed neither as a subject nor as an object, with whatever other label
  pub unknown_subject : label_in (table_of st) s ≡ None → (x : List ℕ) → Unlisted st out s x
  pub unknown_object : label_in (table_of st) o ≡ None → (x : List ℕ) → Unlisted st out x o
  -- the modes that rule 6 looks at are those that the listed line's access field says; and where no line is listed the pair has no rule
  pub modes : (k : ℕ) (listed : ListedAs st out k s o) (m : ℕ) → (read_modes line_letters true listed.access ≡ Some m) ↔ (modes_between (table_of st) s o ≡ has_modes m)
  pub no_modes : (modes_between (table_of st) s o ≡ no_rule) ↔ Unlisted st out s o

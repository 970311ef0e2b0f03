-- Demand 2, second half: 'Loading a well-formed triple of two different labels, within the line length and with room for it, sets that
-- pair's modes and changes no other pair's answer.' Each part of that sentence by a name; and what it does to the label of a new object (02, Seven). Assumes
-- nothing.
use Rattle.std.specs.Prelude.{ℕ, ◌+◌, ◌≤◌, Bool, true, false, ◌&&◌, ◌||◌, ◌≡◌, List, [], ◌∷◌, length, leb, ltb, Option, Some, None}
use Rattle.alphabet.specs.Alphabet.{well_formed, line_limit, fields}
use Rattle.modes.specs.Modes.{read_modes, line_letters, change_letters, stored_modes}
use Rattle.store.specs.Table.{Table, label_in, label_limit, rule_limit, sound_table}
use Rattle.store.specs.Judged.{Judged, is_skipped, is_refused, is_accepted}
use Rattle.access.specs.SevenRules.{rules_for, seven_rules}
use Rattle.store.specs.Pairs.{PairModes, has_modes, no_rule, modes_between}
use Rattle.access.specs.Access.{effective, answer}
use Rattle.new_object.specs.WhichLabel.{GoesByModes, SameNewObjects}

-- what a table has to be for this: every number in it names one of its labels, and no mode or category bit is unknown. Every grown table is so, and so is the
-- table of every undamaged state
abbrev pub SoundTable : Table → Type 0
SoundTable t = sound_table (length t.labels) t ≡ true

-- a well-formed triple of two different labels, within the line length: subject, object and the modes that its access field says, in which b is a
-- placeholder (02, Six)
pub record Triple (text s o : List ℕ) (m : ℕ) : Type 0 where
  pub short : length text ≤ line_limit
  pub access : List ℕ
  pub three : fields text ≡ s ∷ o ∷ access ∷ []
  pub subject : well_formed s ≡ true
  pub object : well_formed o ≡ true
  pub letters : ℕ
  pub read : read_modes line_letters true access ≡ Some letters
  pub modes : stored_modes letters ≡ m
  pub different : s ≡ o → ⊥

-- a well-formed change of two different labels, within the length: subject, object, and the modes that allow and deny say
pub record ChangeText (text s o : List ℕ) (allow deny : ℕ) : Type 0 where
  pub short : length text ≤ line_limit
  pub allow_field : List ℕ
  pub deny_field : List ℕ
  pub four : fields text ≡ s ∷ o ∷ allow_field ∷ deny_field ∷ []
  pub subject : well_formed s ≡ true
  pub object : well_formed o ≡ true
  pub allows : read_modes change_letters true allow_field ≡ Some allow
  pub denies : read_modes change_letters true deny_field ≡ Some deny
  pub different : s ≡ o → ⊥

-- room for it: no more new labels than free label places, and the pair has a rule or fewer than 256 are stored
abbrev pub new_labels : Option ℕ → ℕ
new_labels (Some k) = 0
new_labels None = 1

abbrev pub has_rule : PairModes → Bool
has_rule (has_modes m) = true
has_rule no_rule = false

unfoldable pub has_room : Table → List ℕ → List ℕ → Bool
has_room t s o =
    leb (length t.labels + (new_labels (label_in t s) + new_labels (label_in t o))) label_limit
    && (has_rule (modes_between t s o) || ltb (length t.rules) rule_limit)

abbrev pub was_accepted : Judged → Bool
was_accepted is_skipped = false
was_accepted (is_refused n) = false
was_accepted (is_accepted t) = true

-- what it does: from table t to table t'
pub record SetsPair (t t' : Table) (s o : List ℕ) (m : ℕ) : Type 0 where
  -- it sets the pair's modes, and the pair is from now on judged by them
  pub modes : modes_between t' s o ≡ has_modes m
  pub judged_by : (wanted : ℕ) → seven_rules t' s o wanted ≡ rules_for s o (has_modes m) wanted
  -- no other pair's answer changes, whoever asks for what; nor do its modes
  pub other_answers : (x y request : List ℕ) (capable : Bool) → (x ≡ s → y ≡ o → ⊥) → answer t' x y request capable ≡ answer t x y request capable
  pub other_modes : (x y : List ℕ) → (x ≡ s → y ≡ o → ⊥) → modes_between t' x y ≡ modes_between t x y
  -- nor does anybody's override
  pub override : (x : List ℕ) (capable : Bool) → effective t' (label_in t' x) capable ≡ effective t (label_in t x) capable
  -- the label of a new object, whose creator is the subject and whose folder the object (02, Seven), goes from now on by these modes; that of another pair
  -- does not change
  pub new_objects : GoesByModes t' s o (has_modes m)
  pub other_new_objects : (x y : List ℕ) → (x ≡ s → y ≡ o → ⊥) → SameNewObjects t' t x y

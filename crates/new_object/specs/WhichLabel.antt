-- 02, Seven, said once more in other words: by the answers to a question for w and the rule of the pair; and by the two labels and the modes of the pair,
-- without a rule's number. Labels and letters stand as text. Assumes nothing.
use Rattle.std.specs.Prelude.{ℕ, ◌≡◌, Bool, true, false, cond, not, ◌&&◌, ◌||◌, List, ◌↔◌, ◌≢◌, ◌⊎◌, Some, Ok, Err}
use Rattle.search.specs.Bytes.{ascii, same_bytes}
use Rattle.refusals.specs.declared.Refusal.{Refusal}
use Rattle.alphabet.specs.Alphabet.{well_formed}
use Rattle.modes.specs.Modes.{has, modes_of}
use Rattle.store.specs.Table.{Table, label_in, pair_in, rule_numbered}
use Rattle.store.specs.Pairs.{PairModes}
use Rattle.store.specs.Layout.{Store, table_of}
use Rattle.access.specs.SevenRules.{modes_pass}
use Rattle.access.specs.Access.{question_of}
use Rattle.access.specs.declared.Denial.{Denial}
use Rattle.access.specs.declared.Answer.{Answer}
use Rattle.access.specs.declared.Answer.TheVariants as answer
use Rattle.new_object.specs.NewObject.{object_label_for, object_label, object_label_of}
use Rattle.new_object.specs.declared.ObjectLabel.{ObjectLabel}
use Rattle.new_object.specs.declared.ObjectLabel.TheVariants.{CreatorLabel, Denied, FolderLabel}

-- a question of the creator for w alone to the folder, without the capability
abbrev pub write_asked : Store → List ℕ → List ℕ → Answer
write_asked st creator folder = question_of st creator folder (ascii "w") false

-- the rule of the pair, the first that names both labels, each by its first number, has a letter
pub record RuleHas (t : Table) (s o : List ℕ) (letter : ℕ) : Type 0 where
  pub subject_number : ℕ
  pub object_number : ℕ
  pub rule_number : ℕ
  pub subject : label_in t s ≡ Some subject_number
  pub object : label_in t o ≡ Some object_number
  pub rule : pair_in t subject_number object_number ≡ Some rule_number
  pub letter_there : has (rule_numbered t rule_number).modes letter ≡ true

-- of any lent state, creator and folder; whether the folder transmutes, and whether the new object is a folder
pub record WhichLabel (st : Store) (creator folder : List ℕ) (folder_transmutes is_folder : Bool) : Type 0 where
  -- denied exactly when the question for w is denied
  pub denied :
      (object_label_of st creator folder folder_transmutes is_folder ≡ Ok Denied) ↔ ((by : Denial) × (write_asked st creator folder ≡ answer.Denied by))
  -- refused exactly when that question is, with its refusal
  pub refused :
      (why : Refusal) → (object_label_of st creator folder folder_transmutes is_folder ≡ Err why) ↔ (write_asked st creator folder ≡ answer.Refused why)
  -- the folder's label exactly when the folder transmutes and rule 6 granted the w by a rule with t; and then the new object transmutes exactly when it is a
  -- folder
  pub folder_label :
      (new_transmutes : Bool) →
      (object_label_of st creator folder folder_transmutes is_folder ≡ Ok (FolderLabel new_transmutes))
      ↔ ((folder_transmutes ≡ true)
      × (write_asked st creator folder ≡ answer.Granted 6)
      × RuleHas (table_of st) creator folder (modes_of (ascii "t"))
      × (new_transmutes ≡ is_folder))
  -- the creator's exactly when the w is granted otherwise: in a folder that does not transmute, by another rule than 6, or by a rule without t
  pub creator_label :
      (object_label_of st creator folder folder_transmutes is_folder ≡ Ok CreatorLabel)
      ↔ ((rule : ℕ)
      × (write_asked st creator folder ≡ answer.Granted rule)
      × ((folder_transmutes ≡ false) ⊎ (rule ≢ 6) ⊎ (RuleHas (table_of st) creator folder (modes_of (ascii "t")) → ⊥)))
  -- a new object that is no folder never transmutes. (Beside the other answers a host reads no mark: `new_object` of claims::numbers_of_02)
  pub file_never_transmutes : is_folder ≡ false → object_label_of st creator folder folder_transmutes is_folder ≡ Ok (FolderLabel true) → ⊥

-- ---- by the two labels and the modes of their pair

-- the pair has a rule, and that has a letter
abbrev pub pair_has : PairModes → List ℕ → Bool
pair_has pair letter = modes_pass pair (λ (m : ℕ). has m (modes_of letter))

-- what the seven rules leave of a request of w, which 2 and 3 never grant: a creator * is denied (1); in a folder * (4) and in one of the creator's own label
-- (5) it is the creator's label; elsewhere the rule of the pair decides (6, 7)
abbrev pub by_labels_and_modes : List ℕ → List ℕ → PairModes → Bool → Bool → ObjectLabel
by_labels_and_modes creator folder pair folder_transmutes is_folder =
    cond (same_bytes creator (ascii "*")) Denied
    (cond (same_bytes folder (ascii "*") || same_bytes creator folder) CreatorLabel
    (cond (not (pair_has pair (ascii "w"))) Denied
    (cond (folder_transmutes && pair_has pair (ascii "t")) (FolderLabel is_folder) CreatorLabel)))

-- of a table: the label of every new object that this creator makes in a folder with this label goes by these modes of the pair
abbrev pub GoesByModes : Table → List ℕ → List ℕ → PairModes → Type 0
GoesByModes t creator folder pair =
    well_formed creator ≡ true → well_formed folder ≡ true → (folder_transmutes is_folder : Bool) →
    object_label t creator folder folder_transmutes is_folder ≡ Ok (object_label_for creator folder pair folder_transmutes is_folder)

-- of two tables: the same label for every new object that this creator makes in a folder with this label
abbrev pub SameNewObjects : Table → Table → List ℕ → List ℕ → Type 0
SameNewObjects t u creator folder =
    (folder_transmutes is_folder : Bool) → object_label t creator folder folder_transmutes is_folder ≡ object_label u creator folder folder_transmutes is_folder

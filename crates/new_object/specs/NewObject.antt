-- 02, Seven: the label of a new object that a creator makes in a folder. Refusals: 0, then 3. Nothing is stored. The Smack text has it in two places: at the
-- attribute SMACK64TRANSMUTE, and in 'Applying Access Rules' (source documents 000, 001 and 004). Assumes nothing.
use Rattle.std.specs.Prelude.{ℕ, Bool, cond, ◌&&◌, List, eqb, Result, Ok, Err}
use Rattle.refusals.specs.Refusals.{damaged, bad_label_at}
use Rattle.refusals.specs.declared.Refusal.{Refusal}
use Rattle.alphabet.specs.Alphabet.{well_formed, bad_byte_of_two}
use Rattle.modes.specs.Modes.{has, write_letter, transmute_letter}
use Rattle.store.specs.Table.{Table}
use Rattle.store.specs.Pairs.{PairModes, modes_between}
use Rattle.store.specs.Layout.{Store, table_of, undamaged_of}
use Rattle.access.specs.SevenRules.{modes_pass, rules_for, first_of}
use Rattle.access.specs.declared.Verdict.{Verdict}
use Rattle.access.specs.declared.Verdict.TheVariants.{Grants, Denies, Undecided}
use Rattle.new_object.specs.declared.ObjectLabel.{ObjectLabel}
use Rattle.new_object.specs.declared.ObjectLabel.TheVariants.{CreatorLabel, Denied, FolderLabel}

-- 02: 'rule 6 granted the write by a rule with t'. Of the seven only 6 goes by the pair's rule; so where an earlier one granted, a t in the pair's rule does not count
-- 000: 'the Smack rule (more below) that permitted the write access to the directory includes the transmute ("t") mode'
abbrev pub by_rule_with_t : ℕ → PairModes → Bool
by_rule_with_t rule pair = eqb rule 6 && modes_pass pair (λ (m : ℕ). has m transmute_letter)

-- by what the seven rules say of the write, and the modes of the pair
-- 02: 'If the creator may not write to the folder by rules 1 to 7, say denied.' (They leave nothing undecided, since the seventh applies to every question)
-- 02: 'The folder's label is given when the folder transmutes and rule 6 granted the write by a rule with t; a new folder then transmutes too. Otherwise
-- it's the creator's label, and it doesn't transmute.'
abbrev pub object_label_by : Verdict → PairModes → Bool → Bool → ObjectLabel
object_label_by (Denies by) pair folder_transmutes is_folder = Denied
object_label_by Undecided pair folder_transmutes is_folder = Denied
object_label_by (Grants rule) pair folder_transmutes is_folder = cond (folder_transmutes && by_rule_with_t rule pair) (FolderLabel is_folder) CreatorLabel

-- the write is a request of w alone; 'override isn't considered here'
unfoldable pub object_label_for : List ℕ → List ℕ → PairModes → Bool → Bool → ObjectLabel
object_label_for creator folder pair folder_transmutes is_folder = object_label_by (first_of (rules_for creator folder pair write_letter)) pair folder_transmutes is_folder

-- of a table: 3 a label is not well formed, with the place of the first bad byte of the first such label
unfoldable pub object_label : Table → List ℕ → List ℕ → Bool → Bool → Result ObjectLabel Refusal
object_label t creator folder folder_transmutes is_folder =
    cond (well_formed creator && well_formed folder)
    (Ok (object_label_for creator folder (modes_between t creator folder) folder_transmutes is_folder))
    (Err (bad_label_at (bad_byte_of_two creator folder)))

-- of a lent state: 0 before every other where it is damaged
unfoldable pub object_label_of : Store → List ℕ → List ℕ → Bool → Bool → Result ObjectLabel Refusal
object_label_of st creator folder folder_transmutes is_folder =
    cond (undamaged_of st) (object_label (table_of st) creator folder folder_transmutes is_folder) (Err damaged)

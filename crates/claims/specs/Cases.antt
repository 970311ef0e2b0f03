-- 01, Either side of a limit, and 02, Six: the cases P1 to P12 that are proved, as one table and one test over it; further ones; and those of a new object
-- (02, Seven). Assumes nothing.
use Rattle.std.specs.Prelude.{ℕ, Bool, true, false, cond, not, ◌&&◌, eqb, Option, Some, None, Result, Ok, Err}
use mathlib.Core.List.{List, [], ◌∷◌, foldl}
use Rattle.search.specs.Bytes.{ascii, same_bytes}
use Rattle.modes.specs.Modes.{modes_text}
use Rattle.store.specs.Table.{Table, fresh}
use Rattle.lines.specs.Lines.{rule_of}
use Rattle.writes.specs.Writes.{judged, change_write}
use Rattle.store.specs.Judged.{table_after}
use Rattle.store.specs.Pairs.{modes_between, modes_or_none}
use Rattle.access.specs.Access.{answer}
use Rattle.new_object.specs.NewObject.{object_label}
use Rattle.answers.specs.Answers.{shown, object_shown}
use Rattle.answers.specs.declared.Shown.{Shown}
use Rattle.answers.specs.declared.Labelled.{Labelled}
use Rattle.cipso.specs.Cipso.{mapping_write}
use Rattle.lookups.specs.Lookups.{label_lookup}
use Rattle.refusals.specs.declared.Refusal.{Refusal}
use Rattle.lookups.specs.declared.Cipso.{Cipso}
use Rattle.numbers.specs.Categories.{categories}

-- a case: after these lines are loaded into a fresh table, a subject asks a request of an object; after a line and a change, a pair has
-- these modes, as text; after a mapping write, a label has this level, these categories and their count; after lines, a creator makes an object in a folder,
-- which transmutes or not, and the object is a folder or not
pub data Case : Type 0 where
  asks : List (List ℕ) → List ℕ → List ℕ → List ℕ → Shown → Case
  creates : List (List ℕ) → List ℕ → List ℕ → Bool → Bool → Labelled → Case
  changes : List ℕ → List ℕ → List ℕ → List ℕ → List ℕ → Case
  maps : List ℕ → List ℕ → ℕ → List ℕ → ℕ → Case

-- a fresh table with lines loaded
abbrev pub after_lines : List (List ℕ) → Table
after_lines lines = foldl (λ (t : Table) (line : List ℕ). table_after t (judged t (rule_of line))) fresh lines

-- the modes of a pair's rule
abbrev pub pair_modes : Table → List ℕ → List ℕ → ℕ
pair_modes t s o = modes_or_none (modes_between t s o)

abbrev pub same_shown : Shown → Shown → Bool
same_shown a b = eqb a.kind b.kind && (eqb a.number b.number && eqb a.place b.place)

abbrev pub same_lookup : Result (Option Cipso) Refusal → ℕ → List ℕ → ℕ → Bool
same_lookup (Ok (Some m)) x cs n = eqb m.level x && (same_bytes (categories m.set) cs && eqb m.count n)
same_lookup (Ok None) x cs n = false
same_lookup (Err k) x cs n = false

-- whether two tests say the same
abbrev pub same_truth : Bool → Bool → Bool
same_truth a b = cond a b (not b)

-- whether two answers about a new object are the same
abbrev pub same_labelled : Labelled → Labelled → Bool
same_labelled a b = eqb a.kind b.kind && (eqb a.number b.number && same_truth a.transmutes b.transmutes)

unfoldable pub right : Case → Bool
right (creates lines creator folder folder_transmutes is_folder expected) = same_labelled (object_shown (object_label (after_lines lines) creator folder folder_transmutes is_folder)) expected
right (asks lines s o request expected) = same_shown (shown (answer (after_lines lines) s o request false)) expected
right (changes line write s o modes) =
    same_bytes (modes_text (pair_modes (table_after (after_lines (line ∷ [])) (change_write write (after_lines (line ∷ [])))) s o)) modes
right (maps write label level cs count) = same_lookup (label_lookup (table_after fresh (mapping_write write fresh)) label) level cs count

-- ---- the answers

abbrev pub granted : ℕ → Shown
granted n = record { kind = 0; number = n; place = 0 }

abbrev pub denied : ℕ → Shown
denied n = record { kind = 1; number = n; place = 0 }

abbrev pub refused_with : ℕ → Shown
refused_with n = record { kind = 3; number = n; place = 0 }

-- 02, Three: with 3, and where the first bad byte of the first bad label is
abbrev pub refused_at : ℕ → Shown
refused_at place = record { kind = 3; number = 3; place = place }

-- ---- the table of cases

abbrev pub cases : List Case
cases =
    -- P1 to P6, of a fresh table
    asks [] (ascii "*") (ascii "_") (ascii "r") (denied 1)
    ∷ asks [] (ascii "^") (ascii "Door") (ascii "rx") (granted 2)
    ∷ asks [] (ascii "Door") (ascii "_") (ascii "rw") (denied 7)
    ∷ asks [] (ascii "^") (ascii "*") (ascii "rw") (granted 4)
    ∷ asks [] (ascii "*") (ascii "*") (ascii "r") (denied 1)
    ∷ asks [] (ascii "Door") (ascii "Door") (ascii "rwxa") (granted 5)
    -- P7 to P9, after `Probe3 Air w`
    ∷ asks (ascii "Probe3 Air w" ∷ []) (ascii "Probe3") (ascii "Air") (ascii "w") (granted 6)
    ∷ asks (ascii "Probe3 Air w" ∷ []) (ascii "Probe3") (ascii "Air") (ascii "rw") (denied 7)
    ∷ asks (ascii "Probe3 Air w" ∷ []) (ascii "Air") (ascii "Probe3") (ascii "w") (denied 7)
    -- P10, after `Probe3 Air rRb` (02, Six: granted 6, and no b)
    ∷ asks (ascii "Probe3 Air rRb" ∷ []) (ascii "Probe3") (ascii "Air") (ascii "r") (granted 6)
    -- P11, modes r, and a change with allow wa and deny w
    ∷ changes (ascii "Probe3 Air r") (ascii "Probe3 Air wa w") (ascii "Probe3") (ascii "Air") (ascii "ra")
    -- P12, `Vault7 9 1 63`
    ∷ maps (ascii "Vault7 9 1 63") (ascii "Vault7") 9 (1 ∷ 63 ∷ []) 2
    ∷ []

-- further ones, of each rule and of what P1 to P12 leave out: rule 3; the other letters of rules 2 and 3; ? and @ are ordinary; two labels that are alike in their
-- first 23 bytes; write does not stand for append; dashes between letters; b grants nothing, and is no letter of a request (02, Six); each refusal of a question; a change
-- of a new pair, and of one whose line held b;
-- categories of each word of a set, one of them twice
abbrev pub further_cases : List Case
further_cases =
    asks [] (ascii "Door") (ascii "_") (ascii "rx") (granted 3)
    ∷ asks [] (ascii "Door") (ascii "_") (ascii "a") (denied 7)
    ∷ asks [] (ascii "^") (ascii "Door") (ascii "r") (granted 2)
    ∷ asks [] (ascii "^") (ascii "Door") (ascii "a") (denied 7)
    ∷ asks [] (ascii "^") (ascii "Door") (ascii "w") (denied 7)
    ∷ asks [] (ascii "Door") (ascii "^") (ascii "r") (denied 7)
    ∷ asks [] (ascii "@") (ascii "Door") (ascii "r") (denied 7)
    ∷ asks [] (ascii "Door") (ascii "@") (ascii "r") (denied 7)
    ∷ asks [] (ascii "?") (ascii "Door") (ascii "r") (denied 7)
    ∷ asks [] (ascii "Door") (ascii "*") (ascii "rwxa") (granted 4)
    ∷ asks [] (ascii "Probe-of-the-cold-store-1") (ascii "Probe-of-the-cold-store-2") (ascii "r") (denied 7)
    ∷ asks (ascii "Probe3 Air w" ∷ []) (ascii "Probe3") (ascii "Air") (ascii "a") (denied 7)
    ∷ asks (ascii "Probe3 Air a-R" ∷ []) (ascii "Probe3") (ascii "Air") (ascii "ra") (granted 6)
    ∷ asks (ascii "Probe3 Air rwxat" ∷ ascii "Probe3 Air -" ∷ []) (ascii "Probe3") (ascii "Air") (ascii "r") (denied 7)
    ∷ asks [] (ascii "-Door") (ascii "Air") (ascii "q") (refused_at 0)
    ∷ asks [] (ascii "Doo/r") (ascii "A/ir") (ascii "r") (refused_at 3)
    ∷ asks [] (ascii "Door") (ascii "A/ir") (ascii "r") (refused_at 1)
    ∷ asks [] [] (ascii "A/ir") (ascii "r") (refused_at 0)
    ∷ asks [] (ascii "Door") (ascii "Air") (ascii "rt") (refused_with 8)
    ∷ asks [] (ascii "Door") (ascii "Air") [] (refused_with 8)
    ∷ changes (ascii "Air Door r") (ascii "Probe3 Air xt -") (ascii "Probe3") (ascii "Air") (ascii "xt")
    ∷ changes (ascii "Probe3 Air rb") (ascii "Probe3 Air a r") (ascii "Probe3") (ascii "Air") (ascii "a")
    ∷ asks (ascii "Probe3 Air b" ∷ []) (ascii "Probe3") (ascii "Air") (ascii "r") (denied 7)
    ∷ asks (ascii "Probe3 Air rb" ∷ []) (ascii "Probe3") (ascii "Air") (ascii "rb") (refused_with 8)
    ∷ maps (ascii "Vault7 9 63 64 065 128 129 184 064") (ascii "Vault7") 9 (63 ∷ 64 ∷ 65 ∷ 128 ∷ 129 ∷ 184 ∷ []) 6
    ∷ []

-- ---- a new object (02, Seven)

abbrev pub creator_label : Labelled
creator_label = record { kind = 0; number = 0; transmutes = false }

abbrev pub creation_denied : Labelled
creation_denied = record { kind = 1; number = 0; transmutes = false }

abbrev pub folder_label : Bool → Labelled
folder_label new_transmutes = record { kind = 2; number = 0; transmutes = new_transmutes }

abbrev pub creation_refused : ℕ → Labelled
creation_refused n = record { kind = 3; number = n; transmutes = false }

-- a rule with w and t, a folder that transmutes or not, a file or a folder; w without t, t without w, other letters, none, no rule; the turned pair, another
-- creator and another folder, alike in their first 23 bytes; one label (rule 5), stored or not; the folder * (rule 4) and _; the creators * (rule 1) and ^
-- (rule 2 grants no w); labels that are not well formed
abbrev pub new_object_cases : List Case
new_object_cases =
    creates (ascii "Recorder Records wt" ∷ []) (ascii "Recorder") (ascii "Records") true false (folder_label false)
    ∷ creates (ascii "Recorder Records wt" ∷ []) (ascii "Recorder") (ascii "Records") true true (folder_label true)
    ∷ creates (ascii "Recorder Records wt" ∷ []) (ascii "Recorder") (ascii "Records") false false creator_label
    ∷ creates (ascii "Recorder Records wt" ∷ []) (ascii "Recorder") (ascii "Records") false true creator_label
    ∷ creates (ascii "Recorder Records rwxa" ∷ []) (ascii "Recorder") (ascii "Records") true true creator_label
    ∷ creates (ascii "Recorder Records t" ∷ []) (ascii "Recorder") (ascii "Records") true true creation_denied
    ∷ creates (ascii "Recorder Records rxat" ∷ []) (ascii "Recorder") (ascii "Records") true true creation_denied
    ∷ creates (ascii "Recorder Records wt" ∷ ascii "Recorder Records -" ∷ []) (ascii "Recorder") (ascii "Records") true true creation_denied
    ∷ creates [] (ascii "Recorder") (ascii "Records") true true creation_denied
    ∷ creates (ascii "Records Recorder wt" ∷ []) (ascii "Recorder") (ascii "Records") true true creation_denied
    ∷ creates (ascii "Recorder-of-cold-store-1 Records wt" ∷ []) (ascii "Recorder-of-cold-store-2") (ascii "Records") true true creation_denied
    ∷ creates (ascii "Recorder Records-of-cold-stores-1 wt" ∷ ascii "Recorder Records-of-cold-stores-2 w" ∷ []) (ascii "Recorder") (ascii "Records-of-cold-stores-2") true true creator_label
    ∷ creates (ascii "Recorder Records wt" ∷ []) (ascii "Records") (ascii "Records") true true creator_label
    ∷ creates [] (ascii "Recorder") (ascii "Recorder") true true creator_label
    ∷ creates (ascii "Recorder * wt" ∷ []) (ascii "Recorder") (ascii "*") true true creator_label
    ∷ creates (ascii "Recorder _ wt" ∷ []) (ascii "Recorder") (ascii "_") true true (folder_label true)
    ∷ creates [] (ascii "Recorder") (ascii "_") true true creation_denied
    ∷ creates (ascii "* Records wt" ∷ []) (ascii "*") (ascii "Records") true true creation_denied
    ∷ creates [] (ascii "*") (ascii "*") true true creation_denied
    ∷ creates [] (ascii "^") (ascii "Records") true true creation_denied
    ∷ creates (ascii "^ Records wt" ∷ []) (ascii "^") (ascii "Records") true true (folder_label true)
    ∷ creates [] (ascii "Rec/order") (ascii "Records") true true (creation_refused 3)
    ∷ creates [] (ascii "*") (ascii "-Records") true true (creation_refused 3)
    ∷ []

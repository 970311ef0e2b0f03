-- 01, Questions: the answer to a question. The seven rules stand in specs/SevenRules.antt; here are the override capability (CAP_MAC_OVERRIDE,
-- with the onlycap list), and the refusals. Assumes nothing.
use Rattle.std.specs.Prelude.{ℕ, Bool, true, false, cond, ◌&&◌, ◌||◌, List, length, eqb, Option, Some, None}
use Rattle.search.specs.Search.{first}
use Rattle.alphabet.specs.Alphabet.{well_formed, bad_byte_of_two}
use Rattle.modes.specs.Modes.{read_modes, request_letters}
use Rattle.refusals.specs.Refusals.{damaged, bad_label_at, bad_request}
use Rattle.store.specs.Table.{Table, label_in}
use Rattle.store.specs.Layout.{Store, table_of, undamaged_of}
use Rattle.access.specs.SevenRules.{first_of, seven_rules}
use Rattle.access.specs.declared.Denial.{Denial}
use Rattle.access.specs.declared.Denial.TheVariants.{AnyOther}
use Rattle.access.specs.declared.Verdict.{Verdict}
use Rattle.access.specs.declared.Verdict.TheVariants.{Grants, Denies, Undecided}
use Rattle.access.specs.declared.Answer.{Answer}
use Rattle.access.specs.declared.Answer.TheVariants.{Granted, Denied, Override, Refused}

-- ---- override

-- whether a search found something
abbrev pub is_found : Option ℕ → Bool
is_found (Some k) = true
is_found None = false

-- whether the onlycap list (01: the override list) holds a label, by its first number; a label that is not in the table is on no list
abbrev pub on_list : List ℕ → Option ℕ → Bool
on_list onlycap (Some i) = is_found (first (eqb i) onlycap)
on_list onlycap None = false

-- 01: override counts only if the asker has it and the list is empty or holds the subject
unfoldable pub effective : Table → Option ℕ → Bool → Bool
effective t s capable = capable && (eqb (length t.onlycap) 0 || on_list t.onlycap s)

-- and only after a denial, whose rule it then names
abbrev pub denied : Bool → Denial → Answer
denied override by = cond override (Override by) (Denied by)

-- the answer by what the rules say. (They leave nothing undecided, since the seventh applies to every question)
abbrev pub answered : Bool → Verdict → Answer
answered override (Grants n) = Granted n
answered override (Denies by) = denied override by
answered override Undecided = denied override AnyOther

-- a question that is not refused: the first of the seven rules that applies decides
unfoldable pub decide : Table → List ℕ → List ℕ → ℕ → Bool → Answer
decide t s o wanted capable = answered (effective t (label_in t s) capable) (first_of (seven_rules t s o wanted))

-- ---- the refusals: 3 and then 8

-- 8 the request is empty or has another byte than r w x a, either case
abbrev pub by_request : Table → List ℕ → List ℕ → Bool → Option ℕ → Answer
by_request t s o capable (Some wanted) = decide t s o wanted capable
by_request t s o capable None = Refused bad_request

-- 3 a label is not well formed, with the place of the first bad byte: in the subject or, where that is well formed, in the object
unfoldable pub answer : Table → List ℕ → List ℕ → List ℕ → Bool → Answer
answer t s o request capable =
    cond (well_formed s && well_formed o)
    (cond (eqb (length request) 0) (Refused bad_request) (by_request t s o capable (read_modes request_letters false request)))
    (Refused (bad_label_at (bad_byte_of_two s o)))

-- of a lent state: 0 before every other where it is damaged
unfoldable pub question_of : Store → List ℕ → List ℕ → List ℕ → Bool → Answer
question_of st s o request capable = cond (undamaged_of st) (answer (table_of st) s o request capable) (Refused damaged)

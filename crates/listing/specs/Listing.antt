-- 01, Listing: a rule given by its number as a line of text, a label given by its number, and the whole listing of a table. Assumes nothing.
use Rattle.std.specs.Prelude.{ℕ, cond, List, [], ◌∷◌, ◌++◌, length, ltb, Result, Ok, Err}
use Rattle.refusals.specs.Refusals.{damaged, no_such_number}
use Rattle.modes.specs.Modes.{modes_text}
use Rattle.store.specs.declared.Rule.{Rule}
use Rattle.places.specs.Places.{label_start}
use Rattle.refusals.specs.declared.Refusal.{Refusal}
use Rattle.store.specs.Table.{Table, label_numbered, rule_numbered}
use Rattle.store.specs.Layout.{Store, table_of, undamaged_of}
use Rattle.output.specs.Output.{Text, text, refused, text_answer, text_out}
use Rattle.rule_text.specs.RuleText.{text_of}

-- a rule as text, by the labels that are stored
unfoldable pub rule_text : Table → Rule → List ℕ
rule_text t r = text_of (label_numbered t r.subject) (label_numbered t r.object) (modes_text r.modes)

-- the whole listing: the text of each rule, in table order
abbrev pub texts_of : Table → List Rule → List ℕ
texts_of t [] = []
texts_of t (r ∷ rs) = rule_text t r ++ texts_of t rs

unfoldable pub listing : Table → List ℕ
listing t = texts_of t t.rules

-- rule number k as text; refused where there is no rule of that number
unfoldable pub rule_given : Table → ℕ → Text
rule_given t k = cond (ltb k (length t.rules)) (text (rule_text t (rule_numbered t k))) (refused no_such_number)

-- the answer, and the lent output afterwards
abbrev pub list_rule : Table → ℕ → List ℕ → Result ℕ Refusal
list_rule t k out = text_answer (rule_given t k) out

abbrev pub list_rule_out : Table → ℕ → List ℕ → List ℕ
list_rule_out t k out = text_out (rule_given t k) out

-- of a lent state: the refusal of a damaged one comes before every other
abbrev pub list_given : Store → ℕ → Text
list_given st k = cond (undamaged_of st) (rule_given (table_of st) k) (refused damaged)

unfoldable pub list_answer : Store → ℕ → List ℕ → Result ℕ Refusal
list_answer st k out = text_answer (list_given st k) out

unfoldable pub list_out : Store → ℕ → List ℕ → List ℕ
list_out st k out = text_out (list_given st k) out

-- a label by number, empty on a refusal; and the answer beside it: done, a damaged state, or no label of that number
unfoldable pub label_given : Store → ℕ → List ℕ
label_given st k = cond (undamaged_of st) (label_numbered (table_of st) k) []

unfoldable pub label_answer : Store → ℕ → Result (Unit {0}) Refusal
label_answer st k = cond (undamaged_of st) (cond (ltb k (length (table_of st).labels)) (Ok tt) (Err no_such_number)) (Err damaged)

-- where the part of the label store that is answered begins: behind the label's length; on a refusal it is empty, and begins where the store does
abbrev pub label_from : Result (Unit {0}) Refusal → ℕ → ℕ
label_from (Ok tt) k = label_start k
label_from (Err n) k = 0

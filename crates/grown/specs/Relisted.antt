-- Demand 2, last sentence: 'A listing of the rules, loaded into a fresh table, gives the same rules in the same order.' Two tables can number
-- their labels differently, so rules are compared by their labels' bytes and their modes. Assumes nothing.
use Rattle.std.specs.Prelude.{ℕ, zero, suc, ◌<◌, ◌≤◌, ◌≡◌, List, [], ◌∷◌, ◌++◌, map, length, take, drop, Result, Ok, Err}
use Rattle.refusals.specs.Refusals.{no_such_number}
use Rattle.store.specs.declared.Rule.{Rule}
use Rattle.store.specs.Table.{Table, fresh, label_numbered, rule_numbered}
use Rattle.store.specs.Layout.{Store, table_of}
use Rattle.lists.specs.Reader.{Totals, Call, piece, end_call, done, report, start_on, after_all, says_all}
use Rattle.listing.specs.Listing.{rule_text, listing, list_answer, list_out}
use Rattle.refusals.specs.declared.Refusal.{Refusal}
use Rattle.grown.specs.Grown.{Grown}
use Rattle.rule_text.specs.RuleText.{longest_rule}

-- a rule by the bytes of its labels, and its modes
pub record Spelled : Type 0 where
  pub subject : List ℕ
  pub object : List ℕ
  pub modes : ℕ

abbrev pub spell : Table → Rule → Spelled
spell t r = record { subject = label_numbered t r.subject; object = label_numbered t r.object; modes = r.modes }

-- the rules of a table, in order
abbrev pub spelled : Table → List Spelled
spelled t = map (spell t) t.rules

-- a listing handed over as rule text, and the end call
abbrev pub reload : List ℕ → List Call
reload text = piece text ∷ end_call ∷ []

-- a report of n lines, all of them accepted, and none with b
abbrev pub all_accepted : ℕ → Totals
all_accepted n = record { lines = n; accepted = n; skipped = 0; refused = 0; first = 0; reason = 0; place = 0; bringup = 0 }

-- the plain reader, begun on a fresh table, has then the same rules in the same order, and has refused no line
pub record LoadsBack (t : Table) (text : List ℕ) : Type 0 where
  pub same_rules : spelled (after_all (start_on fresh) (reload text)).table ≡ spelled t
  pub replies : says_all (start_on fresh) (reload text) ≡ done ∷ report (all_accepted (length t.rules)) ∷ []

-- ---- the same of what the listing call writes, which is asked for one rule at a time, by its number, and is lent a buffer

-- what a call puts at the front of its buffer: as many bytes as it answers, and none where it is refused
abbrev pub front : Result ℕ Refusal → List ℕ → List ℕ
front (Ok n) out = take n out
front (Err n) out = []

-- what n calls write, for the rules from number k on, one text behind the other; each call may be lent another buffer
abbrev pub listed_by_calls : Store → (ℕ → List ℕ) → ℕ → ℕ → List ℕ
listed_by_calls st buffers k zero = []
listed_by_calls st buffers k (suc n) = front (list_answer st k (buffers k)) (list_out st k (buffers k)) ++ listed_by_calls st buffers (suc k) n

-- the text of rule number k
abbrev pub text_numbered : Store → ℕ → List ℕ
text_numbered st k = rule_text (table_of st) (rule_numbered (table_of st) k)

-- a buffer that is long enough for its rule gets the rule's text at its front, and the rest of it is unchanged; one of 518 bytes is long enough for every
-- rule; asked for each number in turn the call writes the listing; and the number after the last rule's is refused with 13, so that a host knows where it
-- ends. What was written loads back
pub record ListedByNumber (st : Store) : Type 0 where
  pub given :
      (k : ℕ) (out : List ℕ) →
      k < length (table_of st).rules →
      length (text_numbered st k) ≤ length out →
      list_answer st k out ≡ Ok (length (text_numbered st k))
  pub written :
      (k : ℕ) (out : List ℕ) →
      k < length (table_of st).rules →
      length (text_numbered st k) ≤ length out →
      list_out st k out ≡ text_numbered st k ++ drop (length (text_numbered st k)) out
  pub enough : (k : ℕ) → k < length (table_of st).rules → length (text_numbered st k) ≤ longest_rule
  pub whole :
      (buffers : ℕ → List ℕ) →
      ((k : ℕ) → longest_rule ≤ length (buffers k)) →
      listed_by_calls st buffers 0 (length (table_of st).rules) ≡ listing (table_of st)
  pub ends : (out : List ℕ) → list_answer st (length (table_of st).rules) out ≡ Err no_such_number
  pub loads_back :
      (buffers : ℕ → List ℕ) →
      ((k : ℕ) → longest_rule ≤ length (buffers k)) →
      Grown (table_of st) →
      LoadsBack (table_of st) (listed_by_calls st buffers 0 (length (table_of st).rules))

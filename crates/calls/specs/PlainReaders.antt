-- Demand 3: what holds after every list of calls. Assumes nothing.
use Rattle.std.specs.Prelude.{ℕ, ◌≡◌, true, cond, List, [], ◌∷◌, ◌++◌, Err}
use Rattle.refusals.specs.Refusals.{told, damaged}
use Rattle.refusals.specs.declared.Refusal.{Refusal}
use Rattle.alphabet.specs.Alphabet.{is_newline, fields}
use Rattle.numbers.specs.declared.CategorySet.{CategorySet}
use Rattle.store.specs.Table.{Table}
use Rattle.store.specs.Layout.{table_of}
use Rattle.lines.specs.Lines.{rule_of}
use Rattle.writes.specs.Writes.{judged, changed}
use Rattle.store.specs.Judged.{is_skipped, is_refused, is_accepted}
use Rattle.cipso_option.specs.Option.{not_read, peer_shown}
use Rattle.answers.specs.Answers.{shown, lookup_shown, search_shown, output_shown, object_shown}
use Rattle.access.specs.declared.Answer.TheVariants as answer
use Rattle.load.specs.Loader.{Load}
use Rattle.lists.specs.Reader as r
use Rattle.lists.specs.Reader.{start_on, Write, Call, Reply, judge_write, after_all, says_all, Event, byte, stop, wrote, events}
use Rattle.grown.specs.Grown.{Grown}
use Rattle.store.specs.Pairs.{modes_between, modes_or_none}
use Rattle.grown.specs.Pairs.{Triple, ChangeText, has_room, SetsPair}
use Rattle.effects.specs.Effects.{KeepsPlaces, Revokes, SetsFields, Maps}
use Rattle.effects.specs.MappingText.{MappingText}

-- ---- what acts on the tables: each line that a newline or an end call ends, whole, and each single write, in order. The bytes after the last
-- newline or end call are no line

pub data Act : Type 0 where
  line : List ℕ → Act
  single : Write → Act

abbrev pub ended_at : List ℕ → List Act → List Act
ended_at [] rest = rest
ended_at (b ∷ bs) rest = line (b ∷ bs) ∷ rest

abbrev pub acts_from : List ℕ → List Event → List Act
acts_from kept [] = []
acts_from kept (byte b ∷ es) = cond (is_newline b) (line kept ∷ acts_from [] es) (acts_from (kept ++ (b ∷ [])) es)
acts_from kept (stop ∷ es) = ended_at kept (acts_from [] es)
acts_from kept (wrote w ∷ es) = single w ∷ acts_from kept es

abbrev pub acts : List Call → List Act
acts cs = acts_from [] (events cs)

-- what an accepted single write says and does: a change is a well-formed one, leaves its pair with (old modes or allow) without deny, and changes no other
-- pair's answer, as demand 2 says of a line; revoke clears the rules of its subject; the override list is who overrides; a mapping is a well-formed one,
-- and is what its label's look-up finds
abbrev pub Sets : Table → Table → Write → Type 0
Sets t t₁ (r.change text) =
    (s : List ℕ) × (o : List ℕ) × (allow : ℕ) × (deny : ℕ)
    × ChangeText text s o allow deny
    × SetsPair t t₁ s o (changed (modes_or_none (modes_between t s o)) allow deny)
    × KeepsPlaces t t₁ s o
Sets t t₁ (r.revoke l) = Revokes t t₁ l
Sets t t₁ (r.onlycap text) = SetsFields t t₁ (fields text)
Sets t t₁ (r.mapping text) = (l : List ℕ) × (level : ℕ) × (set : CategorySet) × MappingText text l level set × Maps t t₁ l level set

-- From table t to table t' by these acts, one after the other. A line is judged whole, by its bytes and the table that the acts before it
-- left: skipped or refused it changes nothing; accepted it is a well-formed triple with room for it, sets its pair's modes and changes no other
-- pair's answer (demand 2), and every label and rule keeps its place. A single write acts at once: refused it changes nothing
pub data Made : Table → List Act → Table → Type 0 where
  none : {t : Table} → Made t [] t
  skipped : {t t' : Table} {bytes : List ℕ} {rest : List Act} → judged t (rule_of bytes) ≡ is_skipped → Made t rest t' → Made t (line bytes ∷ rest) t'
  refused : {t t' : Table} {bytes : List ℕ} {rest : List Act} (why : Refusal) → judged t (rule_of bytes) ≡ is_refused why → Made t rest t' →
      Made t (line bytes ∷ rest) t'
  accepted :
      {t t₁ t' : Table} {bytes : List ℕ} {rest : List Act} (s o : List ℕ) (m : ℕ) →
      judged t (rule_of bytes) ≡ is_accepted t₁ →
      Triple bytes s o m →
      has_room t s o ≡ true →
      SetsPair t t₁ s o m →
      KeepsPlaces t t₁ s o →
      Made t₁ rest t' →
      Made t (line bytes ∷ rest) t'
  write_refused : {t t' : Table} {rest : List Act} (w : Write) (why : Refusal) → judge_write w t ≡ is_refused why → Made t rest t' →
      Made t (single w ∷ rest) t'
  write_accepted : {t t₁ t' : Table} {rest : List Act} (w : Write) → judge_write w t ≡ is_accepted t₁ → Sets t t₁ w →
      Made t₁ rest t' → Made t (single w ∷ rest) t'

-- what holds after a list of calls that began at s, was answered rs and ended at s'
pub record PlainReaders (s : Load) (cs : List Call) (rs : List Reply) (s' : Load) : Type 0 where
  -- the table is exactly the plain reader's
  pub table : table_of s'.store ≡ (after_all (start_on (table_of s.store)) cs).table
  -- every answer is the plain reader's: each piece's, the whole report of each end call, each question's, and those of the other calls
  pub replies : rs ≡ says_all (start_on (table_of s.store)) cs
  -- each line ended by a newline or an end call has been judged whole, an accepted one as demand 2 says; and nothing else has acted, but for the single
  -- writes: no byte after the last newline or end call is among the acts
  pub made : Made (table_of s.store) (acts cs) (table_of s'.store)
  -- a table grown from a fresh one stays one
  pub grown : Grown (table_of s.store) → Grown (table_of s'.store)

-- ---- of a damaged table every call is refused with 0, and a lent buffer is as it was

abbrev pub refusal_of : Call → Reply
refusal_of (r.piece text) = r.refusal (told damaged)
refusal_of r.end_call = r.refusal (told damaged)
refusal_of (r.write w) = r.refusal (told damaged)
refusal_of (r.ask (r.question s o request capable)) = r.answered (shown (answer.Refused damaged))
refusal_of (r.ask (r.by_label l)) = r.mapped (lookup_shown (Err damaged))
refusal_of (r.ask (r.by_level level set)) = r.lowest (search_shown (Err damaged))
refusal_of (r.ask (r.list_a_rule k out)) = r.listed (output_shown (Err damaged)) out
refusal_of (r.ask (r.label k)) = r.refusal (told damaged)
refusal_of (r.ask (r.label_check k)) = r.refusal (told damaged)
refusal_of (r.ask (r.write_option l out)) = r.listed (output_shown (Err damaged)) out
refusal_of (r.ask (r.read_option option)) = r.peer (peer_shown (not_read damaged))
refusal_of (r.ask (r.new_object creator folder folder_transmutes is_folder)) = r.labelled (object_shown (Err damaged))

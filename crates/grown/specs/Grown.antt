-- 01: 'The demands on tables speak of those grown from a fresh one.' These are they: the fresh table, and whatever a write makes of one of
-- them. A refused write leaves the table as it is. Assumes nothing.
use Rattle.std.specs.Prelude.{◌≡◌, List, ℕ}
use Rattle.store.specs.Table.{Table, fresh}
use Rattle.store.specs.Judged.{is_accepted}
use Rattle.lines.specs.Lines.{rule_of}
use Rattle.writes.specs.Writes.{judged}
use Rattle.lists.specs.Reader.{Write, judge_write}

pub data Grown : Table → Type 0 where
  -- the five labels alone
  from_fresh : Grown fresh
  -- a line of rule text that is accepted
  by_line : {t t' : Table} (line : List ℕ) → Grown t → judged t (rule_of line) ≡ is_accepted t' → Grown t'
  -- a single write that is accepted: change-rule, revoke-subject, an onlycap list, a CIPSO mapping
  by_write : {t t' : Table} (w : Write) → Grown t → judge_write w t ≡ is_accepted t' → Grown t'

-- 01 and 02, the tables' part of refusal 0: what an undamaged state is, said of the lent slices place by place, without the tables that they hold and without
-- the test of store/specs/Layout. (A label's length is a byte, so none is over 255.) Assumes nothing.
use Rattle.std.specs.Prelude.{ℕ, ◌+◌, ◌%◌, ◌<◌, ◌≤◌, ◌≡◌, true, false, ◌↔◌, length, get_or}
use Rattle.numbers.specs.Categories.{has_category}
use Rattle.store.specs.Layout.{Store, labels_size, entries_size, words_size, objects_from, modes_from, mapped_from, onlycap_from, set_at, undamaged_of}

-- the counts of labels, rules, mappings and onlycap labels are words 0 to 3
pub record Undamaged (s : Store) : Type 0 where
  -- each part has its full size
  pub labels_full : length s.labels ≡ labels_size
  pub entries_full : length s.entries ≡ entries_size
  pub words_full : length s.words ≡ words_size
  -- no count is over its limit
  pub few_labels : get_or s.words 0 0 ≤ 64
  pub few_rules : get_or s.words 1 0 ≤ 256
  pub few_mappings : get_or s.words 2 0 ≤ 32
  pub few_onlycap : get_or s.words 3 0 ≤ 8
  -- each number names a stored label
  pub subjects : (k : ℕ) → k < get_or s.words 1 0 → get_or s.entries k 0 < get_or s.words 0 0
  pub objects : (k : ℕ) → k < get_or s.words 1 0 → get_or s.entries (objects_from + k) 0 < get_or s.words 0 0
  pub mapped : (k : ℕ) → k < get_or s.words 2 0 → get_or s.entries (mapped_from + k) 0 < get_or s.words 0 0
  pub onlycap : (k : ℕ) → k < get_or s.words 3 0 → get_or s.entries (onlycap_from + k) 0 < get_or s.words 0 0
  -- no mode bit is unknown: the five known ones are 32 16 8 4 2; the lowest, 1, stored b, and is unknown now (02, Six)
  pub modes : (k : ℕ) → k < get_or s.words 1 0 → (get_or s.entries (modes_from + k) 0 < 64) × (get_or s.entries (modes_from + k) 0 % 2 ≡ 0)
  -- no category bit is unknown: of the 192 bits of a set, those behind category 184 are 0
  pub sets : (k : ℕ) → k < get_or s.words 2 0 → (n : ℕ) → 184 < n → n ≤ 192 → has_category (set_at s.words k) n ≡ false

-- a state passes the test exactly where it is as 01 and 02 say
abbrev pub WhatUndamagedIs : Type 0
WhatUndamagedIs = (s : Store) → (undamaged_of s ≡ true) ↔ Undamaged s

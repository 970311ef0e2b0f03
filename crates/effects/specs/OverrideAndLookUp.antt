-- 01, Questions, the last sentence: override; and Single writes, the paragraph after them: the look-ups. Assumes nothing.
use Rattle.std.specs.Prelude.{ℕ, ◌<◌, Bool, true, false, cond, ◌≡◌, ◌↔◌, ◌⊎◌, length, Some, None, Ok}
use mathlib.Core.List.{List, [], Memᴰ}
use Rattle.alphabet.specs.Alphabet.{well_formed}
use Rattle.numbers.specs.Categories.{categories}
use Rattle.numbers.specs.declared.CategorySet.{CategorySet}
use Rattle.store.specs.Table.{Table, label_in, label_numbered, mapping_numbered}
use Rattle.lookups.specs.Lookups.{mapped, label_lookup, level_lookup}
use Rattle.access.specs.declared.Denial.{Denial}
use Rattle.access.specs.declared.Answer.{Answer}
use Rattle.access.specs.declared.Answer.TheVariants.{Granted, Denied, Override, Refused}
use Rattle.access.specs.Access.{effective, answer}
use Rattle.effects.specs.Effects.{HasMapping}

-- ---- override

-- an answer where override counts: a denial is granted by override, with the rule that would have denied; any other answer stays
abbrev pub overridden : Answer → Answer
overridden (Granted n) = Granted n
overridden (Denied by) = Override by
overridden (Override by) = Override by
overridden (Refused n) = Refused n

-- 01: override counts only if the asker has it and the list is empty or holds the subject, and only after a denial
pub record OverrideCounts (t : Table) : Type 0 where
  -- an asker who has it gets the answer that there is without it or, where override counts, that one overridden
  pub after_denial :
      (s o request : List ℕ) →
      answer t s o request true ≡ cond (effective t (label_in t s) true) (overridden (answer t s o request false)) (answer t s o request false)
  -- an asker who has it not gets no override
  pub never_without : (s o request : List ℕ) (by : Denial) → answer t s o request false ≡ Override by → ⊥
  -- it counts exactly for an asker who has it, where the list is empty or holds the subject; a label that is not in the table is on no list
  pub holder : (i : ℕ) (capable : Bool) → (effective t (Some i) capable ≡ true) ↔ ((capable ≡ true) × ((t.onlycap ≡ []) ⊎ Memᴰ i t.onlycap))
  pub unknown : (capable : Bool) → (effective t None capable ≡ true) ↔ ((capable ≡ true) × (t.onlycap ≡ []))

-- ---- looked up by label

-- 01: level, set and how many categories are in the set; an unmapped label gives none
pub record LabelsMapping (t : Table) (l : List ℕ) : Type 0 where
  pub mapped :
      (level : ℕ) (set : CategorySet) (count : ℕ) →
      (label_lookup t l ≡ mapped level set count)
      ↔ ((well_formed l ≡ true)
      × (k : ℕ)
      × HasMapping t l k
      × ((mapping_numbered t k).level ≡ level)
      × ((mapping_numbered t k).set ≡ set)
      × (count ≡ length (categories set)))
  pub unmapped : (label_lookup t l ≡ Ok None) ↔ ((well_formed l ≡ true) × ((k : ℕ) → HasMapping t l k → ⊥))

-- ---- looked up by level and set

-- label number n, looked up, has this level and this set
abbrev pub HasBoth : Table → ℕ → CategorySet → ℕ → Type 0
HasBoth t level set n = label_lookup t (label_numbered t n) ≡ mapped level set (length (categories set))

-- 01: the lowest-numbered label whose both are equal, or none
pub record LowestLabel (t : Table) (level : ℕ) (set : CategorySet) : Type 0 where
  pub lowest :
      (n : ℕ) →
      (level_lookup t level set ≡ Ok (Some n))
      ↔ ((n < length t.labels) × HasBoth t level set n × ((k : ℕ) → k < n → HasBoth t level set k → ⊥))
  pub none : (level_lookup t level set ≡ Ok None) ↔ ((n : ℕ) → n < length t.labels → HasBoth t level set n → ⊥)

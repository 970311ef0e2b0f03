-- 01, Single writes, and an accepted line of Rule text: what an accepted write does, from table t to table t', by the labels' bytes. Which labels enter
-- stands in specs/Labels. Assumes nothing.
use Rattle.std.specs.Prelude.{ℕ, suc, ◌<◌, Bool, true, false, ◌&&◌, ◌||◌, ◌≡◌, ◌≢◌, List, [], ◌∷◌, map, length, eqb, Some, None, Ok}
use Rattle.search.specs.Search.{those}
use Rattle.search.specs.Bytes.{same_bytes}
use Rattle.alphabet.specs.Alphabet.{dash}
use Rattle.numbers.specs.Categories.{categories}
use Rattle.numbers.specs.declared.CategorySet.{CategorySet}
use Rattle.store.specs.declared.Rule.{Rule}
use Rattle.store.specs.Table.{Table, label_in, label_numbered, rule_numbered, mapping_in, mapping_numbered}
use Rattle.store.specs.Pairs.{PairModes, has_modes, no_rule, rule_between, modes_between}
use Rattle.lookups.specs.Lookups.{mapped, label_lookup}
use Rattle.access.specs.Access.{effective, answer}
use Rattle.new_object.specs.WhichLabel.{GoesByModes, SameNewObjects}
use Rattle.grown.specs.Pairs.{has_rule}
use Rattle.effects.specs.Labels.{among, FirstAppearances, Enter}

-- ---- Revoke

-- a pair's modes without any letter; a pair that has no rule still has none
abbrev pub cleared : PairModes → PairModes
cleared (has_modes m) = has_modes 0
cleared no_rule = no_rule

-- 01: every rule with that subject gets no modes and keeps its place
pub record Revokes (t t' : Table) (l : List ℕ) : Type 0 where
  -- the label's pairs have no letter from now on, and the labels of its new objects go by that; of another subject no modes change, no answer, and no label
  -- of a new object
  pub own : (o : List ℕ) → modes_between t' l o ≡ cleared (modes_between t l o)
  pub others : (x y : List ℕ) → x ≢ l → modes_between t' x y ≡ modes_between t x y
  pub other_answers : (x y request : List ℕ) (capable : Bool) → x ≢ l → answer t' x y request capable ≡ answer t x y request capable
  pub own_new_objects : (o : List ℕ) → GoesByModes t' l o (cleared (modes_between t l o))
  pub other_new_objects : (x y : List ℕ) → x ≢ l → SameNewObjects t' t x y
  -- every rule keeps its place, its subject and its object; it loses its modes where its subject is the label's number, and stays whole elsewhere
  pub as_many : length t'.rules ≡ length t.rules
  pub subjects : (k : ℕ) → (rule_numbered t' k).subject ≡ (rule_numbered t k).subject
  pub objects : (k : ℕ) → (rule_numbered t' k).object ≡ (rule_numbered t k).object
  pub own_rules : (k : ℕ) → label_in t l ≡ Some (rule_numbered t k).subject → (rule_numbered t' k).modes ≡ 0
  pub other_rules : (k : ℕ) → label_in t l ≢ Some (rule_numbered t k).subject → (rule_numbered t' k).modes ≡ (rule_numbered t k).modes
  -- nothing else changes
  pub labels : t'.labels ≡ t.labels
  pub mappings : t'.mappings ≡ t.mappings
  pub onlycap : t'.onlycap ≡ t.onlycap

-- how many rules have that subject: those of the label's number; an unknown label gives 0
pub record CountsRules (t : Table) (l : List ℕ) (count : ℕ) : Type 0 where
  pub known : (n : ℕ) → label_in t l ≡ Some n → count ≡ length (those (λ (r : Rule). eqb r.subject n) t.rules)
  pub unknown : label_in t l ≡ None → count ≡ 0

-- the rules whose subject is that label, by its bytes
abbrev pub rules_of : Table → List ℕ → List Rule
rules_of t l = those (λ (r : Rule). same_bytes (label_numbered t r.subject) l) t.rules

-- ---- Override list

-- 01: the write replaces the list; ls are the labels of the new one, repeats counted once
pub record SetsList (t t' : Table) (ls : List (List ℕ)) : Type 0 where
  -- override counts from now on for an asker who has it, where ls is empty or holds the subject
  pub override : (x : List ℕ) (capable : Bool) → effective t' (label_in t' x) capable ≡ (capable && (eqb (length ls) 0 || among x ls))
  pub listed : FirstAppearances ls (map (label_numbered t') t'.onlycap)
  -- its labels enter
  pub labels : Enter t t' ls
  -- nothing else changes: no rule, no mapping, no pair's modes, no label of a new object (02, Seven: override isn't considered there) and no label's look-up
  pub rules : t'.rules ≡ t.rules
  pub mappings : t'.mappings ≡ t.mappings
  pub modes : (x y : List ℕ) → modes_between t' x y ≡ modes_between t x y
  pub new_objects : (x y : List ℕ) → SameNewObjects t' t x y
  pub look_ups : (x : List ℕ) → label_lookup t' x ≡ label_lookup t x

-- 01: 1 to 8 different labels, or a lone dash to clear
pub record SetsFields (t t' : Table) (fs : List (List ℕ)) : Type 0 where
  pub lone_dash_is : fs ≡ (dash ∷ []) ∷ [] → SetsList t t' []
  pub its_labels : fs ≢ (dash ∷ []) ∷ [] → SetsList t t' fs

-- ---- Mapping

-- mapping k is the label's: the first that names the label's number
abbrev pub HasMapping : Table → List ℕ → ℕ → Type 0
HasMapping t l k = (n : ℕ) × (label_in t l ≡ Some n) × (mapping_in t n ≡ Some k)

-- 01: the label is mapped to the level and the set, in its former mapping's place; a new mapping goes last
pub record Maps (t t' : Table) (l : List ℕ) (level : ℕ) (set : CategorySet) : Type 0 where
  -- looked up by its label it gives the level, the set and how many categories are in the set; no other label's look-up changes
  pub found : label_lookup t' l ≡ mapped level set (length (categories set))
  pub others : (x : List ℕ) → x ≢ l → label_lookup t' x ≡ label_lookup t x
  -- every mapping keeps its place and its label, and each but the label's stays whole; there is one more where the label had none
  pub places : (k : ℕ) → k < length t.mappings → (mapping_numbered t' k).label ≡ (mapping_numbered t k).label
  pub other_mappings : (k : ℕ) → k < length t.mappings → (HasMapping t l k → ⊥) → mapping_numbered t' k ≡ mapping_numbered t k
  pub replaced : label_lookup t l ≢ Ok None → length t'.mappings ≡ length t.mappings
  pub last : label_lookup t l ≡ Ok None → length t'.mappings ≡ suc (length t.mappings)
  -- its label enters
  pub labels : Enter t t' (l ∷ [])
  -- nothing else changes: no rule, nothing of the override list, no answer, and no label of a new object
  pub rules : t'.rules ≡ t.rules
  pub onlycap : t'.onlycap ≡ t.onlycap
  pub answers : (s o request : List ℕ) (capable : Bool) → answer t' s o request capable ≡ answer t s o request capable
  pub new_objects : (x y : List ℕ) → SameNewObjects t' t x y

-- ---- a line of rule text, and Change

-- what both do besides setting the pair's modes. 01: a pair seen first takes the next place in the rule table
pub record KeepsPlaces (t t' : Table) (s o : List ℕ) : Type 0 where
  -- every rule keeps its place, its subject and its object
  pub subjects : (k : ℕ) → k < length t.rules → (rule_numbered t' k).subject ≡ (rule_numbered t k).subject
  pub objects : (k : ℕ) → k < length t.rules → (rule_numbered t' k).object ≡ (rule_numbered t k).object
  -- each but the pair's stays whole
  pub other_rules : (k : ℕ) → k < length t.rules → rule_between t (label_in t s) (label_in t o) ≢ Some k → rule_numbered t' k ≡ rule_numbered t k
  -- a pair that has a rule gets no other; the rule of one that has none goes last, and is of its two labels
  pub as_many : has_rule (modes_between t s o) ≡ true → length t'.rules ≡ length t.rules
  pub one_more : has_rule (modes_between t s o) ≡ false → length t'.rules ≡ suc (length t.rules)
  pub last_subject : has_rule (modes_between t s o) ≡ false → label_numbered t' (rule_numbered t' (length t.rules)).subject ≡ s
  pub last_object : has_rule (modes_between t s o) ≡ false → label_numbered t' (rule_numbered t' (length t.rules)).object ≡ o
  -- its labels enter, subject first
  pub labels : Enter t t' (s ∷ o ∷ [])
  -- nothing else changes
  pub mappings : t'.mappings ≡ t.mappings
  pub onlycap : t'.onlycap ≡ t.onlycap

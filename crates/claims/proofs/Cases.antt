-- The cases P1 to P12 are computed on the definitions. Assumes nothing.
use mathlib.Core.Path.{◌≡◌, refl, ap, ◌∙◌}
use mathlib.Core.Bool.{true, and-true}
use mathlib.Core.List.{List, [], ◌∷◌}
use Prim.Native.Nat.{ℕ}
use Rattle.search.specs.Search.{first, all, put, entries}
use Rattle.search.specs.Bytes.{ascii, same_bytes}
use Rattle.alphabet.specs.Alphabet.{is_blank, label_byte, well_formed, fault_of, fields}
use Rattle.modes.specs.Modes.{bit_of, allowed_byte, modes_of, read_modes, modes_text}
use Rattle.numbers.specs.Numbers.{number_of}
use Rattle.numbers.specs.Categories.{value, categories, with_category}
use Rattle.numbers.specs.declared.CategorySet.{CategorySet}
use Rattle.store.specs.Table.{fresh, is_pair, names}
use Rattle.store.specs.Judged.{table_after}
use Rattle.lines.specs.Lines.{rule_by, rule_of, change_by, change_of}
use Rattle.rules.specs.Rules.{with_pair}
use Rattle.store.specs.Pairs.{modes_between}
use Rattle.access.specs.Access.{effective, decide, answer}
use Rattle.new_object.specs.NewObject.{object_label_for, object_label}
use Rattle.cipso.specs.Cipso.{SaidMapping, mapping, categories_of, said_by, mapping_of, with_mapping, mapping_write, said_judged}
use Rattle.lookups.specs.Lookups.{label_lookup}
use Rattle.claims.specs.Cases.{maps, right, same_lookup, cases, further_cases, new_object_cases}

abbrev Vault7 : List ℕ
Vault7 = ascii "Vault7"

-- a case of a mapping write, by what it says
mapped :
    (write : List ℕ) (s : CategorySet) (cs : List ℕ) (n : ℕ) →
    mapping_of write ≡ mapping Vault7 9 s →
    same_lookup (label_lookup (table_after fresh (said_judged fresh (mapping Vault7 9 s))) Vault7) 9 cs n ≡ true →
    right (maps write Vault7 9 cs n) ≡ true
unfolding right mapping_write
mapped write s cs n says after_it = ap (λ (m : SaidMapping). same_lookup (label_lookup (table_after fresh (said_judged fresh m)) Vault7) 9 cs n) says ∙ after_it

-- P12
abbrev twelfth : List ℕ
twelfth = ascii "Vault7 9 1 63"

abbrev one_and_63 : CategorySet
one_and_63 = record { first = 9223372036854775810; second = 0; third = 0 }

says : mapping_of twelfth ≡ mapping Vault7 9 one_and_63
unfolding all is_blank label_byte well_formed fields number_of with_category categories_of said_by mapping_of
says = refl

after_it : same_lookup (label_lookup (table_after fresh (said_judged fresh (mapping Vault7 9 one_and_63))) Vault7) 9 (1 ∷ 63 ∷ []) 2 ≡ true
unfolding first put well_formed all label_byte same_bytes label_lookup names with_mapping value categories entries
after_it = refl

-- a category more or less at each end of each word
abbrev at_the_ends : List ℕ
at_the_ends = ascii "Vault7 9 63 64 065 128 129 184 064"

abbrev of_each_word : CategorySet
of_each_word = record { first = 3; second = 9223372036854775809; third = 9223372036854776064 }

says-ends : mapping_of at_the_ends ≡ mapping Vault7 9 of_each_word
unfolding all is_blank label_byte well_formed fields number_of with_category categories_of said_by mapping_of
says-ends = refl

after-ends : same_lookup (label_lookup (table_after fresh (said_judged fresh (mapping Vault7 9 of_each_word))) Vault7) 9 (63 ∷ 64 ∷ 65 ∷ 128 ∷ 129 ∷ 184 ∷ []) 6 ≡ true
unfolding first put well_formed all label_byte same_bytes label_lookup names with_mapping value categories entries
after-ends = refl

pub cases-right : all right cases ≡ true
unfolding all right first put same_bytes is_blank label_byte well_formed fields bit_of allowed_byte modes_of read_modes modes_text rule_by rule_of change_by change_of is_pair with_pair modes_between effective decide answer
cases-right = and-true (right (maps twelfth Vault7 9 (1 ∷ 63 ∷ []) 2)) ∙ mapped twelfth one_and_63 (1 ∷ 63 ∷ []) 2 says after_it

pub further_right : all right further_cases ≡ true
unfolding all right first put same_bytes is_blank label_byte well_formed fault_of fields bit_of allowed_byte modes_of read_modes modes_text rule_by rule_of change_by change_of is_pair with_pair modes_between effective decide answer
further_right = and-true (right (maps at_the_ends Vault7 9 (63 ∷ 64 ∷ 65 ∷ 128 ∷ 129 ∷ 184 ∷ []) 6)) ∙ mapped at_the_ends of_each_word (63 ∷ 64 ∷ 65 ∷ 128 ∷ 129 ∷ 184 ∷ []) 6 says-ends after-ends

pub new-objects-right : all right new_object_cases ≡ true
unfolding all right first put same_bytes is_blank label_byte well_formed fields bit_of allowed_byte modes_of read_modes rule_by rule_of is_pair with_pair modes_between object_label_for object_label
new-objects-right = refl

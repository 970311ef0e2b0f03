-- 02, Five, by examples: 'So A is 134 12 0 0 0 3 1 6 0 250 32 128', labels with and without a mapping, sets of categories, each refusal
-- of the reader but 0, and 3, 19 and 9, in numbers. Assumes nothing.
use Rattle.std.specs.Prelude.{ℕ, ◌≡◌}
use mathlib.Core.List.{List, [], ◌∷◌, foldl}
use Rattle.search.specs.Bytes.{ascii}
use Rattle.refusals.specs.Refusals as refusal
use Rattle.numbers.specs.Categories.{no_categories, with_category}
use Rattle.output.specs.Output.{text, refused}
use Rattle.store.specs.Table.{Table, fresh}
use Rattle.store.specs.Judged.{is_refused, table_after}
use Rattle.cipso.specs.Cipso.{mapping, mapping_of, mapping_write}
use Rattle.cipso_option.specs.Option.{option_of, label_option, label, not_read, peer_of}

-- the option of A, and one of a level and the first byte of a bitmap
abbrev pub option_of_a : List ℕ
option_of_a = 134 ∷ 12 ∷ 0 ∷ 0 ∷ 0 ∷ 3 ∷ 1 ∷ 6 ∷ 0 ∷ 250 ∷ 32 ∷ 128 ∷ []

abbrev pub of_one_byte : ℕ → ℕ → List ℕ
of_one_byte level b = 134 ∷ 11 ∷ 0 ∷ 0 ∷ 0 ∷ 3 ∷ 1 ∷ 5 ∷ 0 ∷ level ∷ b ∷ []

abbrev pub option_of_23 : List ℕ
option_of_23 =
    134 ∷ 33 ∷ 0 ∷ 0 ∷ 0 ∷ 3 ∷ 1 ∷ 27 ∷ 0 ∷ 250
    ∷ 34 ∷ 188 ∷ 48 ∷ 177 ∷ 186 ∷ 54 ∷ 60 ∷ 153 ∷ 25 ∷ 161 ∷ 60 ∷ 186 ∷ 50 ∷ 185 ∷ 166 ∷ 55 ∷ 183 ∷ 51 ∷ 166 ∷ 48 ∷ 177 ∷ 50 ∷ 182 ∷ []

abbrev pub option_of_9 : List ℕ
option_of_9 = 134 ∷ 18 ∷ 0 ∷ 0 ∷ 0 ∷ 3 ∷ 1 ∷ 12 ∷ 0 ∷ 9 ∷ 64 ∷ 0 ∷ 0 ∷ 0 ∷ 0 ∷ 0 ∷ 0 ∷ 1 ∷ []

-- a fresh table and one mapping, of a label of 24 bytes; and with a second label mapped alike
abbrev pub mapped_table : Table
mapped_table = table_after fresh (mapping_write (ascii "Exactly24BytesLongLabel! 9 1 63") fresh)

abbrev pub mapped_twice : Table
mapped_twice = table_after mapped_table (mapping_write (ascii "Vault7 9 63 1") mapped_table)

pub record OptionExamples : Type 0 where
  pub written : label_option fresh (ascii "A") ≡ text option_of_a
  pub read : peer_of fresh option_of_a ≡ label (ascii "A")
  -- a bitmap of one byte: 94 is categories 2, 4, 5, 6 and 7
  pub hat : label_option fresh (ascii "^") ≡ text (of_one_byte 250 47)
  -- 23 bytes go, and 24 do not; 3 comes before 19
  pub twenty_three : (label_option fresh (ascii "Exactly23BytesLongLabel") ≡ text option_of_23) × (peer_of fresh option_of_23 ≡ label (ascii "Exactly23BytesLongLabel"))
  pub twenty_four : (label_option fresh (ascii "Exactly24BytesLongLabel!") ≡ refused refusal.not_in_an_option) × (refusal.number_of refusal.not_in_an_option ≡ 19)
  pub bad_label : label_option fresh (ascii "-Exactly24BytesLongLabe!") ≡ refused (refusal.bad_label_at 0)
  -- a mapped label uses its mapping, however long it is; of two that are mapped alike the lower-numbered is read
  pub mapped : (label_option mapped_table (ascii "Exactly24BytesLongLabel!") ≡ text option_of_9) × (peer_of mapped_table option_of_9 ≡ label (ascii "Exactly24BytesLongLabel!"))
  pub mapped_alike : (label_option mapped_twice (ascii "Vault7") ≡ text option_of_9) × (peer_of mapped_twice option_of_9 ≡ label (ascii "Exactly24BytesLongLabel!"))
  -- level 9, categories 1 and 63; level 7, categories 100 and 184; level 0, none
  pub one_and_63 : option_of 9 (foldl with_category no_categories (1 ∷ 63 ∷ [])) ≡ option_of_9
  pub hundred_and_184 :
      option_of 7 (foldl with_category no_categories (100 ∷ 184 ∷ []))
      ≡ 134 ∷ 34 ∷ 0 ∷ 0 ∷ 0 ∷ 3 ∷ 1 ∷ 28 ∷ 0 ∷ 7
      ∷ 0 ∷ 0 ∷ 0 ∷ 0 ∷ 0 ∷ 0 ∷ 0 ∷ 0 ∷ 0 ∷ 0 ∷ 0 ∷ 0 ∷ 8 ∷ 0 ∷ 0 ∷ 0 ∷ 0 ∷ 0 ∷ 0 ∷ 0 ∷ 0 ∷ 0 ∷ 0 ∷ 128 ∷ []
  pub no_category : option_of 0 no_categories ≡ 134 ∷ 10 ∷ 0 ∷ 0 ∷ 0 ∷ 3 ∷ 1 ∷ 4 ∷ 0 ∷ 0 ∷ []
  -- no bytes, a byte too many, another byte than 0 before the level, another tag type (16 before 17), another DOI (17 before 18), category 0, category 185
  pub empty : (peer_of fresh [] ≡ not_read refusal.bad_option) × (refusal.number_of refusal.bad_option ≡ 16)
  pub too_many : peer_of fresh (134 ∷ 12 ∷ 0 ∷ 0 ∷ 0 ∷ 3 ∷ 1 ∷ 6 ∷ 0 ∷ 250 ∷ 32 ∷ 128 ∷ 0 ∷ []) ≡ not_read refusal.bad_option
  pub byte_8 : peer_of fresh (134 ∷ 12 ∷ 0 ∷ 0 ∷ 0 ∷ 3 ∷ 1 ∷ 6 ∷ 1 ∷ 250 ∷ 32 ∷ 128 ∷ []) ≡ not_read refusal.bad_option
  pub tag_type : peer_of fresh (134 ∷ 12 ∷ 3 ∷ 0 ∷ 0 ∷ 0 ∷ 2 ∷ 6 ∷ 0 ∷ 250 ∷ 160 ∷ 128 ∷ []) ≡ not_read refusal.bad_option
  pub other_doi : (peer_of fresh (134 ∷ 12 ∷ 3 ∷ 0 ∷ 0 ∷ 0 ∷ 1 ∷ 6 ∷ 0 ∷ 250 ∷ 160 ∷ 128 ∷ []) ≡ not_read refusal.other_doi) × (refusal.number_of refusal.other_doi ≡ 17)
  pub category_0 : (peer_of fresh (of_one_byte 250 160) ≡ not_read refusal.bad_option_category) × (refusal.number_of refusal.bad_option_category ≡ 18)
  pub category_185 :
      peer_of fresh
      (134 ∷ 34 ∷ 0 ∷ 0 ∷ 0 ∷ 3 ∷ 1 ∷ 28 ∷ 0 ∷ 7
      ∷ 0 ∷ 0 ∷ 0 ∷ 0 ∷ 0 ∷ 0 ∷ 0 ∷ 0 ∷ 0 ∷ 0 ∷ 0 ∷ 0 ∷ 0 ∷ 0 ∷ 0 ∷ 0 ∷ 0 ∷ 0 ∷ 0 ∷ 0 ∷ 0 ∷ 0 ∷ 0 ∷ 64 ∷ [])
      ≡ not_read refusal.bad_option_category
  -- at level 250: nothing is left of the label, a byte that no label has, a leading dash, an inner zero byte; and at another level no mapping
  pub no_label : (peer_of fresh (of_one_byte 250 0) ≡ not_read refusal.bad_label) × (refusal.number_of refusal.bad_label ≡ 3)
  pub bad_byte : peer_of fresh (of_one_byte 250 16) ≡ not_read refusal.bad_label
  pub leading_dash : peer_of fresh (134 ∷ 12 ∷ 0 ∷ 0 ∷ 0 ∷ 3 ∷ 1 ∷ 6 ∷ 0 ∷ 250 ∷ 22 ∷ 128 ∷ []) ≡ not_read refusal.bad_label
  pub inner_zero : peer_of fresh (134 ∷ 14 ∷ 0 ∷ 0 ∷ 0 ∷ 3 ∷ 1 ∷ 8 ∷ 0 ∷ 250 ∷ 32 ∷ 128 ∷ 32 ∷ 128 ∷ []) ≡ not_read refusal.bad_label
  pub no_mapping : (peer_of fresh (of_one_byte 9 64) ≡ not_read refusal.no_such_mapping) × (refusal.number_of refusal.no_such_mapping ≡ 21)
  -- a mapping write at level 250, and at 249 and 251
  pub level_250 : (mapping_write (ascii "Vault7 250") fresh ≡ is_refused refusal.bad_level_or_category) × (refusal.number_of refusal.bad_level_or_category ≡ 9)
  pub level_249 : mapping_of (ascii "Vault7 249") ≡ mapping (ascii "Vault7") 249 no_categories
  pub level_251 : mapping_of (ascii "Vault7 251") ≡ mapping (ascii "Vault7") 251 no_categories

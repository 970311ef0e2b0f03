-- 01's numbers and 02's, each as it stands there, and those of the lent parts: the refusals, the limits, and what a host gets for each case of an answer. Elsewhere they are spoken of by name; here
-- a name that has another number is refused. Assumes nothing.
use Rattle.std.specs.Prelude.{ℕ, ◌+◌, ◌≤◌, ◌≡◌, Bool, true, false, not, ◌&&◌, eqb, leb, length, take, get_or, Some, None, Ok, Err}
use mathlib.Core.List.{List, [], ◌∷◌, map, foldl}
use Rattle.search.specs.Bytes.{ascii}
use Rattle.refusals.specs.Refusals as refusal
use Rattle.refusals.specs.declared.Refusal.{Refusal}
use Rattle.alphabet.specs.Alphabet.{label_longest, line_limit}
use Rattle.numbers.specs.Categories.{level_limit, is_level, own_level, is_mapping_level, category_limit, is_category, no_categories, with_category}
use Rattle.numbers.specs.declared.CategorySet.{CategorySet}
use Rattle.cipso.specs.Cipso.{mapping_longest}
use Rattle.cipso_option.specs.Option as option
use Rattle.cipso_option.specs.Option.{option_bytes, our_doi, own_longest, bitmap_limit, peer_shown}
use Rattle.store.specs.Layout.{labels_size, entries_size, words_size, objects_from, modes_from, mapped_from, levels_from, onlycap_from, firsts_from, seconds_from, thirds_from}
use Rattle.store.specs.Table.{fresh, label_limit, rule_limit, mapping_limit, onlycap_limit}
use Rattle.reports.specs.Report.{count_limit, fresh_loader}
use Rattle.load.specs.Loader.{Load, ready, end_after}
use Rattle.rule_text.specs.RuleText.{longest_rule}
use Rattle.fixed_load.specs.Records.{record_label, label_place, record_size}
use Rattle.access.specs.declared.Denial.TheVariants.{StarSubject, AnyOther}
use Rattle.access.specs.declared.Answer.TheVariants as answer
use Rattle.new_object.specs.declared.ObjectLabel.TheVariants as object-label
use Rattle.lookups.specs.Lookups.{mapped}
use Rattle.reports.specs.declared.Report.{Report}
use Rattle.reports.specs.declared.Loader.{Loader}
use Rattle.answers.specs.Answers.{shown, write_shown, revoke_shown, piece_shown, end_shown, lookup_shown, search_shown, output_shown, object_shown}
use Rattle.store.specs.Pairs.{has_modes, no_rule, modes_or_none}

-- the refusals and the limits, in 01's order; the last, of a listed rule, by 02, Six: five letters
abbrev pub refusals : List Refusal
refusals =
    refusal.damaged ∷ refusal.too_long ∷ refusal.wrong_fields ∷ refusal.bad_label ∷ refusal.bad_access ∷ refusal.same_labels ∷ refusal.labels_full
    ∷ refusal.rules_full ∷ refusal.bad_request ∷ refusal.bad_level_or_category ∷ refusal.mappings_full ∷ refusal.too_many_overrides ∷ refusal.output_too_short
    ∷ refusal.no_such_number ∷ []

abbrev pub limits : List ℕ
limits = label_longest ∷ label_limit ∷ rule_limit ∷ mapping_limit ∷ onlycap_limit ∷ line_limit ∷ level_limit ∷ count_limit ∷ longest_rule ∷ []

pub record NumbersOf01 : Type 0 where
  pub refused_by : map refusal.told refusals ≡ map refusal.plain (0 ∷ 1 ∷ 2 ∷ 3 ∷ 4 ∷ 5 ∷ 6 ∷ 7 ∷ 8 ∷ 9 ∷ 10 ∷ 11 ∷ 12 ∷ 13 ∷ [])
  pub sizes : limits ≡ 255 ∷ 64 ∷ 256 ∷ 32 ∷ 8 ∷ 600 ∷ 255 ∷ 4294967295 ∷ 518 ∷ []
  -- a fresh table has the five labels and nothing else; a change of a pair that has no rule starts from no letter, and of one that has a rule from its modes
  pub fresh_table :
      fresh
      ≡ record { labels = ascii "_" ∷ ascii "^" ∷ ascii "*" ∷ ascii "?" ∷ ascii "@" ∷ []; rules = []; mappings = []; onlycap = [] }
  pub from_none : modes_or_none no_rule ≡ 0
  pub from_its_own : (m : ℕ) → modes_or_none (has_modes m) ≡ m
  -- a fresh loader has kept nothing and counted nothing, and an end call that is not refused leaves one
  pub fresh_loader_is : fresh_loader ≡ record { kept = 0; report = record { lines = 0; accepted = 0; skipped = 0; refused = 0; first = 0; reason = 0; place = 0; bringup = 0 } }
  pub after_the_end : (s : Load) → ready s ≡ true → (end_after s).loader ≡ fresh_loader
  pub levels : (n : ℕ) → is_level n ≡ leb n 255
  -- a question: 0 granted, 1 denied, 2 granted by override, 3 refused, with the number that applies
  pub granted : (n : ℕ) → shown (answer.Granted n) ≡ record { kind = 0; number = n; place = 0 }
  pub denied_1 : shown (answer.Denied StarSubject) ≡ record { kind = 1; number = 1; place = 0 }
  pub denied_7 : shown (answer.Denied AnyOther) ≡ record { kind = 1; number = 7; place = 0 }
  pub override_1 : shown (answer.Override StarSubject) ≡ record { kind = 2; number = 1; place = 0 }
  pub override_7 : shown (answer.Override AnyOther) ≡ record { kind = 2; number = 7; place = 0 }
  pub refused : (r : Refusal) → shown (answer.Refused r) ≡ record { kind = 3; number = refusal.number_of r; place = refusal.place_of r }
  -- a look-up: 0 found, 1 none, 2 refused
  pub mapped :
      (level : ℕ) (set : CategorySet) (count : ℕ) →
      lookup_shown (mapped level set count) ≡ record { kind = 0; number = 0; level = level; count = count; set = set; place = 0 }
  pub unmapped : lookup_shown (Ok None) ≡ record { kind = 1; number = 0; level = 0; count = 0; set = no_categories; place = 0 }
  pub look_up_refused :
      (r : Refusal) → lookup_shown (Err r) ≡ record { kind = 2; number = refusal.number_of r; level = 0; count = 0; set = no_categories; place = refusal.place_of r }
  pub found : (k : ℕ) → search_shown (Ok (Some k)) ≡ record { kind = 0; number = 0; label = k }
  pub none : search_shown (Ok None) ≡ record { kind = 1; number = 0; label = 0 }
  pub search_refused : (r : Refusal) → search_shown (Err r) ≡ record { kind = 2; number = refusal.number_of r; label = 0 }
  -- a text written to a lent output, as a listed rule is: its length, or refused
  pub listed : (k : ℕ) → output_shown (Ok k) ≡ record { refused = false; number = 0; length = k }
  pub not_listed : (r : Refusal) → output_shown (Err r) ≡ record { refused = true; number = refusal.number_of r; length = 0 }

-- what 02 adds, request by request. One: the refusals 14 and 15; the most bytes of a label in an old record, the bytes of a label's place, and those
-- of the record. Three: the place beside a 3, as every answer that has one shows it; a refusal is plain where its place is 0. Four: the highest category
-- and the most bytes of a mapping write; and, which no paper has, the sizes of the lent parts, where their runs begin, and the bits of categories at both
-- ends of each word of a set. Five: the refusals 16 to 19 and 21, the level of labels as their own bits, at which no mapping is written, the most bytes of such
-- a label and of a bitmap that is read, each byte of the option, and what a host gets for a label that was read. Seven: what a host gets for the label of a
-- new object
pub record NumbersOf02 : Type 0 where
  pub old_records :
      (refusal.number_of refusal.bad_record ∷ refusal.number_of refusal.not_in_a_record ∷ record_label ∷ label_place ∷ record_size ∷ []) ≡ 14 ∷ 15 ∷ 23 ∷ 24 ∷ 53 ∷ []
  pub bad_label : (p : ℕ) → refusal.told (refusal.bad_label_at p) ≡ record { number = 3; place = p }
  pub plain : (n : ℕ) → refusal.plain n ≡ record { number = n; place = 0 }
  pub written : (write_shown (Ok tt) ≡ record { refused = false; number = 0; place = 0 })
      × ((r : Refusal) → write_shown (Err r) ≡ record { refused = true; number = refusal.number_of r; place = refusal.place_of r })
  pub revoked : ((k : ℕ) → revoke_shown (Ok k) ≡ record { refused = false; number = 0; count = k; place = 0 })
      × ((r : Refusal) → revoke_shown (Err r) ≡ record { refused = true; number = refusal.number_of r; count = 0; place = refusal.place_of r })
  -- a piece and the end call, which are refused with 0 alone: the loader is then the one that was handed in, and the report has no number and no place
  pub taken : ((old l : Loader) → piece_shown old (Ok l) ≡ record { refused = false; number = 0; loader = l })
      × ((old : Loader) (r : Refusal) → piece_shown old (Err r) ≡ record { refused = true; number = refusal.number_of r; loader = old })
  pub finished : ((old l : Loader) (r : Report) → end_shown old (Ok (r, l)) ≡ record { refused = false; number = 0; report = r; loader = l })
      × ((old : Loader) (r : Refusal) →
      end_shown old (Err r)
      ≡ record {
        refused = true;
        number = refusal.number_of r;
        report = record { lines = 0; accepted = 0; skipped = 0; refused = 0; first = 0; reason = 0; place = 0; bringup = 0 };
        loader = old;
      })
  pub categories_and_mapping : (category_limit ∷ mapping_longest ∷ []) ≡ 184 ∷ 1000 ∷ []
  pub lent_parts : (labels_size ∷ entries_size ∷ words_size ∷ []) ≡ 16384 ∷ 840 ∷ 100 ∷ []
  pub lent_runs :
      (objects_from ∷ modes_from ∷ mapped_from ∷ levels_from ∷ onlycap_from ∷ firsts_from ∷ seconds_from ∷ thirds_from ∷ [])
      ≡ 256 ∷ 512 ∷ 768 ∷ 800 ∷ 832 ∷ 4 ∷ 36 ∷ 68 ∷ []
  pub categories : (n : ℕ) → is_category n ≡ (leb 1 n && leb n 184)
  pub first_and_last :
      foldl with_category no_categories (1 ∷ 64 ∷ 65 ∷ 127 ∷ 128 ∷ 129 ∷ 184 ∷ [])
      ≡ record { first = 9223372036854775809; second = 9223372036854775811; third = 9223372036854776064 }
  pub packet_option :
      (refusal.number_of refusal.bad_option ∷ refusal.number_of refusal.other_doi ∷ refusal.number_of refusal.bad_option_category ∷ refusal.number_of refusal.not_in_an_option ∷ (refusal.number_of refusal.no_such_mapping)
      ∷ own_level ∷ own_longest ∷ bitmap_limit ∷ [])
      ≡ 16 ∷ 17 ∷ 18 ∷ 19 ∷ 21 ∷ 250 ∷ 23 ∷ 30 ∷ []
  pub mapping_levels : (n : ℕ) → is_mapping_level n ≡ (leb n 255 && not (eqb n 250))
  pub option_bytes_are :
      (level : ℕ) (bitmap : List ℕ) →
      option_bytes our_doi level bitmap ≡ 134 ∷ (10 + length bitmap) ∷ 0 ∷ 0 ∷ 0 ∷ 3 ∷ 1 ∷ (4 + length bitmap) ∷ 0 ∷ level ∷ bitmap
  pub peer_label : (l : List ℕ) → length l ≤ 255 →
      ((peer_shown (option.label l)).refused ≡ false) × ((peer_shown (option.label l)).number ≡ 0) × ((peer_shown (option.label l)).length ≡ length l)
      × (take (length l) (peer_shown (option.label l)).bytes ≡ l) × (length (peer_shown (option.label l)).bytes ≡ 255)
      × ((i : ℕ) → length l ≤ i → get_or (peer_shown (option.label l)).bytes i 0 ≡ 0)
  pub peer_refused : (r : Refusal) →
      ((peer_shown (option.not_read r)).refused ≡ true) × ((peer_shown (option.not_read r)).number ≡ refusal.number_of r) × ((peer_shown (option.not_read r)).length ≡ 0)
      × (length (peer_shown (option.not_read r)).bytes ≡ 255) × ((i : ℕ) → get_or (peer_shown (option.not_read r)).bytes i 0 ≡ 0)
  pub new_object : (object_shown (Ok object-label.CreatorLabel) ≡ record { kind = 0; number = 0; transmutes = false })
      × (object_shown (Ok object-label.Denied) ≡ record { kind = 1; number = 0; transmutes = false })
      × ((new_transmutes : Bool) → object_shown (Ok (object-label.FolderLabel new_transmutes)) ≡ record { kind = 2; number = 0; transmutes = new_transmutes })
      × ((r : Refusal) → object_shown (Err r) ≡ record { kind = 3; number = refusal.number_of r; transmutes = false })
  pub no_category : no_categories ≡ record { first = 0; second = 0; third = 0 }

-- 02's example, and others: by computing. Assumes nothing.
use mathlib.Core.Path.{refl}
use Rattle.search.specs.Search.{first, all, put, entries}
use Rattle.search.specs.Bytes.{same_bytes}
use Rattle.alphabet.specs.Alphabet.{is_blank, label_byte, well_formed, fault_of, fields, bad_byte_in}
use Rattle.numbers.specs.Numbers.{number_of}
use Rattle.numbers.specs.Categories.{value, with_category, set_of}
use Rattle.set_bytes.specs.SetBytes.{byte_where, bytes_where, bitmap_bytes, set_of_bitmap, only_categories, own_bytes, set_of_own}
use Rattle.store.specs.Table.{names}
use Rattle.lookups.specs.Lookups.{label_lookup, sought, has_both, level_lookup}
use Rattle.cipso.specs.Cipso.{categories_of, said_by, mapping_of, with_mapping, mapping_write}
use Rattle.cipso_option.specs.Option.{trimmed, option_of, label_option, is_option, peer_at, peer_of}
use Rattle.option_laws.specs.Example.{OptionExamples}

pub option_examples : OptionExamples
unfolding first all put entries same_bytes is_blank label_byte well_formed fault_of fields bad_byte_in number_of value with_category set_of names byte_where bytes_where bitmap_bytes set_of_bitmap only_categories own_bytes set_of_own label_lookup sought has_both level_lookup categories_of said_by mapping_of with_mapping mapping_write trimmed option_of label_option is_option peer_at peer_of
option_examples =
    record {
      written = refl;
      read = refl;
      hat = refl;
      twenty_three = (refl, refl);
      twenty_four = (refl, refl);
      bad_label = refl;
      mapped = (refl, refl);
      mapped_alike = (refl, refl);
      one_and_63 = refl;
      hundred_and_184 = refl;
      no_category = refl;
      empty = (refl, refl);
      too_many = refl;
      byte_8 = refl;
      tag_type = refl;
      other_doi = (refl, refl);
      category_0 = (refl, refl);
      category_185 = refl;
      no_label = (refl, refl);
      bad_byte = refl;
      leading_dash = refl;
      inner_zero = refl;
      no_mapping = (refl, refl);
      level_250 = (refl, refl);
      level_249 = refl;
      level_251 = refl;
    }

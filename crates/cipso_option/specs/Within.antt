-- What the functions within the crate answer each other. Nobody has to believe this. Assumes nothing.
use Rattle.std.specs.Prelude.{ℕ, cond, List, Result, Ok, Err}
use Rattle.refusals.specs.Refusals.{bad_option, other_doi, bad_option_category}
use Rattle.search.specs.Bytes.{same_bytes}
use Rattle.numbers.specs.declared.CategorySet.{CategorySet}
use Rattle.set_bytes.specs.SetBytes.{set_of_bitmap, only_categories}
use Rattle.store.specs.Layout.{Store, table_of}
use Rattle.lookups.specs.Lookups.{by_level_of}
use Rattle.cipso_option.specs.Option.{Peer, our_doi, doi_in, level_in, bitmap_in, is_option, mapped_peer}
use Rattle.refusals.specs.declared.Refusal.{Refusal}

-- what an option says by its bytes alone
unfoldable pub said_of : List ℕ → Result (ℕ × CategorySet) Refusal
said_of option =
    cond (is_option option)
    (cond (same_bytes (doi_in option) our_doi)
    (cond (only_categories (bitmap_in option)) (Ok (level_in option, set_of_bitmap (bitmap_in option))) (Err bad_option_category))
    (Err other_doi))
    (Err bad_option)

-- who has a level and a set in a lent state; 0 where it is damaged
abbrev pub mapped_given : Store → ℕ → CategorySet → Peer
mapped_given st level s = mapped_peer (table_of st) (by_level_of st level s)

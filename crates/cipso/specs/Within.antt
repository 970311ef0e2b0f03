-- Facts that the functions within the crate hand to each other, and what they write into the lent slices. Nobody has to believe this. Assumes nothing.
use Rattle.std.specs.Prelude.{ℕ, ◌<◌, ◌≤◌, cond, ◌≡◌, List, length, Option, Result, Ok, Err}
use Rattle.refusals.specs.Refusals.{labels_full, mappings_full}
use Rattle.search.specs.Search.{put, place_of}
use Rattle.alphabet.specs.Within.{part}
use Rattle.numbers.specs.declared.CategorySet.{CategorySet}
use Rattle.store.specs.declared.Mapping.{Mapping}
use Rattle.store.specs.Table.{Table, label_in, label_limit, mapping_limit, with_labels, with_mappings, no_place, labels_entered, mapping_in}
use Rattle.store.specs.Layout.{Store, table_of, Sizes}
use Rattle.store.specs.Judged.{Judged, is_refused, is_accepted}
use Rattle.store.specs.Within.{Counts}
use Rattle.cipso.specs.declared.Line.{Line}
use Rattle.cipso.specs.declared.Spot.{Spot}
use Rattle.refusals.specs.declared.Refusal.{Refusal}
use Rattle.cipso.specs.Cipso.{SaidMapping, refused, mapping}

-- what was read says, of the text that it was read from
abbrev pub line_said : List ℕ → Result Line Refusal → SaidMapping
line_said text (Err n) = refused n
line_said text (Ok l) = mapping (part text l.start l.end) l.level l.set

-- the label stands in the text, has a byte, and is not too long
abbrev pub LineInside : List ℕ → Result Line Refusal → Type 0
LineInside text (Err n) = Unit {0}
LineInside text (Ok l) = (l.start < l.end) × (l.end ≤ length text) × (length (part text l.start l.end) ≤ 255)

-- where a label's mapping stands or goes, or the refusal
abbrev pub place_by : Table → Option ℕ → Result Spot Refusal
place_by t l =
    cond (no_place l (length t.labels) label_limit)
    (Err labels_full)
    (cond (no_place (mapping_in t (place_of l (length t.labels))) (length t.mappings) mapping_limit)
    (Err mappings_full)
    (Ok (record { label = l; mapping = mapping_in t (place_of l (length t.labels)) })))

unfoldable pub placing : Table → List ℕ → Result Spot Refusal
placing t l = place_by t (label_in t l)

-- the mapping that a write makes at that place, and the tables with it
abbrev pub mapping_of_spot : Table → Spot → ℕ → CategorySet → Mapping
mapping_of_spot t spot level s = record { label = place_of spot.label (length t.labels); level = level; set = s }

unfoldable pub with_mapping_at : Table → List ℕ → Spot → ℕ → CategorySet → Table
with_mapping_at t l spot level s =
    with_mappings (with_labels t (labels_entered spot.label t.labels l)) (put spot.mapping t.mappings (mapping_of_spot t spot level s))

-- what becomes of it
abbrev pub judged_at : Table → List ℕ → ℕ → CategorySet → Result Spot Refusal → Judged
judged_at t l level s (Err n) = is_refused n
judged_at t l level s (Ok spot) = is_accepted (with_mapping_at t l spot level s)

-- what is known of a label whose mapping has a place in a tested store
pub record Placed (st : Store) (l : List ℕ) (spot : Spot) : Type 0 where
  pub sizes : Sizes st.labels st.entries st.words
  pub counts : Counts st.words
  pub at : placing (table_of st) l ≡ Ok spot
  pub label : length l ≤ 255

-- How the code counts and takes the labels of an override write, and what it knows of one that it takes. Nobody has to believe this. Assumes nothing.
use Rattle.std.specs.Prelude.{ℕ, zero, suc, ◌+◌, ◌≤◌, Bool, true, false, cond, ◌||◌, ◌≡◌, List, [], ◌∷◌, length, get_or, set, take, Option}
use Rattle.search.specs.Within.{count_after}
use Rattle.search.specs.Search.{first, all, place_of, entries}
use Rattle.search.specs.Bytes.{same_bytes}
use Rattle.alphabet.specs.Alphabet.{well_formed, line_limit, fields}
use Rattle.store.specs.Table.{Table, label_limit, onlycap_limit, enter}
use Rattle.store.specs.Layout.{Store, store, onlycap_from, table_of, label_at, Sizes}
use Rattle.store.specs.Within.{Counts, entered}
use Rattle.onlycap.specs.declared.Counted.{Counted}

-- ---- how the code goes, field by field

-- some labels once the first n of a write's fields have joined them
unfoldable pub joined : List (List ℕ) → List (List ℕ) → ℕ → List (List ℕ)
joined ls fs zero = ls
joined ls fs (suc n) = enter (joined ls fs n) (get_or fs n [])

-- once all have
abbrev pub different_joined : List (List ℕ) → List (List ℕ)
different_joined fs = joined [] fs (length fs)

abbrev pub labels_joined : Table → List (List ℕ) → List (List ℕ)
labels_joined t fs = joined t.labels fs (length fs)

-- whether a label is among some others
unfoldable pub appears_in : List ℕ → List (List ℕ) → Bool
appears_in l [] = false
appears_in l (x ∷ xs) = same_bytes l x || appears_in l xs

-- the label store and the entries with how many labels they have, and how many numbers of the new list
pub record Taken : Type 0 where
  pub labels : List ℕ
  pub entries : List ℕ
  pub stored : ℕ
  pub listed : ℕ

abbrev pub take_label : Taken → Bool → List ℕ → Option ℕ → Taken
take_label p seen l f =
    record {
      labels = entered f p.labels p.stored l;
      entries = cond seen p.entries (set p.entries (onlycap_from + p.listed) (place_of f p.stored));
      stored = count_after f p.stored;
      listed = cond seen p.listed (p.listed + 1);
    }

abbrev pub found_in : Taken → List ℕ → Option ℕ
found_in p l = first (same_bytes l) (entries (label_at p.labels) p.stored)

-- the first n fields taken, in order
unfoldable pub taken_up_to : Taken → List (List ℕ) → ℕ → Taken
taken_up_to p fs zero = p
taken_up_to p fs (suc n) = take_label (taken_up_to p fs n) (appears_in (get_or fs n []) (take n fs)) (get_or fs n []) (found_in (taken_up_to p fs n) (get_or fs n []))

abbrev pub begun : Store → Taken
begun st = record { labels = st.labels; entries = st.entries; stored = get_or st.words 0 0; listed = 0 }

abbrev pub store_taken : List ℕ → Taken → Store
store_taken w p = store p.labels p.entries (set (set w 0 p.stored) 3 p.listed)

unfoldable pub list_set : Store → List (List ℕ) → Store
list_set st fs = store_taken st.words (taken_up_to (begun st) fs (length fs))

-- ---- how the code counts before it writes: a field that was seen before counts neither as different nor as new

abbrev pub count_with : Counted → Bool → Option ℕ → Counted
count_with c true f = c
count_with c false f = record { different = c.different + 1; labels = count_after f c.labels }

-- what is known of a write that is taken
pub record Fits (st : Store) (text : List ℕ) : Type 0 where
  pub sizes : Sizes st.labels st.entries st.words
  pub counts : Counts st.words
  pub size : length text ≤ line_limit
  pub formed : all well_formed (fields text) ≡ true
  pub few : length (different_joined (fields text)) ≤ onlycap_limit
  pub room : length (labels_joined (table_of st) (fields text)) ≤ label_limit

-- The rule search finds what the listing call writes: in a grown table each label and each pair is found at its own number. Assumes nothing.
use mathlib.Core.Path.{◌≡◌, refl, sym, ap, ◌∙◌, subst}
use mathlib.Core.Bool.{Bool, true, false}
use mathlib.Core.List.{List, [], ◌∷◌, ◌++◌}
use Prim.Native.Nat.{ℕ, ◌<◌, ◌≤◌}
use native.Mathlib.Omega.{arith}
use lib.Dec.{ltb}
use borrow.Author.Tests.{ltb-true, ltb-false}
use lib.ListN.{length, take, length-append}
use lib.Seq.{take-append_seam}
use Rattle.std.proofs.Common.{Option, Some, None, Result}
use Rattle.search.proofs.Laws.{all-at}
use Rattle.alphabet.specs.Alphabet.{newline, well_formed, fields}
use Rattle.modes.specs.Modes.{modes_text, read_modes, line_letters, known_modes}
use Rattle.refusals.specs.declared.Refusal.{Refusal}
use Rattle.modes.proofs.Laws.{text-read}
use Rattle.store.specs.Table.{Table, with_labels, label_in, label_numbered, rule_numbered}
use Rattle.store.specs.Layout.{Store, table_of, undamaged_of}
use Rattle.store.specs.Pairs.{has_modes, no_rule, rule_between, modes_found, modes_between}
use Rattle.store.proofs.FirstCounts.{first-counts}
use Rattle.rules.specs.Rules.{pair_rule}
use Rattle.access.proofs.Laws.{same_numbers}
use Rattle.rule_text.specs.RuleText.{line_of, text_of, longest_rule}
use Rattle.rule_text.proofs.Laws.{line-fields, label_word, modes_word}
use Rattle.listing.specs.Listing.{rule_text, list_answer, list_out}
use Rattle.grown.specs.Sane.{Sane}
use Rattle.grown.specs.Relisted.{front}
use Rattle.grown.specs.Numbered.{OnlyNumbers, EqualNumbers, ListedAs, Unlisted, FindsListed}
use Rattle.grown.proofs.Sane.{stored_known}
use Rattle.grown.proofs.ByNumber.{short, put, past}

apart : (k : ℕ) → Some k ≡ None → ⊥
apart k e = let z : ◌≡◌ {A = ℕ} 0 1 = cc in omega arith

pub only-numbers : (t : Table) → OnlyNumbers t
unfolding modes_between
only-numbers t = record { other_labels = same; no_subject = λ g. refl; no_object = none; by_it = λ s o. refl }
  where
    same : (ls : List (List ℕ)) (f g : Option ℕ) → rule_between (with_labels t ls) f g ≡ rule_between t f g
    same ls (Some i) (Some j) = refl
    same ls (Some i) None = refl
    same ls None g = refl

    none : (f : Option ℕ) → rule_between t f None ≡ None
    none (Some i) = refl
    none None = refl

pub equal-numbers : (t : Table) (s o : List ℕ) → EqualNumbers t s o
equal-numbers t s o =
    record {
      both_known = λ i j p q. sym (same_numbers t.labels s o (Some i) (Some j) (sym p) (sym q));
      subject_known = λ i p q. sym (same_numbers t.labels s o (Some i) None (sym p) (sym q));
      object_known = λ j p q. sym (same_numbers t.labels s o None (Some j) (sym p) (sym q));
    }

-- two texts with one newline behind each
same_line : (a b : List ℕ) → (a ++ (newline ∷ [])) ≡ (b ++ (newline ∷ [])) → a ≡ b
same_line a b e =
    let n : length a ≡ length b = omega (arith, ap length e, length-append a (newline ∷ []), length-append b (newline ∷ [])) in
    sym (take-append_seam a (newline ∷ [])) ∙ ap (take (length a)) e ∙ ap (λ (n : ℕ). take n (b ++ (newline ∷ []))) n ∙ take-append_seam b (newline ∷ [])

module _ (st : Store) (undamaged : undamaged_of st ≡ true) (h : Sane (table_of st)) (out : List ℕ) (room : longest_rule ≤ length out) where
  abbrev t : Table
  t = table_of st

  -- the labels and the modes of rule number k
  abbrev subject : ℕ → List ℕ
  subject k = label_numbered t (rule_numbered t k).subject

  abbrev object : ℕ → List ℕ
  object k = label_numbered t (rule_numbered t k).object

  abbrev modes : ℕ → ℕ
  modes k = (rule_numbered t k).modes

  abbrev line_numbered : ℕ → List ℕ
  line_numbered k = line_of (subject k) (object k) (modes_text (modes k))

  module _ (k : ℕ) (below : k < length t.rules) where
    known : ((rule_numbered t k).subject < length t.labels) × ((rule_numbered t k).object < length t.labels) × (known_modes (modes k) ≡ true)
    known = stored_known t (length t.labels) h.sound k below

    -- it is written as one line with these fields
    written : front (list_answer st k out) (list_out st k out) ≡ line_numbered k ++ (newline ∷ [])
    unfolding rule_text text_of
    written = put st undamaged k out below (let i = short st undamaged k below in omega arith)

    its-fields : fields (line_numbered k) ≡ subject k ∷ object k ∷ modes_text (modes k) ∷ []
    its-fields =
        line-fields (subject k) (object k) (modes_text (modes k))
        (label_word (subject k) (all-at well_formed [] t.labels h.labels_once.formed (rule_numbered t k).subject known.0))
        (label_word (object k) (all-at well_formed [] t.labels h.labels_once.formed (rule_numbered t k).object known.1))
        (modes_word (modes k) known.2)

    listed : ListedAs st out k (subject k) (object k)
    listed = record { line = line_numbered k; access = modes_text (modes k); text = written; three = its-fields }

    -- and found by its labels
    found-itself : pair_rule t (subject k) (object k) ≡ Some k
    found-itself = rw (h.labels_once.label_once (rule_numbered t k).subject known.0, h.labels_once.label_once (rule_numbered t k).object known.1) (h.pair_once k below)

    says-itself : modes_between t (subject k) (object k) ≡ has_modes (modes k)
    unfolding modes_between
    says-itself = ap (modes_found t.rules) found-itself

  -- a line that is written is that of a rule
  record Read (k : ℕ) (s o access : List ℕ) : Type 0 where
    below : k < length t.rules
    same_subject : s ≡ subject k
    same_object : o ≡ object k
    same_access : access ≡ modes_text (modes k)

  read : (k : ℕ) (s o : List ℕ) (w : ListedAs st out k s o) → Read k s o w.access
  read k s o w = by_number (ltb k (length t.rules)) refl
    where
      by_number : (b : Bool) → ltb k (length t.rules) ≡ b → Read k s o w.access
      by_number true e =
          let i = ltb-true k (length t.rules) e in
          let l = same_line w.line (line_numbered k) (sym w.text ∙ written k i) in
          let f : (s ∷ o ∷ w.access ∷ []) ≡ (subject k ∷ object k ∷ modes_text (modes k) ∷ []) = sym w.three ∙ ap fields l ∙ its-fields k i in
          record { below = i; same_subject = cc; same_object = cc; same_access = cc }
      by_number false e =
          let r = past st undamaged k out (ltb-false k (length t.rules) e) in
          let z : [] ≡ w.line ++ (newline ∷ []) = ap (λ (a : Result ℕ Refusal). front a (list_out st k out)) (sym r) ∙ w.text in
          absurd (omega (arith, ap length z, length-append w.line (newline ∷ [])))

  module _ (s o : List ℕ) where
    listed_found : (k : ℕ) → ListedAs st out k s o → pair_rule t s o ≡ Some k
    listed_found k w =
        let r = read k s o w in
        rw (r.same_subject, r.same_object) (found-itself k r.below)

    found-listed : (k : ℕ) → pair_rule t s o ≡ Some k → ListedAs st out k s o
    found-listed k = by-labels (label_in t s) refl (label_in t o) refl
      where
        by-labels : (f : Option ℕ) → label_in t s ≡ f → (g : Option ℕ) → label_in t o ≡ g → rule_between t f g ≡ Some k → ListedAs st out k s o
        by-labels (Some i) es (Some j) eo e =
            let p = ((first-counts t).pair i j k).0 e in
            let a : subject k ≡ s = ap (label_numbered t) p.1 ∙ (((first-counts t).label s i).0 es).1 in
            let b : object k ≡ o = ap (label_numbered t) p.2 ∙ (((first-counts t).label o j).0 eo).1 in
            subst (λ (x : List ℕ). ListedAs st out k x o) a (subst (ListedAs st out k (subject k)) b (listed k p.0))
        by-labels (Some i) es None eo e = absurd (apart k (sym e))
        by-labels None es g eo e = absurd (apart k (sym e))

    not_found : Unlisted st out s o → pair_rule t s o ≡ None
    not_found none = by_case (pair_rule t s o) refl
      where
        by_case : (f : Option ℕ) → pair_rule t s o ≡ f → f ≡ None
        by_case (Some k) e = absurd (none k (found-listed k e))
        by_case None e = refl

    says : (k : ℕ) (w : ListedAs st out k s o) → (read_modes line_letters true w.access ≡ Some (modes k)) × (modes_between t s o ≡ has_modes (modes k))
    says k w =
        let r = read k s o w in
        (rw r.same_access (text-read (modes k) (known k r.below).2), rw (r.same_subject, r.same_object) (says-itself k r.below))

    none_read : modes_between t s o ≡ no_rule → pair_rule t s o ≡ None
    unfolding modes_between
    none_read = by_case (pair_rule t s o)
      where
        by_case : (f : Option ℕ) → modes_found t.rules f ≡ no_rule → f ≡ None
        by_case (Some k) e = let z : ◌≡◌ {A = ℕ} 0 1 = cc in absurd (omega arith)
        by_case None e = refl

    none-there : pair_rule t s o ≡ None → modes_between t s o ≡ no_rule
    unfolding modes_between
    none-there e = ap (modes_found t.rules) e

  pub finds_listed : (s o : List ℕ) → FindsListed st out s o
  finds_listed s o =
      record {
        found = λ k. (found-listed s o k, listed_found s o k);
        none = (unlisted s o, not_found s o);
        unknown_subject = λ e x. unlisted s x (ap (λ (f : Option ℕ). rule_between t f (label_in t x)) e);
        unknown_object = λ e x. unlisted x o (ap (rule_between t (label_in t x)) e ∙ (only-numbers t).no_object (label_in t x));
        modes = λ k w m. let q = says s o k w in (λ e. q.1 ∙ ap has_modes (same_access (sym q.0 ∙ e)), λ e. q.0 ∙ ap Some (same-pair (sym q.1 ∙ e)));
        no_modes = (λ e. unlisted s o (none_read s o e), λ n. none-there s o (not_found s o n));
      }
    where
      unlisted : (s o : List ℕ) → pair_rule t s o ≡ None → Unlisted st out s o
      unlisted s o e k w = apart k (sym (listed_found s o k w) ∙ e)

      same_access : {a b : ℕ} → Some a ≡ Some b → a ≡ b
      same_access e = cc

      same-pair : {a b : ℕ} → has_modes a ≡ has_modes b → a ≡ b
      same-pair e = cc

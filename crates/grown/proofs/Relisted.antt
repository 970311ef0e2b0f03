-- A listing loads back: each of its lines says its rule, which goes last, and there is room, since no label enters that the table has not.
-- Assumes nothing.
use mathlib.Core.Path.{◌≡◌, refl, sym, ap, ◌∙◌, subst}
use mathlib.Core.Bool.{true, false}
use mathlib.Core.List.{List, [], ◌∷◌, ◌++◌, append_assoc, append-nil, foldl-append, map}
use Prim.Native.Nat.{ℕ, ◌+◌, ◌<◌, ◌≤◌}
use native.Mathlib.Omega.{arith}
use lib.Dec.{eqb}
use borrow.Author.Tests.{eqb-true, eq-eqb, lt-ltb, le-leb, not-true}
use lib.ListN.{length, get_or, length-append, length-map, get_or-append}
use lib.Seq.{get_or_at}
use Rattle.search.specs.Search.{all, put}
use Rattle.search.specs.Bytes.{same_bytes}
use Rattle.std.proofs.Common.{Option, Some, None}
use Rattle.search.proofs.Laws.{no, and_both, same-equal, not_so, all-at, all-by, first-is, front-first, map_at, map_same, map_snoc, distinct_fits}
use Rattle.alphabet.specs.Alphabet.{newline, well_formed}
use Rattle.modes.specs.Modes.{modes_text, known_modes}
use Rattle.store.specs.declared.Rule.{Rule}
use Rattle.store.specs.Table.{Table, fresh, label_in, enter, is_pair, pair_in, sound_rule, label_numbered, rule_numbered}
use Rattle.lines.specs.Lines.{rule, rule_of, bring_up_in}
use Rattle.store.proofs.Pairs.{same_bytes_lem, enter-once, enter-all}
use Rattle.rules.specs.Rules.{pair_labels}
use Rattle.lines.proofs.Laws.{Taken}
use Rattle.writes.specs.Writes.{judged}
use Rattle.store.specs.Judged.{is_accepted, table_after}
use Rattle.store.specs.Pairs.{rule_between, no_rule, modes_found, modes_between}
use Rattle.access.specs.Access.{is_found}
use Rattle.lists.specs.Reader.{Reader, Totals, end_line, take_byte, take_piece, finish, limited, limited_totals, done, report}
use Rattle.lists.proofs.Lines.{line-ends}
use Rattle.rule_text.specs.RuleText.{line_of, text_of}
use Rattle.rule_text.proofs.Laws.{no_newlines, text-plain, text_says_lem, text_no_b}
use Rattle.listing.specs.Listing.{rule_text, texts_of, listing}
use Rattle.grown.specs.Sane.{two_labels, Sane}
use Rattle.grown.specs.Pairs.{new_labels, has_room}
use Rattle.grown.specs.Relisted.{Spelled, spell, spelled, all_accepted, LoadsBack}
use Rattle.grown.proofs.Sane.{sound-parts, five-front, subject_at, object_at, paired, subject_number, object_number, pair-length, pair-front, stored_known, rule-known, paired_sane, rule_paired, fresh-sane}
use Rattle.grown.proofs.Pairs.{pair_read, rule-accepted, accepted_as, labels-counted}

-- ---- the plain reader and one line

-- the reader between lines, once n have been accepted and no other has come
abbrev between : Table → ℕ → Reader
between u n = record { table = u; kept = []; totals = all_accepted n }

accepts : (u u' : Table) (line : List ℕ) (n : ℕ) → all no_newlines line ≡ true → bring_up_in line ≡ false → judged u (rule_of line) ≡ is_accepted u' → take_piece (between u n) (line ++ (newline ∷ [])) ≡ between u' (n + 1)
unfolding end_line
accepts u u' line n plain no-b e = line-ends (between u n) line plain ∙ rw (e, no-b)

-- ---- one rule more

-- u holds the rules rs of t, and no label that t has not
record Loaded (t u : Table) (rs : List Rule) : Type 0 where
  sane : Sane u
  known : all (λ (l : List ℕ). is_found (label_in t l)) u.labels ≡ true
  same : map (spell u) u.rules ≡ map (spell t) rs

abbrev none : Rule
none = record { subject = 0; object = 0; modes = 0 }

abbrev no_spelling : Spelled
no_spelling = record { subject = []; object = []; modes = 0 }

same_place : {a b : ℕ} → Some a ≡ Some b → a ≡ b
same_place e = cc

found-known : (f : Option ℕ) → is_found f ≡ true → f ≡ None → ⊥
found-known (Some i) e q = let z : ◌≡◌ {A = ℕ} 0 1 = cc in omega arith
found-known None e q = no e

module _ (t u : Table) (rs rest : List Rule) (r : Rule) (h : Sane t) (w : Loaded t u rs) (is : t.rules ≡ rs ++ (r ∷ rest)) where
  abbrev s : List ℕ
  s = label_numbered t r.subject

  abbrev o : List ℕ
  o = label_numbered t r.object

  abbrev m : ℕ
  m = r.modes

  -- r is a rule of t, at its place
  at-end : length rs < length t.rules
  at-end = rw (is, length-append) (omega arith)

  r_is : rule_numbered t (length rs) ≡ r
  r_is = ap (λ (l : List Rule). get_or l (length rs) none) is ∙ get_or_at rs r rest none (length rs) refl

  r_known : (r.subject < length t.labels) × (r.object < length t.labels) × (known_modes r.modes ≡ true)
  r_known = subst (λ (x : Rule). (x.subject < length t.labels) × (x.object < length t.labels) × (known_modes x.modes ≡ true)) r_is (stored_known t (length t.labels) h.sound (length rs) at-end)

  s_number : label_in t s ≡ Some r.subject
  s_number = h.labels_once.label_once r.subject r_known.0

  o_number : label_in t o ≡ Some r.object
  o_number = h.labels_once.label_once r.object r_known.1

  s_formed : well_formed s ≡ true
  s_formed = all-at well_formed [] t.labels h.labels_once.formed r.subject r_known.0

  o_formed : well_formed o ≡ true
  o_formed = all-at well_formed [] t.labels h.labels_once.formed r.object r_known.1

  s_o : s ≡ o → ⊥
  s_o e =
      let z = same_place (sym s_number ∙ ap (label_in t) e ∙ o_number) in
      let d : two_labels r ≡ true = subst (λ (x : Rule). two_labels x ≡ true) r_is (all-at two_labels none t.rules h.two_labels_is (length rs) at-end) in
      no (sym (not-true (eqb r.subject r.object) d) ∙ eq-eqb _ _ z)

  abbrev listed : List ℕ
  listed = line_of s o (modes_text m)

  taken : Taken s o
  taken = record { subject = s_formed; object = o_formed; apart = not_so (same_bytes s o) (λ e. s_o (same-equal s o e)) }

  -- the line says the rule, by its labels
  says : rule_of listed ≡ rule s o m
  says = text_says_lem s o m taken r_known.2

  -- as many rules as there were lines
  so_many : length u.rules ≡ length rs
  so_many = sym (length-map u.rules (spell u)) ∙ ap length w.same ∙ length-map rs (spell t)

  -- a rule of u is spelled as t's rule at its place
  spelled_at : (q : ℕ) → q < length u.rules → spell u (rule_numbered u q) ≡ spell t (rule_numbered t q)
  spelled_at q hq =
      let hr : q < length rs = omega (arith, so_many) in
      sym (map_at (spell u) none no_spelling u.rules q hq)
      ∙ ap (λ (l : List Spelled). get_or l q no_spelling) w.same
      ∙ map_at (spell t) none no_spelling rs q hr
      ∙ ap (spell t) (sym (ap (λ (l : List Rule). get_or l q none) is ∙ get_or-append rs (r ∷ rest) none q hr))

  -- so none of them is of this pair
  none_before : (i j q : ℕ) → label_in u s ≡ Some i → label_in u o ≡ Some j → pair_in u i j ≡ Some q → ⊥
  unfolding is_pair
  none_before i j q es eo e =
      let f = first-is (is_pair i j) none u.rules q e in
      let b = and_both (eqb (rule_numbered u q).subject i) (eqb (rule_numbered u q).object j) f.1 in
      let hq : q < length t.rules = omega (arith, f.0, so_many, at-end) in
      let x = spelled_at q f.0 in
      let k = stored_known t (length t.labels) h.sound q hq in
      let a : s ≡ label_numbered t (rule_numbered t q).subject =
      same-equal s (label_numbered u i) (first-is (same_bytes s) [] u.labels i es).1
      ∙ ap (label_numbered u) (sym (eqb-true _ _ b.0))
      ∙ ap (λ (z : Spelled). z.subject) x in
      let c : o ≡ label_numbered t (rule_numbered t q).object =
      same-equal o (label_numbered u j) (first-is (same_bytes o) [] u.labels j eo).1
      ∙ ap (label_numbered u) (sym (eqb-true _ _ b.1))
      ∙ ap (λ (z : Spelled). z.object) x in
      let y = same_place (sym s_number ∙ ap (label_in t) a ∙ h.labels_once.label_once (rule_numbered t q).subject k.0) in
      let z = same_place (sym o_number ∙ ap (label_in t) c ∙ h.labels_once.label_once (rule_numbered t q).object k.1) in
      let there : pair_in t r.subject r.object ≡ Some q = rw (y, z) (h.pair_once q hq) in
      let here : pair_in t r.subject r.object ≡ Some (length rs) = subst (λ (v : Rule). pair_in t v.subject v.object ≡ Some (length rs)) r_is (h.pair_once (length rs) at-end) in
      let n = same_place (sym there ∙ here) in
      omega (arith, f.0, so_many)

  new-pair : modes_between u s o ≡ no_rule
  unfolding modes_between
  new-pair = by-labels (label_in u s) refl (label_in u o) refl
    where
      by-pair : (i j : ℕ) → label_in u s ≡ Some i → label_in u o ≡ Some j → (f : Option ℕ) → pair_in u i j ≡ f → modes_found u.rules f ≡ no_rule
      by-pair i j es eo (Some q) e = absurd (none_before i j q es eo e)
      by-pair i j es eo None e = refl

      by-labels : (f : Option ℕ) → label_in u s ≡ f → (g : Option ℕ) → label_in u o ≡ g → modes_found u.rules (rule_between u f g) ≡ no_rule
      by-labels (Some i) es (Some j) eo = by-pair i j es eo (pair_in u i j) refl
      by-labels (Some i) es None eo = refl
      by-labels None es g eo = refl

  new-place : pair_in u (subject_at u s o) (object_at u s o) ≡ None
  new-place = by_case (pair_in u (subject_at u s o) (object_at u s o)) (pair_read u s o w.sane.sound ∙ new-pair)
    where
      by_case : (f : Option ℕ) → modes_found u.rules f ≡ no_rule → f ≡ None
      by_case (Some k) e = let z : ◌≡◌ {A = ℕ} 0 1 = cc in absurd (omega arith)
      by_case None e = refl

  -- no label enters that t has not, so there is room
  still_known : all (λ (l : List ℕ). is_found (label_in t l)) (pair_labels u s o) ≡ true
  still_known =
      enter-all (enter u.labels s) o (λ (l : List ℕ). is_found (label_in t l))
      (enter-all u.labels s (λ (l : List ℕ). is_found (label_in t l)) w.known (rw s_number))
      (rw o_number)

  fits : length (pair_labels u s o) ≤ length t.labels
  fits =
      distinct_fits same_bytes [] (pair_labels u s o) t.labels same_bytes_lem (enter-once (enter u.labels s) o (enter-once u.labels s w.sane.labels_once.label_once))
      (λ k hk. found-known (label_in t (get_or (pair_labels u s o) k [])) (all-at (λ (l : List ℕ). is_found (label_in t l)) [] (pair_labels u s o) still_known k hk))

  room : has_room u s o ≡ true
  unfolding has_room
  room =
      let a : length u.labels + (new_labels (label_in u s) + new_labels (label_in u o)) ≤ 64 =
      omega (arith, labels-counted (label_in u s) (label_in u o) (length u.labels), pair-length u s o taken, fits, h.labels) in
      let b : length u.rules < 256 = omega (arith, so_many, at-end, h.rules) in
      rw (le-leb _ _ a, new-pair, lt-ltb _ _ b)

  accepted : judged u (rule_of listed) ≡ is_accepted (paired u s o m)
  accepted =
      let e : judged u (rule s o m) ≡ is_accepted (table_after u (judged u (rule s o m))) = accepted_as u (judged u (rule s o m)) (rule-accepted u s o m taken.apart ∙ room) in
      ap (judged u) says ∙ e ∙ ap is_accepted (rule_paired u (table_after u (judged u (rule s o m))) s o m w.sane.sound (taken, r_known.2) e).is

  -- the rules that were there are spelled as before, and the new one is spelled as r
  spelled-more : (x : Rule) → sound_rule (length u.labels) x ≡ true → spell (paired u s o m) x ≡ spell u x
  spelled-more x e =
      let k = rule-known (length u.labels) x e in
      rw (kept x.subject k.0, kept x.object k.1)
    where
      kept : (i : ℕ) → i < length u.labels → get_or (pair_labels u s o) i [] ≡ get_or u.labels i []
      kept i hi = ap (λ (l : List (List ℕ)). get_or l i []) (pair-front u s o taken).is ∙ get_or-append u.labels (pair-front u s o taken).rest [] i hi

  abbrev new : Rule
  new = record { subject = subject_at u s o; object = object_at u s o; modes = m }

  spelled-new : spell (paired u s o m) new ≡ spell t r
  spelled-new =
      rw (
        ← same-equal s (get_or (pair_labels u s o) (subject_at u s o) []) (first-is (same_bytes s) [] (pair_labels u s o) (subject_at u s o) (subject_number u s o taken)).1,
        ← same-equal o (get_or (pair_labels u s o) (object_at u s o) []) (first-is (same_bytes o) [] (pair_labels u s o) (object_at u s o) (object_number u s o taken)).1,
      )

  one_more : Loaded t (paired u s o m) (rs ++ (r ∷ []))
  unfolding put
  one_more =
      record {
        sane = paired_sane w.sane (rule_paired u (paired u s o m) s o m w.sane.sound (taken, r_known.2) (ap (judged u) (sym says) ∙ accepted));
        known = still_known;
        same =
            ap (λ (f : Option ℕ). map (spell (paired u s o m)) (put f u.rules new)) new-place
            ∙ map_snoc (spell (paired u s o m)) u.rules new
            ∙ rw (
              map_same (sound_rule (length u.labels)) (spell (paired u s o m)) (spell u) spelled-more u.rules (sound-parts u (length u.labels) w.sane.sound).0,
              w.same,
              spelled-new,
            )
            (sym (map_snoc (spell t) rs r));
      }

  next : take_piece (between u (length rs)) (rule_text t r) ≡ between (paired u s o m) (length (rs ++ (r ∷ [])))
  unfolding rule_text text_of
  next =
      accepts u (paired u s o m) listed (length rs) (text-plain s o m taken r_known.2) (text_no_b s o m taken r_known.2) accepted
      ∙ ap (between (paired u s o m)) (sym (length-append rs (r ∷ [])))

-- ---- the whole listing

record Result (t : Table) (p : Reader) : Type 0 where
  table : Table
  loaded : Loaded t table t.rules
  is : p ≡ between table (length t.rules)

loads : (t : Table) → Sane t → (rest rs : List Rule) (u : Table) → Loaded t u rs → t.rules ≡ rs ++ rest → Result t (take_piece (between u (length rs)) (texts_of t rest))
loads t h [] rs u w e =
    let z = sym (e ∙ append-nil rs) in
    record { table = u; loaded = subst (Loaded t u) z w; is = ap (λ (l : List Rule). between u (length l)) z }
loads t h (r ∷ rest) rs u w e =
    subst (Result t)
    (sym (foldl-append take_byte (between u (length rs)) (rule_text t r) (texts_of t rest) ∙ ap (λ (p : Reader). take_piece p (texts_of t rest)) (next t u rs rest r h w e)))
    (loads t h rest (rs ++ (r ∷ [])) (paired u (label_numbered t r.subject) (label_numbered t r.object) r.modes) (one_more t u rs rest r h w e) (e ∙ sym (append_assoc rs (r ∷ []) rest)))

begun : (t : Table) → Sane t → Loaded t fresh []
begun t h =
    record {
      sane = fresh-sane;
      known = all-by (λ (l : List ℕ). is_found (label_in t l)) [] fresh.labels (λ k hk. ap is_found (front-first (same_bytes (label_numbered fresh k)) k (five-front h.five) (fresh-sane.labels_once.label_once k hk)));
      same = refl;
    }

limited_small : (n : ℕ) → n ≤ 256 → limited n ≡ n
unfolding limited
limited_small n h = omega arith

pub loads_back : (t : Table) → Sane t → LoadsBack t (listing t)
unfolding finish listing
loads_back t h =
    let z = loads t h t.rules [] fresh (begun t h) refl in
    record {
      same_rules = ap (λ (p : Reader). spelled (finish p).table) z.is ∙ z.loaded.same;
      replies =
          ap (λ (p : Reader). done ∷ report (limited_totals (finish p).totals) ∷ []) z.is
          ∙ ap (λ (c : Totals). done ∷ report c ∷ []) (rw (limited_small (length t.rules) h.rules, limited_small 0 (omega arith)));
    }

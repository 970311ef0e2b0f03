-- What acts on the plain reader's tables: each line that ends, whole, and each single write. Assumes nothing.
use Prim.Native.Nat.{ℕ}
use native.Mathlib.Omega.{arith}
use mathlib.Core.Path.{◌≡◌, refl, sym, ap, ◌∙◌, subst}
use mathlib.Core.Bool.{Bool, true, false, cond, ◌&&◌}
use mathlib.Core.List.{List, [], ◌∷◌, ◌++◌, foldl}
use lib.Dec.{ltb, eqb}
use lib.ListN.{length}
use borrow.Author.Tests.{lt-ltb}
use Rattle.search.specs.Bytes.{same_bytes}
use Rattle.refusals.specs.Refusals.{too_long, same_labels, labels_full, rules_full, mappings_full, bad_label_at}
use Rattle.alphabet.specs.Alphabet.{well_formed, fields, bad_byte, bad_byte_in}
use Rattle.modes.specs.Modes.{read_modes, line_letters, change_letters, stored_modes}
use Rattle.std.proofs.Common.{Option, Some, None}
use Rattle.store.specs.Table.{Table, label_in, no_place}
use Rattle.lines.specs.Lines.{Said, skipped, refused, rule, change, rule_of, change_of, rule_by, rule_with, rule_fields, change_by, change_with, change_fields, bring_up_in}
use Rattle.writes.specs.Writes.{judged, changed}
use Rattle.store.specs.Judged.{Judged, is_skipped, is_refused, is_accepted, table_after}
use Rattle.rules.specs.Rules.{pair_labels, pair_rule, with_pair}
use Rattle.store.specs.Pairs.{modes_between, modes_or_none}
use Rattle.revoke.specs.Revoke.{revoke_write, without_modes}
use Rattle.onlycap.proofs.Laws.{by_case}
use Rattle.cipso.specs.Cipso as cipso
use Rattle.cipso.specs.Cipso.{mapping_write}
use Rattle.lines.proofs.Laws.{Sound, rule-sound}
use Rattle.reports.specs.Report.{fresh_loader}
use Rattle.load.specs.Loader.{Load, load, step_byte, step_end}
use Rattle.lists.specs.Reader as r
use Rattle.lists.specs.Reader.{Totals, counted, Reader, start_on, end_line, take_byte, finish, Write, judge_write, after_write, Event, byte, stop, wrote}
use Rattle.lists.proofs.Follows.{Holds, step_follows, finish_follows, fresh_holds}
use Rattle.lists.proofs.Steps.{on}
use Rattle.lists.proofs.Others.{store_left, write-holds}
use Rattle.grown.specs.Grown.{Grown, by_line, by_write}
use Rattle.grown.specs.Pairs.{SoundTable, was_accepted}
use Rattle.grown.proofs.Pairs.{undamaged-sound, line_sets, change-sets, rule_triple, change-text, rule-accepted}
use Rattle.effects.proofs.Places.{rule_keeps, change_keeps}
use Rattle.effects.proofs.Revoked.{revoke-clears}
use Rattle.effects.proofs.Listed.{list_sets}
use Rattle.effects.proofs.Mapped.{mapping-maps}
use Rattle.effects.proofs.MappingText.{mapping-says}
use Rattle.calls.specs.PlainReaders as m
use Rattle.calls.specs.PlainReaders.{Act, acts_from, Made}

-- ---- a plain reader that some undamaged state stands for

abbrev pub Held : Reader → Type 0
Held p = (s : Load) × Holds s p

pub held-end : (p : Reader) → Held p → Held (start_on (finish p).table)
held-end p (s, h) =
    let g = finish_follows s p h in (
      load (step_end s).store (step_end s).line fresh_loader,
      subst (λ (t : Table). Holds (load (step_end s).store (step_end s).line fresh_loader) (start_on t)) g.table
          (fresh_holds (step_end s).store (step_end s).line g.ready.undamaged g.ready.line),
    )

pub held-sound : (p : Reader) → Held p → SoundTable p.table
held-sound p (s, h) = subst SoundTable h.table (undamaged-sound s.store h.ready.undamaged)

-- ---- a line of rule text says no change

abbrev NoChange : Said → Type 0
NoChange skipped = Unit {0}
NoChange (refused n) = Unit {0}
NoChange (rule s o m) = Unit {0}
NoChange (change s o a d) = ⊥

no_change : (line : List ℕ) → NoChange (rule_of line)
unfolding rule_of rule_by
no_change line = by_length (ltb 600 (length line))
  where
    by-access : (s o : List ℕ) (b : Bool) (x : Option ℕ) → NoChange (rule_with s o x)
    by-access s o b None = tt
    by-access s o b (Some n) = by-same (same_bytes s o)
      where
        by-same : (c : Bool) → NoChange (cond c (refused same_labels) (rule s o (stored_modes n)))
        by-same true = tt
        by-same false = tt

    by-formed : (s o : List ℕ) (x : Option ℕ) (b : Bool) → NoChange (cond b (rule_with s o x) (refused (bad_label_at (bad_byte_in line))))
    by-formed s o x true = by-access s o true x
    by-formed s o x false = tt

    by-fields : (fs : List (List ℕ)) → NoChange (rule_fields (bad_byte_in line) fs)
    by-fields [] = tt
    by-fields (s ∷ []) = tt
    by-fields (s ∷ o ∷ []) = tt
    by-fields (s ∷ o ∷ a ∷ []) = by-formed s o (read_modes line_letters true a) (well_formed s && well_formed o)
    by-fields (s ∷ o ∷ a ∷ x ∷ more) = tt

    by_length : (b : Bool) → NoChange (cond b (refused too_long) (rule_fields (bad_byte_in line) (fields line)))
    by_length true = tt
    by_length false = by-fields (fields line)

-- ---- a line that ends is judged whole

line_made :
    (t : Table) (bytes : List ℕ) {t' : Table} {rest : List Act} →
    SoundTable t →
    Made (table_after t (judged t (rule_of bytes))) rest t' →
    Made t (m.line bytes ∷ rest) t'
line_made t bytes {t'} {rest} whole more = by-judged (judged t (rule_of bytes)) refl more
  where
    by_said : (t₁ : Table) → judged t (rule_of bytes) ≡ is_accepted t₁ → Made t₁ rest t' → (said : Said) → rule_of bytes ≡ said → NoChange said → Made t (m.line bytes ∷ rest) t'
    by_said t₁ e more skipped q n = let f = ap (judged t) (sym q) ∙ e in let z : ◌≡◌ {A = ℕ} 0 1 = cc in absurd (omega arith)
    by_said t₁ e more (refused k) q n = let f = ap (judged t) (sym q) ∙ e in let z : ◌≡◌ {A = ℕ} 0 1 = cc in absurd (omega arith)
    by_said t₁ e more (change s o a d) q n = absurd n
    by_said t₁ e more (rule s o k) q n =
        m.accepted s o k e (rule_triple bytes s o k q)
        (sym (rule-accepted t s o k (subst Sound q (rule-sound bytes)).0.apart) ∙ ap was_accepted (ap (judged t) (sym q) ∙ e))
        (line_sets t t₁ bytes s o k whole q e)
        (rule_keeps t t₁ s o k (ap (judged t) (sym q) ∙ e))
        more

    by-judged : (j : Judged) → judged t (rule_of bytes) ≡ j → Made (table_after t j) rest t' → Made t (m.line bytes ∷ rest) t'
    by-judged is_skipped e more = m.skipped e more
    by-judged (is_refused n) e more = m.refused n e more
    by-judged (is_accepted t₁) e more = by_said t₁ e more (rule_of bytes) refl (no_change bytes)

-- ---- a single write acts at once; it is never skipped

abbrev OnlyChange : Said → Type 0
OnlyChange skipped = ⊥
OnlyChange (refused n) = Unit {0}
OnlyChange (rule s o m) = ⊥
OnlyChange (change s o a d) = Unit {0}

only-change : (text : List ℕ) → OnlyChange (change_of text)
unfolding change_of change_by
only-change text = by_length (ltb 600 (length text))
  where
    by-access : (s o : List ℕ) (x y : Option ℕ) → OnlyChange (change_with s o x y)
    by-access s o None y = tt
    by-access s o (Some a) None = tt
    by-access s o (Some a) (Some d) = by-same (same_bytes s o)
      where
        by-same : (c : Bool) → OnlyChange (cond c (refused same_labels) (change s o a d))
        by-same true = tt
        by-same false = tt

    by-formed : (s o : List ℕ) (x y : Option ℕ) (b : Bool) → OnlyChange (cond b (change_with s o x y) (refused (bad_label_at (bad_byte_in text))))
    by-formed s o x y true = by-access s o x y
    by-formed s o x y false = tt

    by-fields : (fs : List (List ℕ)) → OnlyChange (change_fields (bad_byte_in text) fs)
    by-fields [] = tt
    by-fields (s ∷ []) = tt
    by-fields (s ∷ o ∷ []) = tt
    by-fields (s ∷ o ∷ a ∷ []) = tt
    by-fields (s ∷ o ∷ a ∷ d ∷ []) = by-formed s o (read_modes change_letters true a) (read_modes change_letters true d) (well_formed s && well_formed o)
    by-fields (s ∷ o ∷ a ∷ d ∷ x ∷ more) = tt

    by_length : (b : Bool) → OnlyChange (cond b (refused too_long) (change_fields (bad_byte_in text) (fields text)))
    by_length true = tt
    by_length false = by-fields (fields text)

abbrev NotSkipped : Judged → Type 0
NotSkipped is_skipped = ⊥
NotSkipped (is_refused n) = Unit {0}
NotSkipped (is_accepted t) = Unit {0}

not_skipped : (t : Table) (w : Write) → NotSkipped (judge_write w t)
unfolding revoke_write mapping_write
not_skipped t (r.change text) = by_said (change_of text) (only-change text)
  where
    by_tests : (a b : Bool) (t' : Table) → NotSkipped (cond a (is_refused labels_full) (cond b (is_refused rules_full) (is_accepted t')))
    by_tests true b t' = tt
    by_tests false true t' = tt
    by_tests false false t' = tt

    by_said : (said : Said) → OnlyChange said → NotSkipped (judged t said)
    by_said skipped z = z
    by_said (refused n) z = tt
    by_said (rule s o m) z = absurd z
    by_said (change s o a d) z =
        by_tests (ltb 64 (length (pair_labels t s o))) (no_place (pair_rule t s o) (length t.rules) 256) (with_pair t s o (changed (modes_or_none (modes_between t s o)) a d))
not_skipped t (r.revoke l) = by_tests (ltb 600 (length l)) (well_formed l)
  where
    by_tests : (a b : Bool) → NotSkipped (cond a (is_refused too_long) (cond b (is_accepted (without_modes t (label_in t l))) (is_refused (bad_label_at (bad_byte l)))))
    by_tests true b = tt
    by_tests false true = tt
    by_tests false false = tt
not_skipped t (r.onlycap text) = by_case NotSkipped t text (λ n. tt) tt (λ a b c d. tt)
not_skipped t (r.mapping text) = by_said (cipso.mapping_of text)
  where
    by_tests : (a b : Bool) (t' : Table) → NotSkipped (cond a (is_refused labels_full) (cond b (is_refused mappings_full) (is_accepted t')))
    by_tests true b t' = tt
    by_tests false true t' = tt
    by_tests false false t' = tt

    by_said : (said : cipso.SaidMapping) → NotSkipped (cipso.said_judged t said)
    by_said (cipso.refused n) = tt
    by_said (cipso.mapping l level s) = by_tests (no_place (label_in t l) (length t.labels) 64) (no_place (cipso.mapping_for t l) (length t.mappings) 32) (cipso.with_mapping t l level s)

-- an accepted change says a change, and an accepted mapping a mapping
change-done : (t t₁ : Table) (text : List ℕ) → SoundTable t → judged t (change_of text) ≡ is_accepted t₁ → m.Sets t t₁ (r.change text)
change-done t t₁ text whole e = by_said (change_of text) refl (only-change text)
  where
    by_said : (said : Said) → change_of text ≡ said → OnlyChange said → m.Sets t t₁ (r.change text)
    by_said skipped q n = absurd n
    by_said (refused k) q n = let f = ap (judged t) (sym q) ∙ e in let z : ◌≡◌ {A = ℕ} 0 1 = cc in absurd (omega arith)
    by_said (rule s o k) q n = absurd n
    by_said (change s o a d) q n = (
      s,
      o,
      a,
      d,
      change-text text s o a d q,
      change-sets t t₁ text s o a d whole q e,
      change_keeps t t₁ s o a d (ap (judged t) (sym q) ∙ e),
    )

mapping-done : (t t₁ : Table) (text : List ℕ) → SoundTable t → mapping_write text t ≡ is_accepted t₁ → m.Sets t t₁ (r.mapping text)
unfolding mapping_write
mapping-done t t₁ text whole e = by_said (cipso.mapping_of text) refl
  where
    by_said : (said : cipso.SaidMapping) → cipso.mapping_of text ≡ said → m.Sets t t₁ (r.mapping text)
    by_said (cipso.refused k) q = let f = ap (cipso.said_judged t) (sym q) ∙ e in let z : ◌≡◌ {A = ℕ} 0 1 = cc in absurd (omega arith)
    by_said (cipso.mapping l level s) q = (l, level, s, (mapping-says text l level s).0 q, mapping-maps t t₁ text l level s whole q e)

sets : (t t₁ : Table) (w : Write) → SoundTable t → judge_write w t ≡ is_accepted t₁ → m.Sets t t₁ w
sets t t₁ (r.change text) whole e = change-done t t₁ text whole e
sets t t₁ (r.revoke l) whole e = revoke-clears t t₁ l e
sets t t₁ (r.onlycap text) whole e = list_sets t t₁ text whole e
sets t t₁ (r.mapping text) whole e = mapping-done t t₁ text whole e

write-made : (t : Table) (w : Write) {t' : Table} {rest : List Act} → SoundTable t → Made (after_write t w) rest t' → Made t (m.single w ∷ rest) t'
write-made t w {t'} {rest} whole more = by-judged (judge_write w t) refl (not_skipped t w) more
  where
    by-judged : (j : Judged) → judge_write w t ≡ j → NotSkipped j → Made (table_after t j) rest t' → Made t (m.single w ∷ rest) t'
    by-judged is_skipped e z more = absurd z
    by-judged (is_refused n) e z more = m.write_refused w n e more
    by-judged (is_accepted t₁) e z more = m.write_accepted w e (sets t t₁ w whole e) more

finish-some : (t : Table) (b : ℕ) (bs : List ℕ) (c : Totals) → (finish (record { table = t; kept = b ∷ bs; totals = c })).table ≡ table_after t (judged t (rule_of (b ∷ bs)))
unfolding finish end_line
finish-some t b bs c = rw (lt-ltb 0 (length (b ∷ bs)) (omega arith))

-- EVERY ACT
pub made : (t : Table) (kept : List ℕ) (c : Totals) (es : List Event) → Held (record { table = t; kept = kept; totals = c }) → Made t (acts_from kept es) (foldl on (record { table = t; kept = kept; totals = c }) es).table
unfolding take_byte end_line finish
made t kept c [] h = m.none
made t kept c (byte b ∷ es) (s, h) =
    by_byte (eqb b 10)
    (λ g. line_made t kept (held-sound (record { table = t; kept = kept; totals = c }) (s, h)) (made (table_after t (judged t (rule_of kept))) [] (counted c (bring_up_in kept) (judged t (rule_of kept))) es g))
    (λ g. made t (kept ++ (b ∷ [])) c es g)
    (step_byte s b, step_follows s (record { table = t; kept = kept; totals = c }) b h)
  where
    by_byte :
        (z : Bool) →
        (Held (end_line (record { table = t; kept = kept; totals = c })) → Made t (m.line kept ∷ acts_from [] es) (foldl on (end_line (record { table = t; kept = kept; totals = c })) es).table) →
        (Held (record { table = t; kept = kept ++ (b ∷ []); totals = c }) → Made t (acts_from (kept ++ (b ∷ [])) es) (foldl on (record { table = t; kept = kept ++ (b ∷ []); totals = c }) es).table) →
        Held (cond z (end_line (record { table = t; kept = kept; totals = c })) (record { table = t; kept = kept ++ (b ∷ []); totals = c })) →
        Made t (cond z (m.line kept ∷ acts_from [] es) (acts_from (kept ++ (b ∷ [])) es))
        (foldl on (cond z (end_line (record { table = t; kept = kept; totals = c })) (record { table = t; kept = kept ++ (b ∷ []); totals = c })) es).table
    by_byte true ended more g = ended g
    by_byte false ended more g = more g
made t [] c (stop ∷ es) h = made t [] r.zeros es (held-end (record { table = t; kept = []; totals = c }) h)
made t (b ∷ bs) c (stop ∷ es) h =
    subst (λ (x : Table). Held (start_on x) → Made t (m.line (b ∷ bs) ∷ acts_from [] es) (foldl on (start_on x) es).table) (sym (finish-some t b bs c))
    (λ g. line_made t (b ∷ bs) (held-sound (record { table = t; kept = b ∷ bs; totals = c }) h) (made (table_after t (judged t (rule_of (b ∷ bs)))) [] r.zeros es g))
    (held-end (record { table = t; kept = b ∷ bs; totals = c }) h)
made t kept c (wrote w ∷ es) (s, h) =
    write-made t w (held-sound (record { table = t; kept = kept; totals = c }) (s, h))
    (made (after_write t w) kept c es (load (store_left s.store w) s.line s.loader, write-holds s (record { table = t; kept = kept; totals = c }) w h))

-- a grown table stays grown
pub grown-made : {t t' : Table} {ws : List Act} → Made t ws t' → Grown t → Grown t'
grown-made m.none g = g
grown-made (m.skipped e more) g = grown-made more g
grown-made (m.refused n e more) g = grown-made more g
grown-made (m.accepted {bytes = bytes} s o k e w room sets keeps more) g = grown-made more (by_line bytes g e)
grown-made (m.write_refused w n e more) g = grown-made more g
grown-made (m.write_accepted w e sets more) g = grown-made more (by_write w g e)

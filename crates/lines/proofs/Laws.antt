-- What an answer says is what the line's fields say, and what is said is sound, for rule lines and change-rule writes. Assumes nothing.
use mathlib.Core.Path.{◌≡◌, refl}
use mathlib.Core.Bool.{Bool, true, false, cond, ◌&&◌}
use mathlib.Core.List.{List, [], ◌∷◌}
use Prim.Native.Nat.{ℕ}
use lib.Dec.{ltb}
use lib.ListN.{length, drop}
use Rattle.search.specs.Bytes.{same_bytes}
use Rattle.search.specs.Search.{all}
use Rattle.refusals.specs.Refusals.{too_long, wrong_fields, bad_access, same_labels, bad_label_at}
use Rattle.refusals.specs.declared.Refusal.{Refusal}
use Rattle.alphabet.specs.Alphabet.{well_formed, fields, line_limit, bad_byte_in}
use Rattle.alphabet.specs.Within.{field_at, part}
use Rattle.alphabet.proofs.Laws.{FieldFrom, in_a_row}
use Rattle.modes.specs.Modes.{allowed_byte, modes_of, read_modes, line_letters, change_letters, known_modes, stored_modes, has_bring_up}
use Rattle.std.proofs.Common.{Option, Some, None, Result, Ok, Err}
use Rattle.modes.proofs.Laws.{read_known, stored_known}
use Rattle.lines.specs.Lines.{Said, skipped, refused, rule, change, rule_with, rule_by, rule_fields, rule_of, bring_up_among, bring_up_in, change_with, change_by, change_fields, change_of}
use Rattle.lines.specs.Within.{span, pair, rule_said, change_said, SpanInside, RuleInside, RuleHeld, ChangeInside, formed_at, same_at, labels_at, apart_at, Kind, first_at, second_at, line_at, rule_at_access, rule_at_fourth, rule_at_third, rule_kind, rule_line_at, change_at_access, change_at_fifth, change_at_fourth, change_at_third, change_kind, change_line_at}
use Rattle.lines.specs.declared.Pair.{Pair}
use Rattle.lines.specs.declared.RuleLine.{RuleLine}
use Rattle.lines.specs.declared.ChangeLine.{ChangeLine}

-- a field that was read stands inside the line
pub inside : {line : List ℕ} {from start end : ℕ} → FieldFrom line from start end → SpanInside line (span start end)
inside w = record { starts = w.starts; ends = w.ends }

-- ---- what both kinds of line share: an answer x is right of what is to be said, and a refusal is right where its number is said

module _ {A : Type 0} (refuse : Refusal → A) (Right : A → Said → Type 0) (refuses : (r : Refusal) → Right (refuse r) (refused r)) (line : List ℕ) (p : Pair) (x : A) (y : Said) (right : Right x y) where
  labels_right : Right (labels_at refuse line p x) (cond (formed_at line p) y (refused (bad_label_at (bad_byte_in line))))
  labels_right = by-test (formed_at line p)
    where
      by-test : (t : Bool) → Right (cond t x (refuse (bad_label_at (bad_byte_in line)))) (cond t y (refused (bad_label_at (bad_byte_in line))))
      by-test true = right
      by-test false = refuses (bad_label_at (bad_byte_in line))

  apart-right : Right (apart_at refuse line p x) (cond (same_at line p) (refused same_labels) y)
  apart-right = by-test (same_at line p)
    where
      by-test : (t : Bool) → Right (cond t (refuse same_labels) x) (cond t (refused same_labels) y)
      by-test true = refuses same_labels
      by-test false = right

-- a line is right where it is so without a field, with one, and with two labels and what follows them
line-right :
    {A : Type 0} (k : Kind A) (Right : A → Said → Type 0) →
    ((r : Refusal) → Right (k.refuse r) (refused r)) →
    (line : List ℕ) (said : List (List ℕ) → Said) →
    Right k.none (said []) →
    ((s : List ℕ) → Right (k.refuse wrong_fields) (said (s ∷ []))) →
    ((a b c d : ℕ) → SpanInside line (span a b) → SpanInside line (span c d) → Right (k.more line (pair a b c d) d) (said (part line a b ∷ part line c d ∷ fields (drop d line)))) →
    Right (line_at k line) (cond (ltb line_limit (length line)) (refused too_long) (said (fields line)))
line-right k Right refuses line said none one more = by-test (ltb line_limit (length line))
  where
    by-test : (t : Bool) → Right (cond t (k.refuse too_long) (first_at k line (field_at line 0))) (cond t (refused too_long) (said (fields line)))
    by-test true = refuses too_long
    by-test false =
        in_a_row Right line 0 (first_at k line) said none
        (λ a b s. in_a_row Right line b (second_at k line a b) (λ l. said (part line a b ∷ l)) (one (part line a b))
        (λ c d o. more a b c d (inside s) (inside o)))

-- ---- a rule line

-- an answer is right: it says what is to be said, and what it names is inside
abbrev pub RightRule : List ℕ → Result (Option RuleLine) Refusal → Said → Type 0
RightRule line x said = (rule_said line x ≡ said) × RuleInside line x

-- an answer tells whether its line held b, whatever is said
abbrev Holding : Bool → Result (Option RuleLine) Refusal → Said → Type 0
Holding b x said = RuleHeld x b

module _ (line : List ℕ) where
  rule-refuses : (r : Refusal) → RightRule line (Err r) (refused r)
  rule-refuses r = (refl, tt)

  rule-two-labels :
      (a b c d : ℕ) →
      SpanInside line (span a b) →
      SpanInside line (span c d) →
      RightRule line (rule_at_third line (pair a b c d) (field_at line d)) (rule_fields (bad_byte_in line) (part line a b ∷ part line c d ∷ fields (drop d line)))
  unfolding rule_by
  rule-two-labels a b c d s o =
      in_a_row (RightRule line) line d (rule_at_third line p) (λ l. rule_fields (bad_byte_in line) (part line a b ∷ part line c d ∷ l)) (rule-refuses wrong_fields)
      (λ e f x. in_a_row (RightRule line) line f (rule_at_fourth line p (span e f)) (λ l. rule_fields (bad_byte_in line) (part line a b ∷ part line c d ∷ part line e f ∷ l))
      (labels_right Err (RightRule line) rule-refuses line p _ _ (by-access (read_modes line_letters true (part line e f))))
      (λ g h y. rule-refuses wrong_fields))
    where
      p : Pair
      p = pair a b c d

      by-access : (x : Option ℕ) → RightRule line (rule_at_access line p x) (rule_with (part line a b) (part line c d) x)
      by-access (Some m) =
          apart-right Err (RightRule line) rule-refuses line p (Ok (Some (record { labels = p; modes = (stored_modes m); bring_up = (has_bring_up m) }))) (rule (part line a b) (part line c d) (stored_modes m))
          (refl, (s, o, stored_known m))
      by-access None = rule-refuses bad_access

  pub rule-right : RightRule line (rule_line_at line) (rule_of line)
  unfolding rule_line_at rule_of
  rule-right = line-right rule_kind (RightRule line) rule-refuses line (rule_fields (bad_byte_in line)) (refl, tt) (λ s. rule-refuses wrong_fields) rule-two-labels

  -- and a rule's line held b where the definition says so
  access-held : (p : Pair) (a : List ℕ) → RuleHeld (rule_at_access line p (read_modes line_letters true a)) (has_bring_up (modes_of a))
  unfolding read_modes
  access-held p a = by-test (all (allowed_byte line_letters true) a)
    where
      by-test : (t : Bool) → RuleHeld (rule_at_access line p (cond t (Some (modes_of a)) None)) (has_bring_up (modes_of a))
      by-test true = apart-right Err (Holding (has_bring_up (modes_of a))) (λ r. tt) line p (Ok (Some (record { labels = p; modes = (stored_modes (modes_of a)); bring_up = (has_bring_up (modes_of a)) }))) skipped refl
      by-test false = tt

  pub rule-held : RuleHeld (rule_line_at line) (bring_up_in line)
  unfolding rule_line_at bring_up_in
  rule-held = by-test (ltb line_limit (length line))
    where
      by-test : (t : Bool) → RuleHeld (cond t (Err too_long) (first_at rule_kind line (field_at line 0))) (bring_up_among (fields line))
      by-test true = tt
      by-test false =
          in_a_row RuleHeld line 0 (first_at rule_kind line) bring_up_among tt
          (λ a b s. in_a_row RuleHeld line b (second_at rule_kind line a b) (λ l. bring_up_among (part line a b ∷ l)) tt
          (λ c d o. in_a_row RuleHeld line d (rule_at_third line (pair a b c d)) (λ l. bring_up_among (part line a b ∷ part line c d ∷ l)) tt
          (λ e f x. in_a_row RuleHeld line f (rule_at_fourth line (pair a b c d) (span e f)) (λ l. bring_up_among (part line a b ∷ part line c d ∷ part line e f ∷ l))
          (labels_right Err (Holding (has_bring_up (modes_of (part line e f)))) (λ r. tt) line (pair a b c d) (rule_at_access line (pair a b c d) (read_modes line_letters true (part line e f))) skipped (access-held (pair a b c d) (part line e f)))
          (λ g h y. tt))))

  -- the answer meets its contract
  pub rule_meets :
      (x : Result (Option RuleLine) Refusal) → line_at rule_kind line ≡ x →
      (x ≡ rule_line_at line) × ((rule_said line x ≡ rule_of line) × (RuleInside line x × RuleHeld x (bring_up_in line)))
  unfolding rule_line_at
  rule_meets x e = rw (← e) (refl, (rule-right.0, (rule-right.1, rule-held)))

-- ---- a change-rule write

change-known : known_modes change_letters ≡ true
unfolding known_modes
change-known = refl

abbrev pub RightChange : List ℕ → Result ChangeLine Refusal → Said → Type 0
RightChange line x said = (change_said line x ≡ said) × ChangeInside line x

module _ (line : List ℕ) where
  change-refuses : (r : Refusal) → RightChange line (Err r) (refused r)
  change-refuses r = (refl, tt)

  change-two-labels :
      (a b c d : ℕ) →
      SpanInside line (span a b) →
      SpanInside line (span c d) →
      RightChange line (change_at_third line (pair a b c d) (field_at line d)) (change_fields (bad_byte_in line) (part line a b ∷ part line c d ∷ fields (drop d line)))
  unfolding change_by
  change-two-labels a b c d s o =
      in_a_row (RightChange line) line d (change_at_third line p) (λ l. change_fields (bad_byte_in line) (part line a b ∷ part line c d ∷ l)) (change-refuses wrong_fields)
      (λ e f x. in_a_row (RightChange line) line f (change_at_fourth line p (span e f)) (λ l. change_fields (bad_byte_in line) (part line a b ∷ part line c d ∷ part line e f ∷ l)) (change-refuses wrong_fields)
      (λ g h y. in_a_row (RightChange line) line h (change_at_fifth line p (span e f) (span g h)) (λ l. change_fields (bad_byte_in line) (part line a b ∷ part line c d ∷ part line e f ∷ part line g h ∷ l))
      (labels_right Err (RightChange line) change-refuses line p _ _
      (by-access (read_modes change_letters true (part line e f)) (read_known change_letters true change-known (part line e f))
      (read_modes change_letters true (part line g h)) (read_known change_letters true change-known (part line g h))))
      (λ i j z. change-refuses wrong_fields)))
    where
      p : Pair
      p = pair a b c d

      by-access :
          (x : Option ℕ) →
          ((m : ℕ) → x ≡ Some m → known_modes m ≡ true) →
          (y : Option ℕ) →
          ((n : ℕ) → y ≡ Some n → known_modes n ≡ true) →
          RightChange line (change_at_access line p x y) (change_with (part line a b) (part line c d) x y)
      by-access (Some m) i (Some n) j =
          apart-right Err (RightChange line) change-refuses line p (Ok (record { labels = p; allow = m; deny = n })) (change (part line a b) (part line c d) m n)
          (refl, (s, o, i m refl, j n refl))
      by-access (Some m) i None j = change-refuses bad_access
      by-access None i y j = change-refuses bad_access

  pub change-right : RightChange line (change_line_at line) (change_of line)
  unfolding change_line_at change_of
  change-right = line-right change_kind (RightChange line) change-refuses line (change_fields (bad_byte_in line)) (refl, tt) (λ s. change-refuses wrong_fields) change-two-labels

  -- the answer meets its contract
  pub change_meets : (x : Result ChangeLine Refusal) → line_at change_kind line ≡ x → (x ≡ change_line_at line) × RightChange line x (change_of line)
  unfolding change_line_at
  change_meets x e = rw (← e) (refl, change-right)

-- ---- what is said

-- labels that were taken: both well formed, and not the same
pub record Taken (s o : List ℕ) : Type 0 where
  pub subject : well_formed s ≡ true
  pub object : well_formed o ≡ true
  pub apart : same_bytes s o ≡ false

-- what is said names such labels alone, and modes that a table may store
abbrev pub Sound : Said → Type 0
Sound skipped = Unit {0}
Sound (refused n) = Unit {0}
Sound (rule s o m) = Taken s o × (known_modes m ≡ true)
Sound (change s o a d) = Taken s o × (known_modes a ≡ true) × (known_modes d ≡ true)

-- said of two labels: refused, or taken with what holds of the modes
module _ (s o : List ℕ) (said : Said) where
  taken_or : (Taken s o → Sound said) → well_formed s ≡ true → well_formed o ≡ true → Sound (cond (same_bytes s o) (refused same_labels) said)
  taken_or h e i = by-test (same_bytes s o) refl
    where
      by-test : (t : Bool) → same_bytes s o ≡ t → Sound (cond t (refused same_labels) said)
      by-test true z = tt
      by-test false z = h (record { subject = e; object = i; apart = z })

  formed_or : (r : Refusal) → (well_formed s ≡ true → well_formed o ≡ true → Sound said) → Sound (cond (well_formed s && well_formed o) said (refused r))
  formed_or r h = by-test (well_formed s) refl (well_formed o) refl
    where
      by-test : (p : Bool) → well_formed s ≡ p → (q : Bool) → well_formed o ≡ q → Sound (cond (p && q) said (refused r))
      by-test true e true i = h e i
      by-test true e false i = tt
      by-test false e q i = tt

limit_or : (limit n : ℕ) (said : Said) → Sound said → Sound (cond (ltb limit n) (refused too_long) said)
limit_or limit n said h = by-test (ltb limit n)
  where
    by-test : (t : Bool) → Sound (cond t (refused too_long) said)
    by-test true = tt
    by-test false = h

rule-fields-sound : (place : ℕ) (fs : List (List ℕ)) → Sound (rule_fields place fs)
unfolding rule_by
rule-fields-sound place [] = tt
rule-fields-sound place (s ∷ []) = tt
rule-fields-sound place (s ∷ o ∷ []) = tt
rule-fields-sound place (s ∷ o ∷ a ∷ []) =
    formed_or s o (rule_with s o (read_modes line_letters true a)) (bad_label_at place) (by-access (read_modes line_letters true a))
  where
    by-access : (x : Option ℕ) → well_formed s ≡ true → well_formed o ≡ true → Sound (rule_with s o x)
    by-access (Some m) e i = taken_or s o (rule s o (stored_modes m)) (λ t. (t, stored_known m)) e i
    by-access None e i = tt
rule-fields-sound place (s ∷ o ∷ a ∷ x ∷ more) = tt

pub rule-sound : (line : List ℕ) → Sound (rule_of line)
unfolding rule_of
rule-sound line = limit_or _ (length line) (rule_fields (bad_byte_in line) (fields line)) (rule-fields-sound (bad_byte_in line) (fields line))

change-fields-sound : (place : ℕ) (fs : List (List ℕ)) → Sound (change_fields place fs)
unfolding change_by
change-fields-sound place [] = tt
change-fields-sound place (s ∷ []) = tt
change-fields-sound place (s ∷ o ∷ []) = tt
change-fields-sound place (s ∷ o ∷ a ∷ []) = tt
change-fields-sound place (s ∷ o ∷ a ∷ d ∷ []) =
    formed_or s o (change_with s o (read_modes change_letters true a) (read_modes change_letters true d)) (bad_label_at place)
    (by-access (read_modes change_letters true a) (read_known change_letters true change-known a) (read_modes change_letters true d) (read_known change_letters true change-known d))
  where
    by-access :
        (x : Option ℕ) →
        ((m : ℕ) → x ≡ Some m → known_modes m ≡ true) →
        (y : Option ℕ) →
        ((n : ℕ) → y ≡ Some n → known_modes n ≡ true) →
        well_formed s ≡ true →
        well_formed o ≡ true →
        Sound (change_with s o x y)
    by-access (Some m) h (Some n) k e i = taken_or s o (change s o m n) (λ t. (t, h m refl, k n refl)) e i
    by-access (Some m) h None k e i = tt
    by-access None h y k e i = tt
change-fields-sound place (s ∷ o ∷ a ∷ d ∷ x ∷ more) = tt

pub change-sound : (line : List ℕ) → Sound (change_of line)
unfolding change_of
change-sound line = limit_or _ (length line) (change_fields (bad_byte_in line) (fields line)) (change-fields-sound (bad_byte_in line) (fields line))

-- What 01 has written, byte by byte: the plain reader reads rule text, and then keeps question lines. Assumes nothing.
use mathlib.Core.Path.{◌≡◌, refl, sym, ap, ◌∙◌, subst}
use mathlib.Core.Bool.{Bool, true, false, cond, ◌&&◌, not}
use mathlib.Core.List.{List, [], ◌∷◌, ◌++◌, append_assoc, append-nil, foldl, foldl-append}
use Prim.Native.Nat.{ℕ}
use native.Mathlib.Omega.{arith}
use lib.Dec.{ltb, eqb}
use borrow.Author.Tests.{ltb-false}
use lib.ListN.{length}
use Rattle.search.specs.Search.{all}
use Rattle.search.specs.Bytes.{same_bytes}
use Rattle.search.proofs.Laws.{all_snoc}
use Rattle.store.specs.Table.{fresh}
use Rattle.access.specs.Access.{answer}
use Rattle.lists.specs.Reader.{Reader, start_on, end_line, take_byte, take_piece, finish, limited_totals}
use Rattle.alphabet.specs.Alphabet.{newline}
use Rattle.replies.specs.Replies.{answer_line}
use Rattle.text_lines.specs.TextLines.{lines_from, as_text}
use Rattle.lists.proofs.Lines.{keeping, joins, ends, Plain, line-ends}
use Rattle.program.specs.Program.{is_mark, rule_lines, question_lines, answer_to, report_line, answer_lines, output}
use Rattle.program.specs.Steps.{saying}

-- ---- rule text is still read, or questions are

pub data Phase : Type 0 where
  loads : Reader → Phase
  asks : Reader → Phase

-- the kept line is forgotten, and where it is exactly `?` alone
abbrev pub plain_unmarked : Reader → Reader
plain_unmarked p = keeping p (cond (is_mark p.kept) [] p.kept)

abbrev pub phase_to : Phase → ℕ → Phase
phase_to (loads p) b = cond (is_mark p.kept && eqb b newline) (asks (start_on p.table)) (loads (take_byte p b))
phase_to (asks p) b = cond (eqb b newline) (asks (keeping p [])) (asks (take_byte p b))

abbrev pub reports : Reader → List ℕ
reports p = report_line (limited_totals (finish p).totals)

abbrev pub answers : Reader → List ℕ
answers p = answer_line (answer_to (answer p.table) p.kept)

abbrev pub phase_says : Phase → ℕ → List ℕ
phase_says (loads p) b = cond (is_mark p.kept && eqb b newline) (reports (keeping p [])) []
phase_says (asks p) b = cond (eqb b newline) (answers p) []

abbrev pub phase_last : Phase → List ℕ
phase_last (loads p) = reports (plain_unmarked p)
phase_last (asks p) = cond (ltb 0 (length p.kept)) (answers p) []

abbrev pub phase_on : Phase → List ℕ → Phase
phase_on q input = foldl phase_to q input

abbrev pub said_on : Phase → List ℕ → List ℕ
said_on q input = saying phase_to phase_says q input

-- all that is said, to the end of the input
abbrev pub said_from : Phase → List ℕ → List ℕ
said_from q input = said_on q input ++ phase_last (phase_on q input)

-- ---- of any step and what it says, over two inputs

saying-append : {S : Type 0} (step : S → ℕ → S) (say : S → ℕ → List ℕ) (s : S) (a b : List ℕ) → saying step say s (a ++ b) ≡ saying step say s a ++ saying step say (foldl step s a) b
saying-append step say s [] b = refl
saying-append step say s (x ∷ xs) b = ap (λ (l : List ℕ). say s x ++ l) (saying-append step say (step s x) xs b) ∙ sym (append_assoc (say s x) (saying step say (step s x) xs) (saying step say (foldl step (step s x) xs) b))

pub said-append : (q : Phase) (a b : List ℕ) → said_from q (a ++ b) ≡ said_on q a ++ said_from (phase_on q a) b
said-append q a b =
    ap (λ (l : List ℕ). l ++ phase_last (phase_on q (a ++ b))) (saying-append phase_to phase_says q a b)
    ∙ append_assoc (said_on q a) (said_on (phase_on q a) b) (phase_last (phase_on q (a ++ b)))
    ∙ ap (λ (r : Phase). said_on q a ++ (said_on (phase_on q a) b ++ phase_last r)) (foldl-append phase_to q a b)

-- ---- question lines

asks-said : (p : Reader) (input : List ℕ) → said_from (asks p) input ≡ answer_lines p.table (lines_from p.kept input)
asks-said p [] = by-test (ltb 0 (length p.kept))
  where
    by-test : (t : Bool) → cond t (answers p) [] ≡ answer_lines p.table (cond t (p.kept ∷ []) [])
    by-test true = sym (append-nil (answers p))
    by-test false = refl
asks-said p (b ∷ bs) = by-test (eqb b newline) refl (asks-said (keeping p []) bs) (asks-said (keeping p (p.kept ++ (b ∷ []))) bs)
  where
    by-test :
        (t : Bool) →
        eqb b newline ≡ t →
        said_from (asks (keeping p [])) bs ≡ answer_lines p.table (lines_from [] bs) →
        said_from (asks (keeping p (p.kept ++ (b ∷ [])))) bs ≡ answer_lines p.table (lines_from (p.kept ++ (b ∷ [])) bs) →
        (cond t (answers p) [] ++ said_on (cond t (asks (keeping p [])) (asks (take_byte p b))) bs) ++ phase_last (phase_on (cond t (asks (keeping p [])) (asks (take_byte p b))) bs)
        ≡ answer_lines p.table (cond t (p.kept ∷ lines_from [] bs) (lines_from (p.kept ++ (b ∷ [])) bs))
    by-test true e ended going =
        append_assoc (answers p) (said_on (asks (keeping p [])) bs) (phase_last (phase_on (asks (keeping p [])) bs))
        ∙ ap (λ (l : List ℕ). answers p ++ l) ended
    by-test false e ended going = ap (λ (x : Reader). said_from (asks x) bs) (joins p b e) ∙ going

-- ---- rule text

-- what 01 has written of the lines that are left, by a reader that has no kept line
output_of : Reader → List (List ℕ) → List ℕ
output_of p ls = reports (take_piece p (as_text (rule_lines ls))) ++ answer_lines (finish (take_piece p (as_text (rule_lines ls)))).table (question_lines ls)

line_marked : (p : Reader) (line : List ℕ) (ls : List (List ℕ)) → is_mark line ≡ true → output_of (keeping p []) (line ∷ ls) ≡ reports (keeping p []) ++ answer_lines p.table ls
unfolding output_of finish
line_marked p line ls m = rw m

line-ruled : (p : Reader) (line : List ℕ) (ls : List (List ℕ)) → Plain line → is_mark line ≡ false → output_of (keeping p []) (line ∷ ls) ≡ output_of (end_line (keeping p line)) ls
unfolding output_of
line-ruled p line ls h m =
    rw m
    (ap (λ (x : Reader). reports x ++ answer_lines (finish x).table (question_lines ls))
    (foldl-append take_byte (keeping p []) (line ++ (newline ∷ [])) (as_text (rule_lines ls)) ∙ ap (λ (x : Reader). take_piece x (as_text (rule_lines ls))) (line-ends p line h)))

-- ---- a reader whose line has ended

ended-kept : (p : Reader) → (end_line p).kept ≡ []
unfolding end_line
ended-kept p = refl

ended-whole : (p : Reader) → keeping (end_line p) [] ≡ end_line p
unfolding end_line
ended-whole p = refl

ended-reports : (p : Reader) → ltb 0 (length p.kept) ≡ true → reports p ≡ reports (end_line p)
unfolding finish end_line
ended-reports p e = rw e

no_bytes : (l : List ℕ) → ltb 0 (length l) ≡ false → l ≡ []
no_bytes [] e = refl
no_bytes (b ∷ bs) e = absurd (omega (arith, ltb-false 0 (length (b ∷ bs)) e))

none-plain : Plain []
unfolding all
none-plain = refl

one_more : (line : List ℕ) (b : ℕ) → Plain line → eqb b newline ≡ false → Plain (line ++ (b ∷ []))
one_more line b h e = all_snoc (λ (x : ℕ). not (eqb x newline)) line b ∙ rw (h, e)

none_left : (p : Reader) → output_of p [] ≡ reports p
unfolding output_of
none_left p = append-nil (reports p)

no_mark : is_mark [] ≡ false
unfolding same_bytes
no_mark = refl

-- ---- the rule text, and the questions behind it

last-said : (p : Reader) → Plain p.kept → reports (plain_unmarked p) ≡ output_of (keeping p []) (lines_from p.kept [])
last-said p h = by_size (ltb 0 (length p.kept)) refl
  where
    by-mark : (m : Bool) → is_mark p.kept ≡ m → ltb 0 (length p.kept) ≡ true → reports (keeping p (cond m [] p.kept)) ≡ output_of (keeping p []) (p.kept ∷ [])
    by-mark true e z = sym (line_marked p p.kept [] e ∙ append-nil (reports (keeping p [])))
    by-mark false e z = ended-reports p z ∙ sym (line-ruled p p.kept [] h e ∙ none_left (end_line p))

    by_size : (t : Bool) → ltb 0 (length p.kept) ≡ t → reports (plain_unmarked p) ≡ output_of (keeping p []) (cond t (p.kept ∷ []) [])
    by_size true e = by-mark (is_mark p.kept) refl e
    by_size false e =
        let z = no_bytes p.kept e in
        ap (λ (l : List ℕ). reports (keeping p (cond (is_mark l) [] l))) z ∙ ap (λ (m : Bool). reports (keeping p (cond m [] []))) no_mark ∙ sym (none_left (keeping p []))

loads-said : (p : Reader) (input : List ℕ) → Plain p.kept → said_from (loads p) input ≡ output_of (keeping p []) (lines_from p.kept input)
loads-said p [] h = last-said p h
loads-said p (b ∷ bs) h =
    by_tests (is_mark p.kept) (eqb b newline) refl refl
    (loads-said (end_line p) bs (subst Plain (sym (ended-kept p)) none-plain))
    (λ e. loads-said (keeping p (p.kept ++ (b ∷ []))) bs (one_more p.kept b h e))
  where
    by_tests :
        (m t : Bool) →
        is_mark p.kept ≡ m →
        eqb b newline ≡ t →
        said_from (loads (end_line p)) bs ≡ output_of (keeping (end_line p) []) (lines_from (end_line p).kept bs) →
        (eqb b newline ≡ false → said_from (loads (keeping p (p.kept ++ (b ∷ [])))) bs ≡ output_of (keeping p []) (lines_from (p.kept ++ (b ∷ [])) bs)) →
        (cond (m && t) (reports (keeping p [])) [] ++ said_on (cond (m && t) (asks (start_on p.table)) (loads (take_byte p b))) bs) ++ phase_last (phase_on (cond (m && t) (asks (start_on p.table)) (loads (take_byte p b))) bs)
        ≡ output_of (keeping p []) (cond t (p.kept ∷ lines_from [] bs) (lines_from (p.kept ++ (b ∷ [])) bs))
    by_tests true true e z ended going =
        append_assoc (reports (keeping p [])) (said_on (asks (start_on p.table)) bs) (phase_last (phase_on (asks (start_on p.table)) bs))
        ∙ ap (λ (l : List ℕ). reports (keeping p []) ++ l) (asks-said (start_on p.table) bs)
        ∙ sym (line_marked p p.kept (lines_from [] bs) e)
    by_tests true false e z ended going = ap (λ (x : Reader). said_from (loads x) bs) (joins p b z) ∙ going z
    by_tests false true e z ended going =
        ap (λ (x : Reader). said_from (loads x) bs) (ends p b z)
        ∙ ended
        ∙ ap (λ (x : Reader). output_of x (lines_from (end_line p).kept bs)) (ended-whole p)
        ∙ ap (λ (l : List ℕ). output_of (end_line p) (lines_from l bs)) (ended-kept p)
        ∙ sym (line-ruled p p.kept (lines_from [] bs) h e)
    by_tests false false e z ended going = ap (λ (x : Reader). said_from (loads x) bs) (joins p b z) ∙ going z

-- THE PLAIN PROGRAM: all that is said of an input is what 01 has written for it
pub plain-output : (input : List ℕ) → said_from (loads (start_on fresh)) input ≡ output input
unfolding output_of output
plain-output input = loads-said (start_on fresh) input none-plain

-- Strings that differ in what is compared are not equal, and up to 16 bytes the four words are all.
use Rattle.std.proofs.Common.{ℕ, ◌≡◌, ◌≤◌, ◌-◌, false, List, length, get_or, sym, ap, ◌∙◌, arith}
use lib.Dec.{eqb}
use Rattle.search.specs.Within.{words_differ, second_four, third_four}
use Rattle.search.proofs.Laws.{or_false, neither_differs, same-empty, differ, words-apart, words_same}
use Rattle.search.proofs.same_bytes.Goals as goal

pub returns-then-count-b : goal.returns-then-count-b
returns-then-count-b c = same-empty c.args.a.now c.args.b.now c.if-count-b.true

pub returns-then-count-b-2 : goal.returns-then-count-b-2
returns-then-count-b-2 c = sym (differ c.args.a.now c.args.b.now _ _ _ _ (ap (λ (l : List ℕ). length l)) (ap (λ (l : List ℕ). get_or l 0 0)) c.if-count-b-2.true)

pub returns-then-words_differ : goal.returns-then-words_differ
returns-then-words_differ c = sym (words-apart c.args.a.now c.args.b.now _ _ (sym c.words_differ.ensures ∙ c.if-words_differ.true))

pub returns-then-words_differ-2 : goal.returns-then-words_differ-2
returns-then-words_differ-2 c = sym (words-apart c.args.a.now c.args.b.now _ _ (sym c.words_differ-2.ensures ∙ c.if-words_differ-2.true))

pub returns-then-count-le16 : goal.returns-then-count-le16
returns-then-count-le16 c =
    let a = c.args.a.now in
    let b = c.args.b.now in
    let h = or_false (eqb (length a) 0) (eqb (length b) 0) c.if-count-b.false in
    let lengths : length a ≡ length b = (neither_differs (length a) (length b) (get_or a 0 0) (get_or b 0 0) c.if-count-b-2.false).0 in
    let outer : words_differ a b 0 (length a - 4) ≡ false = sym c.words_differ.ensures ∙ c.if-words_differ.false in
    let inner : words_differ a b (second_four (length a)) (third_four (length a)) ≡ false =
    rw (sym c.second_four.ensures, sym c.third_four.ensures) (sym c.words_differ-2.ensures ∙ c.if-words_differ-2.false) in
    let small : (i : ℕ) → get_or a i 0 ≤ 255 = λ i. omega (arith, c.type_inv.a i) in
    let small' : (i : ℕ) → get_or b i 0 ≤ 255 = λ i. omega (arith, c.type_inv.b i) in
    sym (words_same a b lengths (omega arith) small small' outer inner)

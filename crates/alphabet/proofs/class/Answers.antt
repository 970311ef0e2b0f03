-- The table that it was handed is the list of the classes of 0 to 255.
use Rattle.std.proofs.Common.{ap, ◌∙◌, ℕ, List, get_or, length, arith}
use Rattle.alphabet.proofs.Laws.{class_count, class_at}
use Rattle.alphabet.proofs.class.Goals as goal

pub bounds-classes-b : goal.bounds-classes-b
bounds-classes-b c = let e = ap (λ (t : List ℕ). length t) c.requires ∙ class_count in omega (arith, e)

pub returns : goal.returns
returns c = ap (λ (t : List ℕ). get_or t c.args.b 0) c.requires ∙ class_at c.args.b (omega arith)

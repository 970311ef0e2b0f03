-- 01's examples, and those of 02, are computed on the definitions. Assumes nothing.
use Prim.Native.Nat.{ℕ}
use mathlib.Core.Path.{◌≡◌, refl}
use mathlib.Core.Bool.{true}
use mathlib.Core.Logic.{◌↔◌}
use lib.Dec.{eqb}
use borrow.Author.Tests.{eqb-true, eq-eqb}
use Rattle.search.specs.Search.{first, all, put}
use Rattle.search.specs.Bytes.{same_bytes}
use Rattle.search.proofs.Laws.{and_both}
use Rattle.alphabet.specs.Alphabet.{is_blank, label_byte, well_formed, fault_of, fields, bad_byte_in}
use Rattle.modes.specs.Modes.{bit_of, allowed_byte, modes_of, read_modes}
use Rattle.numbers.specs.Numbers.{number_of}
use Rattle.numbers.specs.Categories.{same_set, with_category}
use Rattle.numbers.specs.declared.CategorySet.{CategorySet}
use Rattle.numbers.proofs.Sets.{category_sets}
use Rattle.store.specs.Table.{is_pair}
use Rattle.store.specs.Pairs.{modes_between}
use Rattle.lines.specs.Lines.{rule_by, rule_of, bring_up_in, change_by, change_of}
use Rattle.rules.specs.Rules.{with_pair}
use Rattle.revoke.specs.Revoke.{revoke_write}
use Rattle.onlycap.specs.Onlycap.{onlycap_write}
use Rattle.cipso.specs.Cipso.{said_by, mapping_of, mapping_write, categories_of}
use Rattle.lookups.specs.Lookups.{label_lookup}
use Rattle.access.specs.Access.{effective, decide, answer}
use Rattle.lists.specs.Reader.{end_line, take_byte, finish, limited}
use Rattle.replies.specs.Replies.{decimal, answer_line}
use Rattle.rule_text.specs.RuleText.{text_of}
use Rattle.run.specs.declared.Record.{Record}
use Rattle.run.specs.Run.{matches}
use Rattle.program.specs.Program.{answer_to, report_line, output}
use Rattle.claims.specs.Examples.{ExamplesOf01, ExamplesOf02}

matching : (level : ℕ) (set : CategorySet) (r : Record) → (matches level set r ≡ true) ↔ ((r.level ≡ level) × (r.set ≡ set))
matching level set r = (
  λ e. let h = and_both (eqb r.level level) (same_set r.set set) e in (eqb-true _ _ h.0, (category_sets.equal r.set set).0 h.1),
  λ h. rw (eq-eqb r.level level h.0, (category_sets.equal r.set set).1 h.1),
)

pub examples_of_01 : ExamplesOf01
unfolding all first put same_bytes is_blank label_byte well_formed fields bit_of allowed_byte modes_of read_modes rule_by rule_of bring_up_in is_pair with_pair modes_between effective decide answer end_line take_byte finish limited decimal answer_line text_of answer_to report_line output
examples_of_01 =
    record {
      program = refl;
      report = refl;
      questions = refl;
      answers = (refl, refl, refl, λ place. refl);
      listed = refl;
      matching = matching;
    }

pub examples_of_02 : ExamplesOf02
unfolding all first put same_bytes is_blank label_byte well_formed fault_of fields bad_byte_in bit_of allowed_byte modes_of read_modes rule_by rule_of bring_up_in change_by onlycap_write said_by mapping_of mapping_write number_of with_category categories_of is_pair with_pair modes_between end_line take_byte finish limited effective decide answer decimal answer_line answer_to report_line output change_of revoke_write label_lookup
examples_of_02 =
    record {
      subject = refl;
      object = refl;
      leading_dash = refl;
      other_fault = refl;
      override_list = refl;
      mapping = refl;
      category_0 = refl;
      category_185 = refl;
      program_line = refl;
      first_refused = refl;
      first_refused_cut = refl;
      another_first = refl;
      replies = refl;
      b_alone = refl;
      b_beside = refl;
      b_and_q = refl;
      b_in_a_change = (refl, refl);
      b_lines = refl;
      b_lines_cut = refl;
      b_program = refl;
    }

-- Each function's contract, read off its own clauses: `r_top` reads no clause, `r_last _` one, and `r_join` joins the first to the rest. Assumes nothing.
use Rattle.std.specs.Prelude.{refl}
use borrow.Fn.Read.{r_top, r_last, r_join, all_models}
use Rattle.lists.specs.Called.{Contract}
use Rattle.balqirven.specs.contracts.bq_fresh_table as of_fresh_table
use Rattle.balqirven.specs.contracts.bq_fresh_loader as of_fresh_loader
use Rattle.balqirven.specs.contracts.bq_piece as of_piece
use Rattle.balqirven.specs.contracts.bq_end as of_end
use Rattle.balqirven.specs.contracts.bq_change as of_change
use Rattle.balqirven.specs.contracts.bq_onlycap as of_onlycap
use Rattle.balqirven.specs.contracts.bq_mapping as of_mapping
use Rattle.balqirven.specs.contracts.bq_revoke as of_revoke
use Rattle.balqirven.specs.contracts.bq_by_label as of_by_label
use Rattle.balqirven.specs.contracts.bq_by_level as of_by_level
use Rattle.balqirven.specs.contracts.bq_lowest_of as of_lowest_of
use Rattle.balqirven.specs.contracts.bq_lowest_in_run as of_lowest_in_run
use Rattle.balqirven.specs.contracts.bq_question as of_question
use Rattle.balqirven.specs.contracts.bq_new_object as of_new_object
use Rattle.balqirven.specs.contracts.bq_list_rule as of_list_rule
use Rattle.balqirven.specs.contracts.bq_write_option as of_write_option
use Rattle.balqirven.specs.contracts.bq_read_option as of_read_option
use Rattle.balqirven.specs.contracts.bq_label_check as of_label_check
use Rattle.balqirven.specs.contracts.bq_label as of_label
use Rattle.balqirven.specs.contracts.bq_record_to_line as of_record_to_line
use Rattle.balqirven.specs.contracts.bq_line_to_record as of_line_to_record

abbrev pub fresh_table : Contract
fresh_table = record {
  ended = of_fresh_table.ended;
  requires = λ κs a w. (of_fresh_table.clauses w.𝓛 w.𝓜.mem w.𝓡.returns κs a).requires tt;
  ensures = λ κs a r l w. (of_fresh_table.clauses w.𝓛 w.𝓜.mem w.𝓡.returns κs a).ensures tt r l;
  asks = λ κs a. all_models _ (λ w. r_top) (λ w. refl) (λ w. refl) (λ w. refl);
  tells = λ κs a r l. all_models _ (λ w. r_join _ _ (r_last _) (r_last _)) (λ w. refl) (λ w. refl) (λ w. refl);
  all_asked = λ κs a. (λ w. refl, refl, refl);
  all_told = λ κs a r l. (λ w. refl, refl, refl);
}

abbrev pub fresh_loader : Contract
fresh_loader = record {
  ended = of_fresh_loader.ended;
  requires = λ κs a w. (of_fresh_loader.clauses w.𝓛 w.𝓜.mem w.𝓡.returns κs a).requires tt;
  ensures = λ κs a r l w. (of_fresh_loader.clauses w.𝓛 w.𝓜.mem w.𝓡.returns κs a).ensures tt r l;
  asks = λ κs a. all_models _ (λ w. r_top) (λ w. refl) (λ w. refl) (λ w. refl);
  tells = λ κs a r l. all_models _ (λ w. r_last _) (λ w. refl) (λ w. refl) (λ w. refl);
  all_asked = λ κs a. (λ w. refl, refl, refl);
  all_told = λ κs a r l. (λ w. refl, refl, refl);
}

abbrev pub piece : Contract
piece = record {
  ended = of_piece.ended;
  requires = λ κs a w. (of_piece.clauses w.𝓛 w.𝓜.mem w.𝓡.returns κs a).requires tt;
  ensures = λ κs a r l w. (of_piece.clauses w.𝓛 w.𝓜.mem w.𝓡.returns κs a).ensures tt r l;
  asks = λ κs a. all_models _ (λ w. r_top) (λ w. refl) (λ w. refl) (λ w. refl);
  tells = λ κs a r l. all_models _ (λ w. r_join _ _ (r_last _) (r_last _)) (λ w. refl) (λ w. refl) (λ w. refl);
  all_asked = λ κs a. (λ w. refl, refl, refl);
  all_told = λ κs a r l. (λ w. refl, refl, refl);
}

abbrev pub end : Contract
end = record {
  ended = of_end.ended;
  requires = λ κs a w. (of_end.clauses w.𝓛 w.𝓜.mem w.𝓡.returns κs a).requires tt;
  ensures = λ κs a r l w. (of_end.clauses w.𝓛 w.𝓜.mem w.𝓡.returns κs a).ensures tt r l;
  asks = λ κs a. all_models _ (λ w. r_top) (λ w. refl) (λ w. refl) (λ w. refl);
  tells = λ κs a r l. all_models _ (λ w. r_join _ _ (r_last _) (r_last _)) (λ w. refl) (λ w. refl) (λ w. refl);
  all_asked = λ κs a. (λ w. refl, refl, refl);
  all_told = λ κs a r l. (λ w. refl, refl, refl);
}

abbrev pub change : Contract
change = record {
  ended = of_change.ended;
  requires = λ κs a w. (of_change.clauses w.𝓛 w.𝓜.mem w.𝓡.returns κs a).requires tt;
  ensures = λ κs a r l w. (of_change.clauses w.𝓛 w.𝓜.mem w.𝓡.returns κs a).ensures tt r l;
  asks = λ κs a. all_models _ (λ w. r_top) (λ w. refl) (λ w. refl) (λ w. refl);
  tells = λ κs a r l. all_models _ (λ w. r_join _ _ (r_last _) (r_last _)) (λ w. refl) (λ w. refl) (λ w. refl);
  all_asked = λ κs a. (λ w. refl, refl, refl);
  all_told = λ κs a r l. (λ w. refl, refl, refl);
}

abbrev pub onlycap : Contract
onlycap = record {
  ended = of_onlycap.ended;
  requires = λ κs a w. (of_onlycap.clauses w.𝓛 w.𝓜.mem w.𝓡.returns κs a).requires tt;
  ensures = λ κs a r l w. (of_onlycap.clauses w.𝓛 w.𝓜.mem w.𝓡.returns κs a).ensures tt r l;
  asks = λ κs a. all_models _ (λ w. r_top) (λ w. refl) (λ w. refl) (λ w. refl);
  tells = λ κs a r l. all_models _ (λ w. r_join _ _ (r_last _) (r_last _)) (λ w. refl) (λ w. refl) (λ w. refl);
  all_asked = λ κs a. (λ w. refl, refl, refl);
  all_told = λ κs a r l. (λ w. refl, refl, refl);
}

abbrev pub mapping : Contract
mapping = record {
  ended = of_mapping.ended;
  requires = λ κs a w. (of_mapping.clauses w.𝓛 w.𝓜.mem w.𝓡.returns κs a).requires tt;
  ensures = λ κs a r l w. (of_mapping.clauses w.𝓛 w.𝓜.mem w.𝓡.returns κs a).ensures tt r l;
  asks = λ κs a. all_models _ (λ w. r_top) (λ w. refl) (λ w. refl) (λ w. refl);
  tells = λ κs a r l. all_models _ (λ w. r_join _ _ (r_last _) (r_last _)) (λ w. refl) (λ w. refl) (λ w. refl);
  all_asked = λ κs a. (λ w. refl, refl, refl);
  all_told = λ κs a r l. (λ w. refl, refl, refl);
}

abbrev pub revoke : Contract
revoke = record {
  ended = of_revoke.ended;
  requires = λ κs a w. (of_revoke.clauses w.𝓛 w.𝓜.mem w.𝓡.returns κs a).requires tt;
  ensures = λ κs a r l w. (of_revoke.clauses w.𝓛 w.𝓜.mem w.𝓡.returns κs a).ensures tt r l;
  asks = λ κs a. all_models _ (λ w. r_top) (λ w. refl) (λ w. refl) (λ w. refl);
  tells = λ κs a r l. all_models _ (λ w. r_join _ _ (r_last _) (r_last _)) (λ w. refl) (λ w. refl) (λ w. refl);
  all_asked = λ κs a. (λ w. refl, refl, refl);
  all_told = λ κs a r l. (λ w. refl, refl, refl);
}

abbrev pub by_label : Contract
by_label = record {
  ended = of_by_label.ended;
  requires = λ κs a w. (of_by_label.clauses w.𝓛 w.𝓜.mem w.𝓡.returns κs a).requires tt;
  ensures = λ κs a r l w. (of_by_label.clauses w.𝓛 w.𝓜.mem w.𝓡.returns κs a).ensures tt r l;
  asks = λ κs a. all_models _ (λ w. r_top) (λ w. refl) (λ w. refl) (λ w. refl);
  tells = λ κs a r l. all_models _ (λ w. r_last _) (λ w. refl) (λ w. refl) (λ w. refl);
  all_asked = λ κs a. (λ w. refl, refl, refl);
  all_told = λ κs a r l. (λ w. refl, refl, refl);
}

abbrev pub by_level : Contract
by_level = record {
  ended = of_by_level.ended;
  requires = λ κs a w. (of_by_level.clauses w.𝓛 w.𝓜.mem w.𝓡.returns κs a).requires tt;
  ensures = λ κs a r l w. (of_by_level.clauses w.𝓛 w.𝓜.mem w.𝓡.returns κs a).ensures tt r l;
  asks = λ κs a. all_models _ (λ w. r_top) (λ w. refl) (λ w. refl) (λ w. refl);
  tells = λ κs a r l. all_models _ (λ w. r_last _) (λ w. refl) (λ w. refl) (λ w. refl);
  all_asked = λ κs a. (λ w. refl, refl, refl);
  all_told = λ κs a r l. (λ w. refl, refl, refl);
}

abbrev pub lowest_of : Contract
lowest_of = record {
  ended = of_lowest_of.ended;
  requires = λ κs a w. (of_lowest_of.clauses w.𝓛 w.𝓜.mem w.𝓡.returns κs a).requires tt;
  ensures = λ κs a r l w. (of_lowest_of.clauses w.𝓛 w.𝓜.mem w.𝓡.returns κs a).ensures tt r l;
  asks = λ κs a. all_models _ (λ w. r_top) (λ w. refl) (λ w. refl) (λ w. refl);
  tells = λ κs a r l. all_models _ (λ w. r_last _) (λ w. refl) (λ w. refl) (λ w. refl);
  all_asked = λ κs a. (λ w. refl, refl, refl);
  all_told = λ κs a r l. (λ w. refl, refl, refl);
}

abbrev pub lowest_in_run : Contract
lowest_in_run = record {
  ended = of_lowest_in_run.ended;
  requires = λ κs a w. (of_lowest_in_run.clauses w.𝓛 w.𝓜.mem w.𝓡.returns κs a).requires tt;
  ensures = λ κs a r l w. (of_lowest_in_run.clauses w.𝓛 w.𝓜.mem w.𝓡.returns κs a).ensures tt r l;
  asks = λ κs a. all_models _ (λ w. r_top) (λ w. refl) (λ w. refl) (λ w. refl);
  tells = λ κs a r l. all_models _ (λ w. r_last _) (λ w. refl) (λ w. refl) (λ w. refl);
  all_asked = λ κs a. (λ w. refl, refl, refl);
  all_told = λ κs a r l. (λ w. refl, refl, refl);
}

abbrev pub question : Contract
question = record {
  ended = of_question.ended;
  requires = λ κs a w. (of_question.clauses w.𝓛 w.𝓜.mem w.𝓡.returns κs a).requires tt;
  ensures = λ κs a r l w. (of_question.clauses w.𝓛 w.𝓜.mem w.𝓡.returns κs a).ensures tt r l;
  asks = λ κs a. all_models _ (λ w. r_top) (λ w. refl) (λ w. refl) (λ w. refl);
  tells = λ κs a r l. all_models _ (λ w. r_last _) (λ w. refl) (λ w. refl) (λ w. refl);
  all_asked = λ κs a. (λ w. refl, refl, refl);
  all_told = λ κs a r l. (λ w. refl, refl, refl);
}

abbrev pub new_object : Contract
new_object = record {
  ended = of_new_object.ended;
  requires = λ κs a w. (of_new_object.clauses w.𝓛 w.𝓜.mem w.𝓡.returns κs a).requires tt;
  ensures = λ κs a r l w. (of_new_object.clauses w.𝓛 w.𝓜.mem w.𝓡.returns κs a).ensures tt r l;
  asks = λ κs a. all_models _ (λ w. r_top) (λ w. refl) (λ w. refl) (λ w. refl);
  tells = λ κs a r l. all_models _ (λ w. r_last _) (λ w. refl) (λ w. refl) (λ w. refl);
  all_asked = λ κs a. (λ w. refl, refl, refl);
  all_told = λ κs a r l. (λ w. refl, refl, refl);
}

abbrev pub list_rule : Contract
list_rule = record {
  ended = of_list_rule.ended;
  requires = λ κs a w. (of_list_rule.clauses w.𝓛 w.𝓜.mem w.𝓡.returns κs a).requires tt;
  ensures = λ κs a r l w. (of_list_rule.clauses w.𝓛 w.𝓜.mem w.𝓡.returns κs a).ensures tt r l;
  asks = λ κs a. all_models _ (λ w. r_top) (λ w. refl) (λ w. refl) (λ w. refl);
  tells = λ κs a r l. all_models _ (λ w. r_join _ _ (r_last _) (r_last _)) (λ w. refl) (λ w. refl) (λ w. refl);
  all_asked = λ κs a. (λ w. refl, refl, refl);
  all_told = λ κs a r l. (λ w. refl, refl, refl);
}

abbrev pub write_option : Contract
write_option = record {
  ended = of_write_option.ended;
  requires = λ κs a w. (of_write_option.clauses w.𝓛 w.𝓜.mem w.𝓡.returns κs a).requires tt;
  ensures = λ κs a r l w. (of_write_option.clauses w.𝓛 w.𝓜.mem w.𝓡.returns κs a).ensures tt r l;
  asks = λ κs a. all_models _ (λ w. r_top) (λ w. refl) (λ w. refl) (λ w. refl);
  tells = λ κs a r l. all_models _ (λ w. r_join _ _ (r_last _) (r_last _)) (λ w. refl) (λ w. refl) (λ w. refl);
  all_asked = λ κs a. (λ w. refl, refl, refl);
  all_told = λ κs a r l. (λ w. refl, refl, refl);
}

abbrev pub read_option : Contract
read_option = record {
  ended = of_read_option.ended;
  requires = λ κs a w. (of_read_option.clauses w.𝓛 w.𝓜.mem w.𝓡.returns κs a).requires tt;
  ensures = λ κs a r l w. (of_read_option.clauses w.𝓛 w.𝓜.mem w.𝓡.returns κs a).ensures tt r l;
  asks = λ κs a. all_models _ (λ w. r_top) (λ w. refl) (λ w. refl) (λ w. refl);
  tells = λ κs a r l. all_models _ (λ w. r_last _) (λ w. refl) (λ w. refl) (λ w. refl);
  all_asked = λ κs a. (λ w. refl, refl, refl);
  all_told = λ κs a r l. (λ w. refl, refl, refl);
}

abbrev pub label_check : Contract
label_check = record {
  ended = of_label_check.ended;
  requires = λ κs a w. (of_label_check.clauses w.𝓛 w.𝓜.mem w.𝓡.returns κs a).requires tt;
  ensures = λ κs a r l w. (of_label_check.clauses w.𝓛 w.𝓜.mem w.𝓡.returns κs a).ensures tt r l;
  asks = λ κs a. all_models _ (λ w. r_top) (λ w. refl) (λ w. refl) (λ w. refl);
  tells = λ κs a r l. all_models _ (λ w. r_last _) (λ w. refl) (λ w. refl) (λ w. refl);
  all_asked = λ κs a. (λ w. refl, refl, refl);
  all_told = λ κs a r l. (λ w. refl, refl, refl);
}

abbrev pub label : Contract
label = record {
  ended = of_label.ended;
  requires = λ κs a w. (of_label.clauses w.𝓛 w.𝓜.mem w.𝓡.returns κs a).requires tt;
  ensures = λ κs a r l w. (of_label.clauses w.𝓛 w.𝓜.mem w.𝓡.returns κs a).ensures tt r l;
  asks = λ κs a. all_models _ (λ w. r_top) (λ w. refl) (λ w. refl) (λ w. refl);
  tells = λ κs a r l. all_models _ (λ w. r_join _ _ (r_last _) (r_last _)) (λ w. refl) (λ w. refl) (λ w. refl);
  all_asked = λ κs a. (λ w. refl, refl, refl);
  all_told = λ κs a r l. (λ w. refl, refl, refl);
}

abbrev pub record_to_line : Contract
record_to_line = record {
  ended = of_record_to_line.ended;
  requires = λ κs a w. (of_record_to_line.clauses w.𝓛 w.𝓜.mem w.𝓡.returns κs a).requires tt;
  ensures = λ κs a r l w. (of_record_to_line.clauses w.𝓛 w.𝓜.mem w.𝓡.returns κs a).ensures tt r l;
  asks = λ κs a. all_models _ (λ w. r_top) (λ w. refl) (λ w. refl) (λ w. refl);
  tells = λ κs a r l. all_models _ (λ w. r_join _ _ (r_last _) (r_last _)) (λ w. refl) (λ w. refl) (λ w. refl);
  all_asked = λ κs a. (λ w. refl, refl, refl);
  all_told = λ κs a r l. (λ w. refl, refl, refl);
}

abbrev pub line_to_record : Contract
line_to_record = record {
  ended = of_line_to_record.ended;
  requires = λ κs a w. (of_line_to_record.clauses w.𝓛 w.𝓜.mem w.𝓡.returns κs a).requires tt;
  ensures = λ κs a r l w. (of_line_to_record.clauses w.𝓛 w.𝓜.mem w.𝓡.returns κs a).ensures tt r l;
  asks = λ κs a. all_models _ (λ w. r_top) (λ w. refl) (λ w. refl) (λ w. refl);
  tells = λ κs a r l. all_models _ (λ w. r_join _ _ (r_last _) (r_last _)) (λ w. refl) (λ w. refl) (λ w. refl);
  all_asked = λ κs a. (λ w. refl, refl, refl);
  all_told = λ κs a r l. (λ w. refl, refl, refl);
}

-- Each function's contract, read off its own clauses: `r_top` reads no clause, `r_last _` one, and `r_join` joins the first to the rest. Assumes nothing.
use Rattle.std.specs.Prelude.{refl}
use borrow.Fn.Read.{r_top, r_last, r_join, all_models}
use Rattle.lists.specs.Called.{Contract}
use Rattle.listing.specs.contracts.label_by_number as of_label_part
use Rattle.program.specs.contracts.begin as of_begin
use Rattle.program.specs.contracts.feed as of_feed
use Rattle.program.specs.contracts.finish as of_finish

abbrev pub label_part : Contract
label_part = record {
  ended = of_label_part.ended;
  requires = λ κs a w. (of_label_part.clauses w.𝓛 w.𝓜.mem w.𝓡.returns κs a).requires tt;
  ensures = λ κs a r l w. (of_label_part.clauses w.𝓛 w.𝓜.mem w.𝓡.returns κs a).ensures tt r l;
  asks = λ κs a. all_models _ (λ w. r_top) (λ w. refl) (λ w. refl) (λ w. refl);
  tells = λ κs a r l. all_models _ (λ w. r_join _ _ (r_last _) (r_last _)) (λ w. refl) (λ w. refl) (λ w. refl);
  all_asked = λ κs a. (λ w. refl, refl, refl);
  all_told = λ κs a r l. (λ w. refl, refl, refl);
}

abbrev pub begin : Contract
begin = record {
  ended = of_begin.ended;
  requires = λ κs a w. (of_begin.clauses w.𝓛 w.𝓜.mem w.𝓡.returns κs a).requires tt;
  ensures = λ κs a r l w. (of_begin.clauses w.𝓛 w.𝓜.mem w.𝓡.returns κs a).ensures tt r l;
  asks = λ κs a. all_models _ (λ w. r_top) (λ w. refl) (λ w. refl) (λ w. refl);
  tells = λ κs a r l. all_models _ (λ w. r_join _ _ (r_last _) (r_last _)) (λ w. refl) (λ w. refl) (λ w. refl);
  all_asked = λ κs a. (λ w. refl, refl, refl);
  all_told = λ κs a r l. (λ w. refl, refl, refl);
}

abbrev pub feed : Contract
feed = record {
  ended = of_feed.ended;
  requires = λ κs a w. (of_feed.clauses w.𝓛 w.𝓜.mem w.𝓡.returns κs a).requires tt;
  ensures = λ κs a r l w. (of_feed.clauses w.𝓛 w.𝓜.mem w.𝓡.returns κs a).ensures tt r l;
  asks = λ κs a. all_models _ (λ w. r_top) (λ w. refl) (λ w. refl) (λ w. refl);
  tells = λ κs a r l. all_models _ (λ w. r_join _ _ (r_last _) (r_last _)) (λ w. refl) (λ w. refl) (λ w. refl);
  all_asked = λ κs a. (λ w. refl, refl, refl);
  all_told = λ κs a r l. (λ w. refl, refl, refl);
}

abbrev pub finish : Contract
finish = record {
  ended = of_finish.ended;
  requires = λ κs a w. (of_finish.clauses w.𝓛 w.𝓜.mem w.𝓡.returns κs a).requires tt;
  ensures = λ κs a r l w. (of_finish.clauses w.𝓛 w.𝓜.mem w.𝓡.returns κs a).ensures tt r l;
  asks = λ κs a. all_models _ (λ w. r_top) (λ w. refl) (λ w. refl) (λ w. refl);
  tells = λ κs a r l. all_models _ (λ w. r_join _ _ (r_last _) (r_last _)) (λ w. refl) (λ w. refl) (λ w. refl);
  all_asked = λ κs a. (λ w. refl, refl, refl);
  all_told = λ κs a r l. (λ w. refl, refl, refl);
}

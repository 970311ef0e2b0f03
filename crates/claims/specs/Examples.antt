-- 01's examples, and some of 02, byte for byte: what the program writes for its example input, and further inputs whose reports have every column; each form
-- of an answer line; a record of a run that matches; where the first bad byte is; categories that are none; the retired letter b. Assumes nothing.
use Rattle.std.specs.Prelude.{ℕ, ◌≡◌, true, false, ◌↔◌, [], ◌∷◌}
use Rattle.search.specs.Bytes.{ascii}
use Rattle.refusals.specs.Refusals.{told, wrong_fields, bad_access, bad_level_or_category, bad_label_at}
use Rattle.numbers.specs.Categories.{no_categories}
use Rattle.numbers.specs.declared.CategorySet.{CategorySet}
use Rattle.store.specs.Table.{fresh}
use Rattle.store.specs.Judged.{is_refused}
use Rattle.lines.specs.Lines.{rule_of, change_of, refused, rule}
use Rattle.onlycap.specs.Onlycap.{onlycap_write}
use Rattle.cipso.specs.Cipso.{mapping_write}
use Rattle.lists.specs.Reader as r
use Rattle.lists.specs.Reader.{piece, end_call, ask, write, refusal, report, answered, mapped, start_on, says_all, reports}
use Rattle.access.specs.declared.Denial.TheVariants.{StarSubject, AnyOther}
use Rattle.access.specs.declared.Answer.TheVariants.{Granted, Denied, Override, Refused}
use Rattle.replies.specs.Replies.{answer_line}
use Rattle.rule_text.specs.RuleText.{text_of}
use Rattle.run.specs.declared.Record.{Record}
use Rattle.run.specs.Run.{matches}
use Rattle.program.specs.Program.{output}

pub record ExamplesOf01 : Type 0 where
  -- the program's own example (02, Six: with the lines that held b last)
  pub program : output (ascii "Probe3 Air w\n?\nProbe3 Air w\nAir Probe3 w o\n") ≡ ascii "1 1 0 0 0 0 0\ngranted 6\noverride 7\n"
  -- of six lines one accepted, three blank, two refused: the first of these is the fifth, for its access field; without a last newline
  pub report : output (ascii "A B r\n\n \n\nA B q\nA") ≡ ascii "6 1 3 2 5 4 0\n"
  -- question lines: other fields, another fourth field, and the last without a newline
  pub questions : output (ascii "A B rb\n?\nA B\nA B r x\n\nA B r") ≡ ascii "1 1 0 0 0 0 1\nrefused 2\nrefused 2\nrefused 2\ngranted 6\n"
  pub answers :
      (answer_line (Granted 6) ≡ ascii "granted 6\n")
      × (answer_line (Denied AnyOther) ≡ ascii "denied 7\n")
      × (answer_line (Override StarSubject) ≡ ascii "override 1\n")
      × ((place : ℕ) → answer_line (Refused (bad_label_at place)) ≡ ascii "refused 3\n")
  -- a rule as it is listed
  pub listed : text_of (ascii "Probe3") (ascii "Air") (ascii "w") ≡ ascii "Probe3 Air w\n"
  -- a record matches where its level and its set are those that are sought
  pub matching : (level : ℕ) (set : CategorySet) (r : Record) → (matches level set r ≡ true) ↔ ((r.level ≡ level) × (r.set ≡ set))

-- 02, Three: where the first bad byte is, counted from 0; Four: categories 0 and 185 are refused; and Six: the retired letter b
pub record ExamplesOf02 : Type 0 where
  -- in a line: past blanks, in the subject or else in the object; a leading dash; and other faults have no place
  pub subject : rule_of (ascii " \tAir/2 Do\\or q") ≡ refused (bad_label_at 5)
  pub object : rule_of (ascii "Air  Do'or r") ≡ refused (bad_label_at 7)
  pub leading_dash : rule_of (ascii "Air -Door r") ≡ refused (bad_label_at 4)
  pub other_fault : rule_of (ascii "Air/2 Door r w") ≡ refused wrong_fields
  -- in an override list and a mapping
  pub override_list : onlycap_write (ascii "Air - Door") fresh ≡ is_refused (bad_label_at 4)
  pub mapping : mapping_write (ascii " Air\" 999") fresh ≡ is_refused (bad_label_at 4)
  pub category_0 : mapping_write (ascii "Vault7 9 1 0") fresh ≡ is_refused bad_level_or_category
  pub category_185 : mapping_write (ascii "Vault7 9 184 185") fresh ≡ is_refused bad_level_or_category
  -- the program prints no place
  pub program_line : output (ascii "Air/2 Door r\n?\nAir/2 Door r\n") ≡ ascii "1 0 0 1 1 3 0\nrefused 3\n"
  -- the report keeps the place of the first refused line, however the text is cut
  pub first_refused :
      reports (says_all (start_on fresh) (piece (ascii "Air Door r\n\tAir/2 Door r\nAir\n/ Door r\n") ∷ end_call ∷ []))
      ≡ report (record { lines = 4; accepted = 1; skipped = 0; refused = 3; first = 2; reason = 3; place = 4; bringup = 0 }) ∷ []
  pub first_refused_cut :
      reports
      (says_all (start_on fresh)
      (piece (ascii "Air Door r\n\tAi") ∷ piece (ascii "r/") ∷ piece (ascii "2 Door r\nAir\n/ Doo") ∷ piece (ascii "r r") ∷ end_call ∷ []))
      ≡ report (record { lines = 4; accepted = 1; skipped = 0; refused = 3; first = 2; reason = 3; place = 4; bringup = 0 }) ∷ []
  -- and 0 where the first has another reason, though a later one is a 3
  pub another_first :
      reports (says_all (start_on fresh) (piece (ascii "Air\nAir/2 Door r\n") ∷ end_call ∷ []))
      ≡ report (record { lines = 2; accepted = 0; skipped = 0; refused = 2; first = 1; reason = 2; place = 0; bringup = 0 }) ∷ []
  -- what the plain reader says to the single writes and to the calls that write no table; in a label that is lent by itself a blank is a bad byte
  pub replies :
      says_all (start_on fresh)
      (write (r.change (ascii " Air/2 Do\\or q -")) ∷ write (r.revoke (ascii "Air ")) ∷ write (r.onlycap (ascii "Air - /")) ∷ write (r.mapping (ascii "\tAi/r 9"))
      ∷ ask (r.by_label (ascii "Air/")) ∷ ask (r.question (ascii "Air/") (ascii "D/") [] false) ∷ ask (r.question (ascii "Air") (ascii "D/") [] true) ∷ [])
      ≡ refusal (told (bad_label_at 4)) ∷ refusal (told (bad_label_at 3)) ∷ refusal (told (bad_label_at 4)) ∷ refusal (told (bad_label_at 3))
      ∷ mapped (record { kind = 2; number = 3; level = 0; count = 0; set = no_categories; place = 3 })
      ∷ answered (record { kind = 3; number = 3; place = 3 })
      ∷ answered (record { kind = 3; number = 3; place = 1 })
      ∷ []
  -- in a line b, in either case, is a placeholder; another bad byte beside it is still refused
  pub b_alone : rule_of (ascii "Air Door b") ≡ rule (ascii "Air") (ascii "Door") 0
  pub b_beside : rule_of (ascii "Air Door -bRBx") ≡ rule (ascii "Air") (ascii "Door") 40
  pub b_and_q : rule_of (ascii "Air Door bq") ≡ refused bad_access
  pub b_in_a_change : (change_of (ascii "Air Door b -") ≡ refused bad_access) × (change_of (ascii "Air Door r B") ≡ refused bad_access)
  -- the count is of accepted lines whose access field held it, once a line: not of those that are refused, and not of labels
  pub b_lines :
      reports (says_all (start_on fresh) (piece (ascii "Air Door rb\nAir Air b\nb B r\nB b BbB\nAir Door qb\n\nAir Door r b\n") ∷ end_call ∷ []))
      ≡ report (record { lines = 7; accepted = 3; skipped = 1; refused = 3; first = 2; reason = 5; place = 0; bringup = 2 }) ∷ []
  pub b_lines_cut :
      reports (says_all (start_on fresh) (piece (ascii "Air Door r") ∷ piece (ascii "b") ∷ piece (ascii "\nAir Door b") ∷ end_call ∷ end_call ∷ []))
      ≡ report (record { lines = 2; accepted = 2; skipped = 0; refused = 0; first = 0; reason = 0; place = 0; bringup = 2 })
      ∷ report (record { lines = 0; accepted = 0; skipped = 0; refused = 0; first = 0; reason = 0; place = 0; bringup = 0 }) ∷ []
  pub b_program :
      output (ascii "Air Door rb\nAir Air b\n\nAir Door r\nAir Door B\n?\nAir Door r\nAir Door b\n") ≡ ascii "5 3 1 1 2 5 2\ndenied 7\nrefused 8\n"

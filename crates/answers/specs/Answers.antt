-- 01's number and values for each case of each answer that is an enum: what a host gets for it, as plain numbers. The promises of the
-- exported functions use these definitions. Where an answer is refused the number and the place are the refusal's, and otherwise 0 (but for the number
-- of a question); what a case has no value for is 0. A call that tells no place (a piece, the end call, what is written to a lent output, by level and
-- set, the label by its number, the label of a new object) has none in its answer; the fresh table and the call beside the label of a number answer as a write does, with place 0.
-- Assumes nothing.
use Rattle.std.specs.Prelude.{ℕ, true, false, Option, Some, None, Result, Ok, Err}
use Rattle.refusals.specs.Refusals.{number_of, place_of}
use Rattle.refusals.specs.declared.Refusal.{Refusal}
use Rattle.lookups.specs.declared.Cipso.{Cipso}
use Rattle.reports.specs.declared.Report.{Report}
use Rattle.places.specs.Places.{label_start}
use Rattle.access.specs.SevenRules.{denial_number}
use Rattle.access.specs.declared.Answer.{Answer}
use Rattle.access.specs.declared.Answer.TheVariants as answer
use Rattle.numbers.specs.Categories.{no_categories}
use Rattle.new_object.specs.declared.ObjectLabel.{ObjectLabel}
use Rattle.new_object.specs.declared.ObjectLabel.TheVariants as object-label
use Rattle.reports.specs.declared.Loader.{Loader}
use Rattle.reports.specs.Report.{empty_report}
use Rattle.answers.specs.declared.Shown.{Shown}
use Rattle.answers.specs.declared.Written.{Written}
use Rattle.answers.specs.declared.Counted.{Counted}
use Rattle.answers.specs.declared.Taken.{Taken}
use Rattle.answers.specs.declared.Finished.{Finished}
use Rattle.answers.specs.declared.Length.{Length}
use Rattle.answers.specs.declared.Mapped.{Mapped}
use Rattle.answers.specs.declared.Lowest.{Lowest}
use Rattle.answers.specs.declared.Labelled.{Labelled}
use Rattle.answers.specs.declared.Part.{Part}

-- a question: kind 0 granted, 1 denied, 2 granted by override, 3 refused; the number is the rule's, or the refusal's. (01 does not number the kinds)
abbrev pub shown : Answer → Shown
shown (answer.Granted n) = record { kind = 0; number = n; place = 0 }
shown (answer.Denied by) = record { kind = 1; number = denial_number by; place = 0 }
shown (answer.Override by) = record { kind = 2; number = denial_number by; place = 0 }
shown (answer.Refused r) = record { kind = 3; number = number_of r; place = place_of r }

-- a write, and the call beside the label of a number: done, or refused with its number and place
abbrev pub write_shown : Result (Unit {0}) Refusal → Written
write_shown (Ok tt) = record { refused = false; number = 0; place = 0 }
write_shown (Err r) = record { refused = true; number = number_of r; place = place_of r }

-- revoke-subject: how many rules have that subject
abbrev pub revoke_shown : Result ℕ Refusal → Counted
revoke_shown (Ok k) = record { refused = false; number = 0; count = k; place = 0 }
revoke_shown (Err r) = record { refused = true; number = number_of r; count = 0; place = place_of r }

-- a piece: done, with the loader for the next call; refused, with the loader that was handed in
abbrev pub piece_shown : Loader → Result Loader Refusal → Taken
piece_shown old (Ok l) = record { refused = false; number = 0; loader = l }
piece_shown old (Err r) = record { refused = true; number = number_of r; loader = old }

-- the end call: the report; refused, with a report of zeros and the loader that was handed in
abbrev pub end_shown : Loader → Result (Report × Loader) Refusal → Finished
end_shown old (Ok (r, l)) = record { refused = false; number = 0; report = r; loader = l }
end_shown old (Err r) = record { refused = true; number = number_of r; report = empty_report; loader = old }

-- a text written to a lent output, as the listing of a rule is: its length
abbrev pub output_shown : Result ℕ Refusal → Length
output_shown (Ok k) = record { refused = false; number = 0; length = k }
output_shown (Err r) = record { refused = true; number = number_of r; length = 0 }

-- a look-up by label: kind 0 a mapping, with level, set and how many categories are in the set; 1 none; 2 refused
abbrev pub lookup_shown : Result (Option Cipso) Refusal → Mapped
lookup_shown (Ok (Some m)) = record { kind = 0; number = 0; level = m.level; count = m.count; set = m.set; place = 0 }
lookup_shown (Ok None) = record { kind = 1; number = 0; level = 0; count = 0; set = no_categories; place = 0 }
lookup_shown (Err r) = record { kind = 2; number = number_of r; level = 0; count = 0; set = no_categories; place = place_of r }

-- a look-up by level and set, in the table or in a run: kind 0 a label, by its number; 1 none; 2 refused
abbrev pub search_shown : Result (Option ℕ) Refusal → Lowest
search_shown (Ok (Some k)) = record { kind = 0; number = 0; label = k }
search_shown (Ok None) = record { kind = 1; number = 0; label = 0 }
search_shown (Err r) = record { kind = 2; number = number_of r; label = 0 }

-- the label of a new object: kind 0 the creator's; 1 denied; 2 the folder's, and whether the new object transmutes; 3 refused. (02 does not number the kinds;
-- denied and refused have those of a question)
abbrev pub object_shown : Result ObjectLabel Refusal → Labelled
object_shown (Ok object-label.CreatorLabel) = record { kind = 0; number = 0; transmutes = false }
object_shown (Ok object-label.Denied) = record { kind = 1; number = 0; transmutes = false }
object_shown (Ok (object-label.FolderLabel transmutes)) = record { kind = 2; number = 0; transmutes = transmutes }
object_shown (Err r) = record { kind = 3; number = number_of r; transmutes = false }

-- a label by its number, whose length is n: where it stands in the label store
abbrev pub part_shown : ℕ → ℕ → Result (Unit {0}) Refusal → Part
part_shown k n (Ok tt) = record { refused = false; number = 0; start = label_start k; length = n }
part_shown k n (Err r) = record { refused = true; number = number_of r; start = 0; length = 0 }

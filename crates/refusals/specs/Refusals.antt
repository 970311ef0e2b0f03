-- 01, The refusal numbers, and those of 02: each under one name, which every definition cites; and the place beside a number. Assumes nothing.
use Rattle.std.specs.Prelude.{ℕ}
use Rattle.refusals.specs.declared.Refusal.{Refusal}
use Rattle.refusals.specs.declared.Refusal.TheVariants.{Damaged, TooLong, WrongFields, BadLabel, BadAccess, SameLabels, LabelsFull, RulesFull, BadRequest, BadLevelOrCategory, MappingsFull, TooManyOverrides, OutputTooShort, NoSuchNumber, BadRecord, NotInARecord, BadOption, OtherDoi, BadOptionCategory, NotInAnOption, NoSuchMapping}

-- the number of each case
abbrev pub number_of : Refusal → ℕ
number_of Damaged = 0
number_of TooLong = 1
number_of WrongFields = 2
number_of (BadLabel place) = 3
number_of BadAccess = 4
number_of SameLabels = 5
number_of LabelsFull = 6
number_of RulesFull = 7
number_of BadRequest = 8
number_of BadLevelOrCategory = 9
number_of MappingsFull = 10
number_of TooManyOverrides = 11
number_of OutputTooShort = 12
number_of NoSuchNumber = 13
number_of BadRecord = 14
number_of NotInARecord = 15
number_of BadOption = 16
number_of OtherDoi = 17
number_of BadOptionCategory = 18
number_of NotInAnOption = 19
number_of NoSuchMapping = 21

-- the place beside it: beside any number but 3 it is 0
abbrev pub place_of : Refusal → ℕ
place_of (BadLabel place) = place
place_of other = 0

-- what a host is told of a refusal: its number and its place
pub record AsTold : Type 0 where
  pub number : ℕ
  pub place : ℕ

abbrev pub told : Refusal → AsTold
told r = record { number = number_of r; place = place_of r }

-- where a call tells no place it is 0
abbrev pub plain : ℕ → AsTold
plain n = record { number = n; place = 0 }

-- the lent state has a part not of its full size, a count or length over its limit, a number that names no stored label, or an unknown mode
-- or category bit; it comes before every other
abbrev pub damaged : Refusal
damaged = Damaged

-- a line or write has over 600 bytes, a mapping write over 1,000
abbrev pub too_long : Refusal
too_long = TooLong

-- wrong number of fields: not 3 (rule), not 4 (change), under 2 (mapping), none (override list)
abbrev pub wrong_fields : Refusal
wrong_fields = WrongFields

-- a label is not well formed, for calls that tell no place
abbrev pub bad_label : Refusal
bad_label = BadLabel 0

-- 02, Three: with the place of the first bad byte beside it
abbrev pub bad_label_at : ℕ → Refusal
bad_label_at place = BadLabel place

-- an access field has a byte not allowed there
abbrev pub bad_access : Refusal
bad_access = BadAccess

-- subject equals object (unacceptable in the source)
abbrev pub same_labels : Refusal
same_labels = SameLabels

-- more new labels than free label places
abbrev pub labels_full : Refusal
labels_full = LabelsFull

-- the pair has no rule and 256 are stored
abbrev pub rules_full : Refusal
rules_full = RulesFull

-- the request is empty or has another byte
abbrev pub bad_request : Refusal
bad_request = BadRequest

-- a level is not as 01 says, or is 250 in a mapping write (02, Five); or a category is not as 02, Four, says
abbrev pub bad_level_or_category : Refusal
bad_level_or_category = BadLevelOrCategory

-- the label has no mapping and 32 are stored
abbrev pub mappings_full : Refusal
mappings_full = MappingsFull

-- over 8 different labels in an override list
abbrev pub too_many_overrides : Refusal
too_many_overrides = TooManyOverrides

-- lent output too short; otherwise only its front is written
abbrev pub output_too_short : Refusal
output_too_short = OutputTooShort

-- no rule or label of that number
abbrev pub no_such_number : Refusal
no_such_number = NoSuchNumber

-- 02, One: a record has a length other than 53, or a label place that is all spaces, has another byte after a space or doesn't end in a space
abbrev pub bad_record : Refusal
bad_record = BadRecord

-- 02, One: a line has a label over 23 bytes or a b, and no record can hold it
abbrev pub not_in_a_record : Refusal
not_in_a_record = NotInARecord

-- 02, Five: bytes that are no option of the layout
abbrev pub bad_option : Refusal
bad_option = BadOption

-- 02, Five: an option of another DOI
abbrev pub other_doi : Refusal
other_doi = OtherDoi

-- 02, Five: an option with category 0 or above 184
abbrev pub bad_option_category : Refusal
bad_option_category = BadOptionCategory

-- 02, Five: an unmapped label has over 23 bytes, and no option can hold it
abbrev pub not_in_an_option : Refusal
not_in_an_option = NotInAnOption

-- 02, Five: no mapping matches an option
abbrev pub no_such_mapping : Refusal
no_such_mapping = NoSuchMapping

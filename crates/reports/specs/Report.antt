use Rattle.refusals.specs.declared.Refusal.{Refusal}
-- 01, Rule text, the report, and 02, Six: the loader's numbers. A fresh loader has an empty kept line and a report of zeros; a line that was judged is
-- counted; each number stops at its limit. Assumes nothing.
use Rattle.std.specs.Prelude.{ℕ, ◌+◌, cond, ltb, eqb, Result, Ok, Err}
use Rattle.refusals.specs.Refusals.{number_of, place_of}
use Rattle.writes.specs.declared.Outcome.{Outcome}
use Rattle.writes.specs.declared.Outcome.TheVariants as v
use Rattle.reports.specs.declared.Loader.{Loader}
use Rattle.reports.specs.declared.Report.{Report}

-- a report of zeros, and a fresh loader
abbrev pub empty_report : Report
empty_report = record { lines = 0; accepted = 0; skipped = 0; refused = 0; first = 0; reason = 0; place = 0; bringup = 0 }

abbrev pub fresh_loader : Loader
fresh_loader = record { kept = 0; report = empty_report }

-- the limit of each number of a report
abbrev pub count_limit : ℕ
count_limit = 4294967295

-- one more, or the limit
abbrev pub more : ℕ → ℕ
more n = cond (ltb n count_limit) (n + 1) n

-- a line more. Of the first refused one the number, the reason and the place are kept (02, Three: its place, which is 0 where the reason is not 3). An
-- accepted line that held b is also one more of `bringup` (02, Six)
abbrev pub with_line : Report → Result Outcome Refusal → Report
with_line r (Ok v.Skipped) =
    record {
      lines = more r.lines;
      accepted = r.accepted;
      skipped = more r.skipped;
      refused = r.refused;
      first = r.first;
      reason = r.reason;
      place = r.place;
      bringup = r.bringup;
    }
with_line r (Ok (v.Accepted held)) =
    record {
      lines = more r.lines;
      accepted = more r.accepted;
      skipped = r.skipped;
      refused = r.refused;
      first = r.first;
      reason = r.reason;
      place = r.place;
      bringup = cond held (more r.bringup) r.bringup;
    }
with_line r (Err why) =
    record {
      lines = more r.lines;
      accepted = r.accepted;
      skipped = r.skipped;
      refused = more r.refused;
      first = cond (eqb r.refused 0) (more r.lines) r.first;
      reason = cond (eqb r.refused 0) (number_of why) r.reason;
      place = cond (eqb r.refused 0) (place_of why) r.place;
      bringup = r.bringup;
    }

-- the loader with that, and the next line begins empty
abbrev pub count : Loader → Result Outcome Refusal → Loader
count l outcome = record { kept = 0; report = with_line l.report outcome }

-- the loader with another length of the kept line
abbrev pub with_kept : Loader → ℕ → Loader
with_kept l n = record { kept = n; report = l.report }

-- What a call that takes input answers, as its caller uses it. Assumes nothing.
use Rattle.std.specs.Prelude.{ℕ, Result, Ok, Err}
use Rattle.program.specs.declared.Session.{Session}
use Rattle.program.specs.declared.Declined.{Declined}
use Rattle.program.specs.declared.Declined.TheVariants.{NoRoom, Damaged}

-- the session that the caller goes on with: the one that it had, where the call did nothing
abbrev pub went_session : Session → Result (Session × ℕ) Declined → Session
went_session old (Ok (s, n)) = s
went_session old (Err NoRoom) = old
went_session old (Err Damaged) = old

-- how many bytes the call put at the front of its output
abbrev pub went_count : Result (Session × ℕ) Declined → ℕ
went_count (Ok (s, n)) = n
went_count (Err NoRoom) = 0
went_count (Err Damaged) = 0

-- What specs/Contracts reads off a contract is what Rattle's own reading of it says, which callers' proofs go by: here for the functions that no
-- list of calls has; proofs/Every has it for the others, by their `Real`. Assumes nothing.
use Rattle.std.specs.Prelude.{◌≡◌, refl}
use borrow.Fn.Kinds.{In, Out}
use Rattle.lists.specs.Called.{Asked, Learnt}
use Rattle.calls.specs.Contracts as contracts
use Rattle.balqirven.proofs.bq_fresh_table.Kinds as fresh_table_kinds
use Rattle.balqirven.proofs.bq_fresh_table.Reads as fresh_table_reads
use Rattle.balqirven.proofs.bq_fresh_loader.Kinds as fresh_loader_kinds
use Rattle.balqirven.proofs.bq_fresh_loader.Reads as fresh_loader_reads
use Rattle.balqirven.proofs.bq_lowest_of.Kinds as lowest_of_kinds
use Rattle.balqirven.proofs.bq_lowest_of.Reads as lowest_of_reads
use Rattle.balqirven.proofs.bq_lowest_in_run.Kinds as lowest_in_run_kinds
use Rattle.balqirven.proofs.bq_lowest_in_run.Reads as lowest_in_run_reads
use Rattle.balqirven.proofs.bq_record_to_line.Kinds as record_to_line_kinds
use Rattle.balqirven.proofs.bq_record_to_line.Reads as record_to_line_reads
use Rattle.balqirven.proofs.bq_line_to_record.Kinds as line_to_record_kinds
use Rattle.balqirven.proofs.bq_line_to_record.Reads as line_to_record_reads

pub fresh_table_asked : ◌≡◌ {A = In 3 fresh_table_kinds.ps} (Asked contracts.fresh_table) fresh_table_reads.Asked
fresh_table_asked = refl

pub fresh_table_learnt : ◌≡◌ {A = Out 3 fresh_table_kinds.ps fresh_table_kinds.r} (Learnt contracts.fresh_table) fresh_table_reads.Learnt
fresh_table_learnt = refl

pub fresh_loader_asked : ◌≡◌ {A = In 0 fresh_loader_kinds.ps} (Asked contracts.fresh_loader) fresh_loader_reads.Asked
fresh_loader_asked = refl

pub fresh_loader_learnt : ◌≡◌ {A = Out 0 fresh_loader_kinds.ps fresh_loader_kinds.r} (Learnt contracts.fresh_loader) fresh_loader_reads.Learnt
fresh_loader_learnt = refl

pub lowest_of_asked : ◌≡◌ {A = In 3 lowest_of_kinds.ps} (Asked contracts.lowest_of) lowest_of_reads.Asked
lowest_of_asked = refl

pub lowest_of_learnt : ◌≡◌ {A = Out 3 lowest_of_kinds.ps lowest_of_kinds.r} (Learnt contracts.lowest_of) lowest_of_reads.Learnt
lowest_of_learnt = refl

pub lowest_in_run_asked : ◌≡◌ {A = In 1 lowest_in_run_kinds.ps} (Asked contracts.lowest_in_run) lowest_in_run_reads.Asked
lowest_in_run_asked = refl

pub lowest_in_run_learnt : ◌≡◌ {A = Out 1 lowest_in_run_kinds.ps lowest_in_run_kinds.r} (Learnt contracts.lowest_in_run) lowest_in_run_reads.Learnt
lowest_in_run_learnt = refl

pub record_to_line_asked : ◌≡◌ {A = In 2 record_to_line_kinds.ps} (Asked contracts.record_to_line) record_to_line_reads.Asked
record_to_line_asked = refl

pub record_to_line_learnt : ◌≡◌ {A = Out 2 record_to_line_kinds.ps record_to_line_kinds.r} (Learnt contracts.record_to_line) record_to_line_reads.Learnt
record_to_line_learnt = refl

pub line_to_record_asked : ◌≡◌ {A = In 2 line_to_record_kinds.ps} (Asked contracts.line_to_record) line_to_record_reads.Asked
line_to_record_asked = refl

pub line_to_record_learnt : ◌≡◌ {A = Out 2 line_to_record_kinds.ps line_to_record_kinds.r} (Learnt contracts.line_to_record) line_to_record_reads.Learnt
line_to_record_learnt = refl

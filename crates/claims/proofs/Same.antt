-- What specs/ContractsRead reads off a contract is what Rattle's own reading of it says, which callers' proofs go by. Assumes nothing.
use Rattle.std.specs.Prelude.{◌≡◌, refl}
use borrow.Fn.Kinds.{In, Out}
use Rattle.lists.specs.Called.{Asked, Learnt}
use Rattle.claims.specs.ContractsRead as contracts
use Rattle.listing.proofs.label_by_number.Kinds as label_part_kinds
use Rattle.listing.proofs.label_by_number.Reads as label_part_reads
use Rattle.program.proofs.begin.Kinds as begin_kinds
use Rattle.program.proofs.begin.Reads as begin_reads
use Rattle.program.proofs.feed.Kinds as feed_kinds
use Rattle.program.proofs.feed.Reads as feed_reads
use Rattle.program.proofs.finish.Kinds as finish_kinds
use Rattle.program.proofs.finish.Reads as finish_reads

pub label_part_asked : ◌≡◌ {A = In 3 label_part_kinds.ps} (Asked contracts.label_part) label_part_reads.Asked
label_part_asked = refl

pub label_part_learnt : ◌≡◌ {A = Out 3 label_part_kinds.ps label_part_kinds.r} (Learnt contracts.label_part) label_part_reads.Learnt
label_part_learnt = refl

pub begin_asked : ◌≡◌ {A = In 3 begin_kinds.ps} (Asked contracts.begin) begin_reads.Asked
begin_asked = refl

pub begin_learnt : ◌≡◌ {A = Out 3 begin_kinds.ps begin_kinds.r} (Learnt contracts.begin) begin_reads.Learnt
begin_learnt = refl

pub feed_asked : ◌≡◌ {A = In 5 feed_kinds.ps} (Asked contracts.feed) feed_reads.Asked
feed_asked = refl

pub feed_learnt : ◌≡◌ {A = Out 5 feed_kinds.ps feed_kinds.r} (Learnt contracts.feed) feed_reads.Learnt
feed_learnt = refl

pub finish_asked : ◌≡◌ {A = In 4 finish_kinds.ps} (Asked contracts.finish) finish_reads.Asked
finish_asked = refl

pub finish_learnt : ◌≡◌ {A = Out 4 finish_kinds.ps finish_kinds.r} (Learnt contracts.finish) finish_reads.Learnt
finish_learnt = refl

-- Which is the theorem.
use Rattle.claims.proofs.ReportCounts.{line-counts}
use Rattle.claims.proofs.what_a_line_counts.Goals as goal

pub returns : goal.returns
returns c = line-counts

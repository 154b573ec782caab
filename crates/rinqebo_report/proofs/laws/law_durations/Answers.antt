use Rattle.rinqebo_report.proofs.ReadDurations.{duration_reads_back}
use Rattle.rinqebo_report.proofs.laws.law_durations.Goals as goal

pub returns : goal.returns
returns c = duration_reads_back

use Rattle.rinqebo_report.proofs.Lines.{rows_fit, headers_fit}
use Rattle.rinqebo_report.proofs.laws.law_lines.Goals as goal

pub returns : goal.returns
returns c = record { rows = rows_fit; headers = headers_fit }

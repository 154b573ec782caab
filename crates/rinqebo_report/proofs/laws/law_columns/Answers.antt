use Rattle.rinqebo_report.proofs.SolidPages.{groups_say, pages_say}
use Rattle.rinqebo_report.proofs.laws.law_columns.Goals as goal

pub returns : goal.returns
returns c = record { pages = pages_say; groups = groups_say }

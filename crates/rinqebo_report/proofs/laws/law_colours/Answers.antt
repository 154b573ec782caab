use Rattle.rinqebo_report.proofs.Uncoloured.{page_left}
use Rattle.rinqebo_report.proofs.laws.law_colours.Goals as goal

pub returns : goal.returns
returns c = page_left

use Rattle.rinqebo_report.proofs.codes.Places.{contained}
use Rattle.rinqebo_report.proofs.codes.code.law_all_codes.Goals as goal

pub returns : goal.returns
returns c = contained

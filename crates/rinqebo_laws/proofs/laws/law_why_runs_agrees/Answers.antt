use Rattle.rinqebo_laws.proofs.WhyAgreement.{why_runs_agrees, why_runs_once}
use Rattle.rinqebo_laws.proofs.laws.law_why_runs_agrees.Goals as goal

pub returns : goal.returns
returns c = record { one = why_runs_once; agrees = why_runs_agrees }

use Rattle.rinqebo_laws.proofs.WhyAgreement.{why_agrees, why_listed, why_once}
use Rattle.rinqebo_laws.proofs.laws.law_why_agrees.Goals as goal

pub returns : goal.returns
returns c = record { one = why_once; agrees = why_agrees; listed = why_listed }

use Rattle.std.proofs.Common.{◌∙◌}
use Rattle.rinqebo_faults.specs.Words.{is_number}
use Rattle.rinqebo_findings.proofs.Versions.{parsed}
use Rattle.rinqebo_findings.proofs.nextest_versions.is_small.Goals as goal

pub returns : goal.returns
unfolding is_number
returns c test = c.is_ok.ensures.value ∙ parsed c.args.digits.now c.parse.result test c.parse.ensures.value.0

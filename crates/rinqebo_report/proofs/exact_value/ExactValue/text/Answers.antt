-- The value nests little and has no float, so that its text is known and reads back.
use Rattle.std.proofs.Common.{◌≤◌, arith}
use Rattle.serde_json.specs.Data.{depth}
use Rattle.serde_json.specs.Read.{max_depth}
use Rattle.serde_json.specs.View.{view}
use Rattle.rinqebo_report.specs.declared.exact_value.ExactValue.{ExactValue}
use Rattle.rinqebo_report.proofs.exact_value.ExactValue.text.Goals as goal

nests : (exact : ExactValue) → depth (view exact.value) ≤ max_depth
nests exact = omega (arith, exact.nests)

pub returns-clause-text : goal.returns-clause-text
returns-clause-text c = c.in_ok-text.ensures.text c.args.self.now.whole

pub returns-clause-reads_back : goal.returns-clause-reads_back
returns-clause-reads_back c = c.in_ok-text.ensures.reads_back (nests c.args.self.now)

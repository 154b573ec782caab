use Rattle.nextest_engines.specs.Readings.{readings_view}
use Rattle.nextest_rules.proofs.AcceptedRules.{accepted_rules}
use Rattle.nextest_rules.proofs.laws.law_accepted_rules.Goals as goal

pub returns : goal.returns
returns g c lower known source file sorted =
    let engines = readings_view g.F.Filters g.S.Specs c.args._pcx.now in
    accepted_rules engines lower known source file sorted

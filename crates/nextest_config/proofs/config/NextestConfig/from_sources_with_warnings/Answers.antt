use Rattle.std.proofs.Common.{subst}
use Rattle.nextest_engines.specs.Readings.{readings_view}
use Rattle.nextest_load.specs.Load.{IsLoad}
use Rattle.nextest_rules.specs.KnownView.{features_view}
use Rattle.nextest_sources.specs.Inputs.{load_inputs_view}
use Rattle.nextest_config.specs.ConfigView.{loaded_by}
use Rattle.nextest_config.proofs.config.NextestConfig.from_sources_with_warnings.Goals as goal

pub returns-clause-loads : goal.returns-clause-loads
returns-clause-loads g c =
    let engines = readings_view g.F.Filters g.S.Specs c.args.pcx.now in
    subst (λ selection. IsLoad (loaded_by g.F.Filters.meaning g.S.Specs.spec_meaning) engines
    (features_view c.args.experimental.now) (load_inputs_view c.args.shared.now selection c.args.tools.now)
    (g.W.ConfigWarnings.warnings c.args.warnings.now)
    (g.W.ConfigWarnings.warnings c.from_sources_with_selection.new.warnings) c.from_sources_with_selection.result)
    c.new.ensures c.from_sources_with_selection.ensures.loads

use Rattle.std.proofs.Common.{[], subst}
use Rattle.std.proofs.lemmas.Result.{err_from_is_err_and}
use Rattle.nextest_engines.specs.Readings.{readings_view}
use Rattle.nextest_load.specs.Load.{IsLoad}
use Rattle.nextest_rules.specs.KnownView.{features_view}
use Rattle.nextest_sources.specs.Inputs.{load_inputs_view, selecting}
use Rattle.nextest_sources.specs.WarningsView.{warnings_view}
use Rattle.nextest_config.specs.ConfigView.{loaded_by}
use Rattle.nextest_config.proofs.IsLoad.{memory_load}
use Rattle.nextest_config.proofs.config.NextestConfig.from_sources.Goals as goal

pub returns-in_err-root-clause-loads : goal.returns-in_err-root-clause-loads
returns-in_err-root-clause-loads g c =
    let engines = readings_view g.F.Filters g.S.Specs c.args.pcx.now in
    let p = err_from_is_err_and c.from_residual.result c.from_residual.ensures.1 in
    rw p.1 (
      [],
      memory_load (loaded_by g.F.Filters.meaning g.S.Specs.spec_meaning) engines (features_view c.args.experimental.now)
          (load_inputs_view c.args.shared.now (selecting c.args.config_file) c.args.tools.now) [] p.0 p.2,
      tt,
    )

pub returns-clause-loads : goal.returns-clause-loads
returns-clause-loads g c =
    let engines = readings_view g.F.Filters g.S.Specs c.args.pcx.now in
    let features = features_view c.args.experimental.now in
    let told = warnings_view c.load-loaded.new.warnings in
    let whole = c.from_load.ensures.loads engines features
    (load_inputs_view c.args.shared.now c.new-selection.result c.args.tools.now) _ _
    c.load-loaded.ensures.loads in (
      told,
      subst (λ selection. IsLoad (loaded_by g.F.Filters.meaning g.S.Specs.spec_meaning) engines
          (features_view c.args.experimental.now)
          (load_inputs_view c.args.shared.now selection c.args.tools.now) []
          (warnings_view c.load-loaded.new.warnings) c.from_load.result)
          c.new-selection.ensures
          (subst (λ old. IsLoad (loaded_by g.F.Filters.meaning g.S.Specs.spec_meaning) engines
          (features_view c.args.experimental.now)
          (load_inputs_view c.args.shared.now c.new-selection.result c.args.tools.now) old
          (warnings_view c.load-loaded.new.warnings) c.from_load.result)
          c.new-warnings.ensures whole),
      c.from_load.ensures.kept,
    )

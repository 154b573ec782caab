use Rattle.std.proofs.lemmas.Result.{err_from_is_err_and}
use Rattle.nextest_engines.specs.Readings.{readings_view}
use Rattle.nextest_rules.specs.KnownView.{features_view}
use Rattle.nextest_sources.specs.Inputs.{load_inputs_view}
use Rattle.nextest_config.specs.ConfigView.{loaded_by}
use Rattle.nextest_config.proofs.IsLoad.{memory_load}
use Rattle.nextest_config.proofs.config.NextestConfig.from_parsed_sources.Goals as goal

pub returns-in_err-root-clause-loads : goal.returns-in_err-root-clause-loads
returns-in_err-root-clause-loads g c =
    let engines = readings_view g.F.Filters g.S.Specs c.args.pcx.now in
    let p = err_from_is_err_and c.from_residual.result c.from_residual.ensures.1 in
    rw p.1 (memory_load (loaded_by g.F.Filters.meaning g.S.Specs.spec_meaning) engines
    (features_view c.args.experimental.now)
    (load_inputs_view c.args.paths.now.shared c.args.selection c.args.tools.now) _ p.0 p.2)

pub returns-clause-loads : goal.returns-clause-loads
returns-clause-loads g c =
    let engines = readings_view g.F.Filters g.S.Specs c.args.pcx.now in
    c.from_load.ensures.loads engines (features_view c.args.experimental.now)
    (load_inputs_view c.args.paths.now.shared c.args.selection c.args.tools.now) _ _ c.load_parsed-loaded.ensures.loads

use Rattle.std.proofs.Common.{subst}
use Rattle.nextest_engines.specs.Readings.{readings_view}
use Rattle.nextest_load.specs.Load.{IsLoad}
use Rattle.nextest_settings.specs.Profiles.Meaning.{configured_meaning}
use Rattle.nextest_sources.specs.Endings.{error_view}
use Rattle.nextest_sources.proofs.Ends.{not_passed}
use Rattle.nextest_config.specs.ConfigView.{configured_in, loaded_by}
use Rattle.nextest_config.specs.RunView.{request_view}
use Rattle.nextest_config.proofs.Resolves.{load_accepted, load_refused}
use Rattle.nextest_config.proofs.run.resolve.Goals as goal

pub returns-in-Ok : goal.returns-in-Ok
returns-in-Ok g c =
    let F = g.F.Filters in
    let S = g.S.Specs in
    let W = g.W.ConfigWarnings in
    let engines = readings_view F S c.args.pcx.now in
    let request = request_view c.args.inputs.now c.args.profile.now c.args.platforms.now c.args.mode c.args.tests.now in
    let load = subst (λ r. IsLoad (loaded_by F.meaning S.spec_meaning) engines request.features request.files
    (W.warnings c.args.warnings.now) (W.warnings c.from_sources_with_paths-loaded.new.warnings) r)
    c.in-Ok.is c.from_sources_with_paths-loaded.ensures.loads in
    record {
      resolves = load_accepted engines request _ _ load.verdict load.ran.is
          (configured_meaning F.meaning S.spec_meaning (configured_in c.in-Ok.config)) c.in-Ok.ensures.root
          load.means load.scripts load.closed
          _ _ _ c.rows_of.ensures.answers;
    }

pub returns-in-Err : goal.returns-in-Err
returns-in-Err g c =
    let F = g.F.Filters in
    let S = g.S.Specs in
    let W = g.W.ConfigWarnings in
    let engines = readings_view F S c.args.pcx.now in
    let request = request_view c.args.inputs.now c.args.profile.now c.args.platforms.now c.args.mode c.args.tests.now in
    let load = subst (λ r. IsLoad (loaded_by F.meaning S.spec_meaning) engines request.features request.files
    (W.warnings c.args.warnings.now) (W.warnings c.from_sources_with_paths-loaded.new.warnings) r)
    c.in-Err.is c.from_sources_with_paths-loaded.ensures.loads in
    record {
      resolves = load_refused engines request _ _ _ _ (error_view c.in-Err.error) load.ran.is load.verdict
          load.exact (not_passed c.in-Err.error) c.fault_of_load.ensures;
    }

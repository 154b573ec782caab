use Rattle.std.proofs.Common.{◌∙◌, [], ◌∷◌, ap, refl, string_bytes}
use Rattle.nextest_config.specs.RunView.{request_view}
use Rattle.nextest_rules.specs.KnownView.{features_view}
use Rattle.nextest_explain.specs.Files.{sources_view}
use Rattle.nextest_explain.proofs.AskedRows.{rows_for}
use Rattle.nextest_explain.proofs.program.rows.Goals as goal

pub returns : goal.returns
returns c root =
    let command = c.args.command.now in
    let request = request_view c.inputs.result command.profile.now c.in-Ok.platforms command.mode
    (c.test_of.result ∷ []) in
    rows_for command (sources_view c.args.sources.now) request c.resolve.result _ _ _ _ (record {
      root = ap (λ paths. string_bytes paths.workspace_root) c.inputs.ensures.paths ∙ root;
      files_read = c.inputs.ensures.files;
      profile = refl;
      features = ap features_view c.inputs.ensures.features;
      host = c.in-Ok.ensures.host;
      target = c.in-Ok.ensures.target;
      mode = refl;
      tests = ap (λ test. test ∷ []) c.test_of.ensures;
    }) c.resolve.ensures.resolves

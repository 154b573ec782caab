use Rattle.std.proofs.Common.{◌∙◌, ◌++◌, ap, map}
use Rattle.nextest_places.specs.Spans.Paths.{path_step}
use Rattle.rinqebo_findings.specs.Compile.{target_keys}
use Rattle.rinqebo_findings.proofs.expressions.target_path.Goals as goal

pub returns-in_ok-path_at-in-Some : goal.returns-in_ok-path_at-in-Some
returns-in_ok-path_at-in-Some c =
    c.in_ok-path_at-in-Some.ensures
    ∙ ap (λ text. map path_step c.args.section.path.now ++ target_keys text) c.in-Some.ensures

pub returns-in_ok-platform_path-in-None : goal.returns-in_ok-platform_path-in-None
returns-in_ok-platform_path-in-None c =
    c.in_ok-platform_path-in-None.ensures
    ∙ ap (λ text. map path_step c.args.section.path.now ++ target_keys text) c.in-None.ensures

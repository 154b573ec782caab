use Rattle.std.proofs.Common.{◌≡◌, ◌∙◌, ◌++◌, ap, codes, map, option_map}
use Rattle.nextest_places.specs.Spans.Paths.{path_step}
use Rattle.nextest_tree.specs.View.{tree_view}
use Rattle.rinqebo_report.specs.declared.codes.code.Code.TheVariants.{InvalidPlatform}
use Rattle.rinqebo_request.specs.Files.RuleTables.{target_spec, text_in}
use Rattle.rinqebo_findings.specs.Compile.{target_keys, text_fault}
use Rattle.rinqebo_findings.proofs.Later.{adds_same}
use Rattle.rinqebo_findings.proofs.expressions.add_target.Goals as goal

pub returns : goal.returns
returns c =
    let source = c.args.refused.now.source in
    let node = option_map (λ table. tree_view table.now) c.args.section.table in
    let path : map path_step c.deref.result.now ≡ map path_step c.args.section.path.now ++ target_keys (text_in (codes "platform") node) =
    ap (map path_step) c.deref.ensures.value ∙ c.in_ok-path.ensures in
    let text : option_map (λ text. text.now) c.target_text-text.result ≡ target_spec node = c.target_text-text.ensures in
    adds_same source.layers.now source.position _ _ _ _
    (λ i. text_fault InvalidPlatform (path i) (text i) c.args.refusal.now) c.in_ok-add_if_refused.ensures

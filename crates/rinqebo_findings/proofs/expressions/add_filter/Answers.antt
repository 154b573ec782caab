use Rattle.std.proofs.Common.{◌≡◌, ◌∙◌, ◌++◌, ◌∷◌, [], ap, map, option_map}
use Rattle.nextest_places.specs.Spans.Paths.{path_step}
use Rattle.nextest_places.specs.Spans.Paths as paths
use Rattle.nextest_tree.specs.View.{tree_view}
use Rattle.rinqebo_report.specs.declared.codes.code.Code.TheVariants.{InvalidFilter}
use Rattle.rinqebo_request.specs.Files.RuleTables.{text_in}
use Rattle.rinqebo_findings.specs.Compile.{text_fault}
use Rattle.rinqebo_findings.proofs.Later.{adds_same}
use Rattle.rinqebo_findings.proofs.expressions.add_filter.Goals as goal

pub returns : goal.returns
returns c =
    let source = c.args.refused.now.source in
    let node = option_map (λ table. tree_view table.now) c.args.section.table in
    let path : map path_step c.deref.result.now ≡ map path_step c.args.section.path.now ++ paths.key c.args.key.now ∷ [] =
    ap (map path_step) c.deref.ensures.value ∙ c.in_ok-path.ensures in
    let text : option_map (λ text. text.now) c.text_at-text.result ≡ text_in c.args.key.now node = c.text_at-text.ensures in
    adds_same source.layers.now source.position _ _ _ _
    (λ i. text_fault InvalidFilter (path i) (text i) c.args.refusal.now) c.in_ok-add_if_refused.ensures

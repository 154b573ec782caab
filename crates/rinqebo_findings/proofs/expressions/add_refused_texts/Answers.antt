use Rattle.std.proofs.Common.{◌≡◌, ◌∙◌, ap, List, ℕ, map, option_map, string_bytes}
use Rattle.nextest_places.specs.Spans.Paths.{path_step}
use Rattle.nextest_tree.specs.View.{tree_view}
use Rattle.rinqebo_findings.specs.Compile.{section_node, table_path, texts_of}
use Rattle.rinqebo_findings.specs.Later.{document_at}
use Rattle.rinqebo_findings.proofs.Later.{adds_same}
use Rattle.rinqebo_findings.proofs.expressions.add_refused_texts.Goals as goal

pub returns : goal.returns
returns c =
    let source = c.args.refused.now.source in
    let error = c.args.error.now in
    let profile = string_bytes error.profile_name in
    let path : map path_step c.deref.result.now ≡ table_path profile error.section =
    ap (map path_step) c.deref.ensures.value ∙ c.in_ok-path.ensures
    ∙ ap (λ (name : List ℕ). table_path name error.section) c.as_str-profile.ensures.value in
    let node : option_map (λ found. tree_view found.now) c.section_table.result
    ≡ section_node (document_at source.layers.now source.position) profile error.section =
    c.section_table.ensures
    ∙ (λ i. section_node (c.tree.ensures i) (c.as_str-profile.ensures.value i) error.section) in
    adds_same source.layers.now source.position _ _ _ _ (λ i. texts_of (path i) (node i) error.kind)
    c.in_ok-add_texts.ensures

use Rattle.std.proofs.Common.{◌∙◌, [], ap, sym}
use Rattle.std.proofs.lemmas.Result.{on_ok_weaker}
use Rattle.nextest_tree.specs.View.{tree_view}
use Rattle.rinqebo_findings.specs.NextestForms.{features_path, is_feature, item_in, listed_faults, no_feature}
use Rattle.rinqebo_findings.proofs.Forms.{forms_none, forms_same, text_is, unless, when}
use Rattle.rinqebo_findings.proofs.nextest_features.add_listed_feature.Goals as goal

pub returns-in-Some : goal.returns-in-Some
returns-in-Some c =
    let source = c.args.refused.now.source in
    let position = c.args.position in
    let item = tree_view c.args.item.now in
    let name = c.in-Some.name.now in
    forms_same source.layers.now source.position [] (listed_faults position item) _ _
    (when (is_feature name) [] (no_feature (item_in features_path position))
    (sym c.is_feature.ensures ∙ c.if-is_feature.true)
    ∙ ap (listed_faults position) (text_is item name c.in-Some.ensures))
    (forms_none source.layers.now source.position _)

pub returns-in-Some-2 : goal.returns-in-Some-2
returns-in-Some-2 c =
    let source = c.args.refused.now.source in
    let position = c.args.position in
    let item = tree_view c.args.item.now in
    let name = c.in-Some-2.name.now in
    on_ok_weaker c.add_unknown_feature.result
    (forms_same source.layers.now source.position (no_feature (item_in features_path position))
    (listed_faults position item) _ _
    (unless (is_feature c.in-Some.name.now) [] (no_feature (item_in features_path position))
    (sym c.is_feature.ensures ∙ c.if-is_feature.false)
    ∙ ap (listed_faults position) (text_is item c.in-Some.name.now c.in-Some.ensures)))
    c.add_unknown_feature.ensures

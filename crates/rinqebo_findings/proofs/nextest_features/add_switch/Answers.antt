use Rattle.std.proofs.Common.{◌∙◌, [], ap, sym}
use Rattle.nextest_tree.specs.View.{tree_view}
use Rattle.rinqebo_findings.specs.NextestForms.{boolean_faults, features_path, is_feature, key_in, no_feature, switch_faults}
use Rattle.rinqebo_findings.proofs.Forms.{bool_is, forms_none, forms_same, when}
use Rattle.rinqebo_findings.proofs.nextest_features.add_switch.Goals as goal

pub returns-in-Some : goal.returns-in-Some
returns-in-Some c =
    let source = c.args.refused.now.source in
    let name = c.args.name.now in
    let given = tree_view c.args.given.now in
    let path = key_in features_path name in
    forms_same source.layers.now source.position [] (switch_faults name given) _ _
    (ap (boolean_faults path) (bool_is given c.in-Some.field-0 c.in-Some.ensures)
    ∙ when (is_feature name) (boolean_faults path given) (no_feature path)
    (sym c.is_feature.ensures ∙ c.if-not-is_feature.false))
    (forms_none source.layers.now source.position _)

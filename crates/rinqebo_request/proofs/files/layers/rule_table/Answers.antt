use Rattle.std.proofs.Common.{◌∙◌, refl}
use Rattle.nextest_places.proofs.Steps.{position_into}
use Rattle.nextest_places.specs.declared.step.Step.TheVariants.{Position}
use Rattle.nextest_tree.specs.View.{tree_view}
use Rattle.rinqebo_request.proofs.files.RuleTables.{rule_of}
use Rattle.rinqebo_request.proofs.files.layers.rule_table.Goals as goal

pub returns : goal.returns
returns c =
    position_into (Position c.args.index) c.args.index (tree_view c.in_ok-get.field-0.now) c.in_ok-as_array.field-0.now c.get-2.result refl
    c.in_ok-as_array.ensures c.get-2.ensures.lookup
    ∙ rule_of c.args.profile.now c.args.list.now c.args.index (tree_view c.args.tree.now) (tree_view c.in_ok-profile_table.field-0.now)
    (tree_view c.in_ok-get.field-0.now) c.in_ok-profile_table.ensures c.in_ok-get.ensures

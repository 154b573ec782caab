use Rattle.nextest_tree.specs.View.{tree_view}
use Rattle.rinqebo_origins.proofs.OriginNodes.{rule_there}
use Rattle.rinqebo_origins.proofs.origin_node.rule_node.Goals as goal

pub returns : goal.returns
returns c =
    rule_there c.in_ok-as_array.field-0.now c.args.index c.get-2.result c.args.list.now (tree_view c.args.profile.now)
    (tree_view c.in_ok-get.field-0.now) c.in_ok-get.ensures c.in_ok-as_array.ensures c.get-2.ensures.lookup

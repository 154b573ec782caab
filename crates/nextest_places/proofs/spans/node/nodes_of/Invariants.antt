use Rattle.std.proofs.Common.{◌≡◌, [], drop}
use Rattle.toml.specs.View.{view}
use Rattle.nextest_places.specs.Spans.Nodes.{nodes_from, nodes_view}
use Rattle.nextest_places.proofs.spans.node.nodes_of.Given as goal

abbrev pub invariant-loop-item : goal.invariant-loop-item
invariant-loop-item l =
    nodes_from (view l.root) (nodes_view l.nodes.items) (drop l.item-index l.items) ≡ nodes_from (view l.root) [] l.items

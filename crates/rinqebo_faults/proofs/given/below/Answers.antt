use Rattle.nextest_tree.specs.View.{tree_view}
use Rattle.nextest_places.proofs.Steps.{position_into}
use Rattle.rinqebo_faults.proofs.given.below.Goals as goal

pub returns-in_ok-as_array-in-Position : goal.returns-in_ok-as_array-in-Position
returns-in_ok-as_array-in-Position c =
    position_into c.args.step c.in-Position.position (tree_view c.args.tree.now)
    c.in_ok-as_array-in-Position.field-0.now c.get-in-Position.result c.in-Position.is
    c.in_ok-as_array-in-Position.ensures c.get-in-Position.ensures.lookup

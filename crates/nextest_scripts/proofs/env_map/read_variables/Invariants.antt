use Rattle.nextest_tree.specs.Reads.{walk_view}
use Rattle.nextest_scripts.proofs.Variables.{IsReadTo}
use Rattle.nextest_scripts.proofs.env_map.read_variables.Given as goal

abbrev pub invariant-loop-key : goal.invariant-loop-key
invariant-loop-key l =
    IsReadTo l.members.entries l.key-iterator l.variables.entries
    (walk_view l.fn.walk) (walk_view l.walk)

use Rattle.std.specs.BTreeSet.{contains_text}
use Rattle.filter_inputs.specs.Packages.Names.{names_view}
use Rattle.filter_inputs.proofs.packages.Matching.{NamesMarked}
use Rattle.filter_inputs.proofs.packages.graph.PackageGraph.marked_members.Given as goal

abbrev pub invariant-loop-place : goal.invariant-loop-place
invariant-loop-place l = NamesMarked (names_view l.self.names.items) l.self.members.items l.marks
    (contains_text l.names) l.place-index

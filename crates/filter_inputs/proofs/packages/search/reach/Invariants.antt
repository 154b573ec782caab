use Rattle.std.proofs.Common.{◌≡◌, map, vec_len}
use Rattle.filter_inputs.specs.Packages.Edges.{oriented}
use Rattle.filter_inputs.specs.Packages.Marks.{unmarked, KeepsMarks, MarksReached}
use Rattle.filter_inputs.proofs.packages.search.reach.Given as goal

abbrev pub invariant-loop-direction : goal.invariant-loop-direction
invariant-loop-direction l = record {
  same_length : vec_len l.marks ≡ vec_len l.initial.marks;
  keeps : KeepsMarks l.initial.marks.items l.marks.items;
  reached : MarksReached (map (oriented l.direction) l.edges) l.initial.marks.items l.marks.items;
}

abbrev pub decreases-loop-direction : goal.decreases-loop-direction
decreases-loop-direction l = unmarked l.marks.items

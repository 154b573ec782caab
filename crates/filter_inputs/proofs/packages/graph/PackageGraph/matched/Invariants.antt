use Rattle.std.proofs.Common.{◌≡◌, length, vec_len}
use Rattle.filter_inputs.specs.Packages.Names.{names_view}
use Rattle.filter_inputs.proofs.packages.Matching.{MarksPassed, accepts_at}
use Rattle.filter_inputs.proofs.packages.graph.PackageGraph.matched.Given as goal

abbrev pub invariant-loop-place : goal.invariant-loop-place
invariant-loop-place g l = record {
  same_length : vec_len l.marks ≡ length l.self.names.items;
  passed : MarksPassed l.self.members.items
      (accepts_at (names_view l.self.names.items) (g.M.NameMatcher.accepts l.matcher)) l.marks.items l.place-index;
}

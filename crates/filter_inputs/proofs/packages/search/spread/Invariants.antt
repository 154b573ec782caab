use Rattle.std.proofs.Common.{◌≡◌, map, vec_len}
use Rattle.filter_inputs.specs.Packages.Edges.{oriented}
use Rattle.filter_inputs.proofs.packages.Spreading.{IsSpread}
use Rattle.filter_inputs.proofs.packages.search.spread.Given as goal

abbrev pub invariant-loop-edge : goal.invariant-loop-edge
invariant-loop-edge l = record {
  same_length : vec_len l.marks ≡ vec_len l.initial.marks;
  spread : IsSpread (map (oriented l.direction) l.edges) l.initial.marks.items l.marks.items l.edge-index l.has_grown;
}

use Rattle.std.proofs.Common.{take}
use Rattle.std.specs.Prelude.{flat_map}
use Rattle.rinqebo_findings.specs.Profiles.{AreNew, names_in}
use Rattle.rinqebo_findings.proofs.parents.profile_names.Given as goal

-- the names of the layers so far came
abbrev pub invariant-loop-layer : goal.invariant-loop-layer
invariant-loop-layer l =
    AreNew (flat_map names_in (take l.layer-index l.layers)) l.seen l.names.items

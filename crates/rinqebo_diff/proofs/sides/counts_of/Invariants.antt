use Rattle.std.proofs.Common.{map, take}
use Rattle.std.specs.List.{AllZip}
use Rattle.filter_inputs.specs.Lists.ListView.{listed_view}
use Rattle.rinqebo_diff.specs.Differences.{IsCountOf}
use Rattle.rinqebo_diff.proofs.sides.counts_of.Given as goal

-- the binaries so far have their counts
abbrev pub invariant-loop-binary : goal.invariant-loop-binary
invariant-loop-binary l = AllZip IsCountOf (map listed_view (take l.binary-index l.binaries)) l.counts.items

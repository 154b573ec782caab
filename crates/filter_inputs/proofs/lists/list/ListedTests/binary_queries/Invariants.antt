use Rattle.std.proofs.Common.{◌≡◌, map, take}
use Rattle.nextest_engines.specs.Engines.{binary_view as query_view}
use Rattle.filter_inputs.specs.Lists.ListView.{listed_view}
use Rattle.filter_inputs.proofs.lists.list.ListedTests.binary_queries.Given as goal

-- the binaries so far
abbrev pub invariant-loop-binary : goal.invariant-loop-binary
invariant-loop-binary l =
    map query_view l.queries.items
    ≡ map (λ b. b.binary) (map listed_view (take l.binary-index l.self.binaries.items))

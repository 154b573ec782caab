use Rattle.std.proofs.Common.{◌<◌, ◌≤◌}
use Rattle.nextest_places.specs.Search.{NoDocumentBetween}
use Rattle.nextest_places.specs.Index.{LeadsTo}
use Rattle.nextest_places.proofs.fronts.fronts_behind.Given as goal

abbrev pub invariant-up : goal.invariant-up
invariant-up l =
    (l.low ≤ l.high) × (l.high < l.last) × NoDocumentBetween l.fronts l.high l.last
    × LeadsTo l.fronts l.low l.found.items l.high

use Rattle.std.proofs.Common.{◌≡◌, drop}
use Rattle.toml_parser.specs.Reading.{path_view}
use Rattle.nextest_places.specs.Entries.{aim_along}
use Rattle.nextest_places.proofs.entry.aim_of.Given as goal

abbrev pub invariant-loop-at : goal.invariant-loop-at
invariant-loop-at l =
    aim_along l.kind (path_view (drop l.at l.parts)) (drop l.at l.path) ≡ aim_along l.kind (path_view l.parts) l.path

use Rattle.std.proofs.Common.{◌≡◌, ◌++◌, drop}
use Rattle.toml_parser.specs.Reading.{path_view}
use Rattle.nextest_places.proofs.walk.copies_of.Given as goal

abbrev pub invariant-loop-part : goal.invariant-loop-part
invariant-loop-part l = path_view l.copies.items ++ path_view (drop l.part-index l.parts) ≡ path_view l.parts

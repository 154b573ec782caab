use Rattle.std.proofs.Common.{◌≡◌, length}
use denote.Text.{Utf8}
use denote.Shadow.{shadow}
use Rattle.toml_parser.specs.Reading.{path_view}
use Rattle.nextest_places.specs.Lines.{after_lines}
use Rattle.nextest_places.proofs.Walking.{IsAt}
use Rattle.nextest_places.proofs.walk.entries_of.Given as goal

abbrev pub invariant-pieces : goal.invariant-pieces
invariant-pieces l =
    shadow (Utf8 l.rest) × (l.rest ≡ after_lines l.low l.text)
    × IsAt l.text l.low l.entries.items (path_view l.section.items)

abbrev pub decreases-pieces : goal.decreases-pieces
decreases-pieces l = length l.rest

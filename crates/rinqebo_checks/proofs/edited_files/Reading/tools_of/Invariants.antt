use Rattle.std.proofs.Common.{◌≡◌, ◌++◌, drop, map}
use Rattle.nextest_sources.specs.Sources.{tool_file_view}
use Rattle.rinqebo_checks.specs.ReadAgain.{reading_view, tools_again}
use Rattle.rinqebo_checks.proofs.edited_files.Reading.tools_of.Given as goal

-- what is read so far, and of the tools that are left
abbrev pub invariant-loop-index : goal.invariant-loop-index
invariant-loop-index l =
    map tool_file_view l.read.items
    ++ tools_again (reading_view l.self) l.layers (map tool_file_view (drop l.index l.tools))
    ≡ tools_again (reading_view l.self) l.layers (map tool_file_view l.tools)

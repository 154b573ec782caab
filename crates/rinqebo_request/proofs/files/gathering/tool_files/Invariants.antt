use Rattle.std.proofs.Common.{map, take}
use Rattle.std.specs.List.{AllZip}
use Rattle.nextest_sources.specs.Sources.{tool_file_view}
use Rattle.rinqebo_request.specs.Files.Gathering.{IsToolFile}
use Rattle.rinqebo_request.proofs.files.gathering.tool_files.Given as goal

-- the files of the options so far
abbrev pub invariant-loop-named : goal.invariant-loop-named
invariant-loop-named g l =
    AllZip (IsToolFile (g.R.FileReader.MayGive l.files)) (take l.named-index l.tools) (map tool_file_view l.read.items)

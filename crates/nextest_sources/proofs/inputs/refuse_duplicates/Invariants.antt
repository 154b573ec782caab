use Rattle.std.proofs.Common.{◌≡◌, ℕ, List, [], map, take, drop}
use Rattle.nextest_sources.specs.InputFaults.{first_path}
use Rattle.nextest_sources.specs.Sources.{tool_file_view}
use Rattle.nextest_sources.proofs.Duplicates.{duplicate_fault}
use Rattle.nextest_sources.proofs.FirstPaths.{path_in}
use Rattle.nextest_sources.proofs.inputs.refuse_duplicates.Given as goal

-- the first path of each tool so far, and that no fault was met
abbrev pub invariant-loop-file : goal.invariant-loop-file
invariant-loop-file l =
    let before = map tool_file_view (take l.file-index l.tools) in
    ((q : List ℕ) → path_in l.first_path_by_tool q ≡ first_path q before)
    × (duplicate_fault [] (map tool_file_view l.tools)
    ≡ duplicate_fault before (map tool_file_view (drop l.file-index l.tools)))

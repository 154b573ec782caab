use Rattle.std.proofs.Common.{◌≡◌, map, take}
use Rattle.nextest_sources.specs.InputsView.{input_view}
use Rattle.nextest_sources.specs.Inputs.{tool_input}
use Rattle.nextest_sources.specs.Sources.{tool_file_view}
use Rattle.nextest_sources.proofs.inputs.collect_inputs.Given as goal

-- the inputs so far
abbrev pub invariant-loop-file : goal.invariant-loop-file
invariant-loop-file l = map input_view l.inputs.items
    ≡ map tool_input (map tool_file_view (take l.file-index l.files.tools.now))

use Rattle.std.proofs.Common.{◌≡◌, ◌++◌, map, reverse, ap, ◌∙◌}
use Rattle.std.proofs.lemmas.List.{take_all}
use Rattle.nextest_sources.specs.InputsView.{input_view}
use Rattle.nextest_sources.specs.Inputs.{inputs_view, selected_inputs, tool_input}
use Rattle.nextest_sources.specs.Sources.{tool_file_view}
use Rattle.nextest_sources.proofs.Lists.{map_reversed}
use Rattle.nextest_sources.proofs.inputs.collect_inputs.Goals as goal

pub returns : goal.returns
returns c =
    let tools = c.args.files.now.tools.now in
    let all : map input_view c.loop-file.inputs.items ≡ map tool_input (map tool_file_view tools) =
    c.loop-file.invariant ∙ ap (λ ts. map tool_input (map tool_file_view ts))
    (take_all c.loop-file.file-index tools c.loop-file-test.false) in
    c.in_ok-add_selected.ensures
    ∙ ap (λ is. is ++ selected_inputs (inputs_view c.args.files.now))
    (ap (map input_view) c.reverse.ensures.items ∙ map_reversed input_view c.loop-file.inputs.items
    ∙ ap (λ is. reverse is) all)

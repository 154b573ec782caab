use Rattle.std.proofs.Common.{◌≡◌, List, [], map, IfOk, ap, subst, ◌∙◌}
use Rattle.std.specs.List.{flat_map}
use Rattle.nextest_engines.specs.Readings.{readings_view}
use Rattle.nextest_rules.specs.KnownView.{features_view}
use Rattle.nextest_sources.specs.Endings.{Ran, passed, error_view, ending}
use Rattle.nextest_sources.specs.InputFaults.{tool_steps}
use Rattle.nextest_sources.specs.Inputs.{Input, inputs_of, inputs_view, repository_of, source_texts_of}
use Rattle.nextest_sources.specs.InputsView.{input_view}
use Rattle.nextest_sources.specs.Sources.{source_view}
use Rattle.nextest_sources.proofs.Runs.{ran_exit, ran_first, ran_next}
use Rattle.nextest_load.specs.Parts.{AreParts}
use Rattle.nextest_load.specs.Steps.{input_steps, merged_steps}
use Rattle.nextest_load.proofs.Tools.{ran_tools, spent_first}
use Rattle.nextest_load.proofs.Wholes.{parts_are, steps_same}
use Rattle.nextest_load.proofs.load.read_and_merge.Goals as goal

pub returns-in_err-refuse_duplicates-clause-ran : goal.returns-in_err-refuse_duplicates-clause-ran
returns-in_err-refuse_duplicates-clause-ran g c =
    let e = c.in_err-refuse_duplicates.field-0.0 in
    let told = g.W.ConfigWarnings.warnings c.args.warnings.now in
    let tools = (inputs_view c.args.inputs.now).tools in
    ran_exit _ told told _ e c.from_residual.ensures.1
    (ran_first (tool_steps [] tools) _ told told e
    (ran_tools tools told (error_view e) c.in_err-refuse_duplicates.ensures))

pub returns-in_err-repository-clause-ran : goal.returns-in_err-repository-clause-ran
returns-in_err-repository-clause-ran g c =
    let told = g.W.ConfigWarnings.warnings c.args.warnings.now in
    let tools = (inputs_view c.args.inputs.now).tools in
    ran_next (tool_steps [] tools) _ told told told _
    (ran_tools tools told passed c.in_ok-refuse_duplicates.ensures)
    (spent_first _ told _ c.from_residual-in_err-repository.ensures.1)

pub returns-in_err-sources-clause-ran : goal.returns-in_err-sources-clause-ran
returns-in_err-sources-clause-ran g c =
    let told = g.W.ConfigWarnings.warnings c.args.warnings.now in
    let tools = (inputs_view c.args.inputs.now).tools in
    ran_next (tool_steps [] tools) _ told told told _
    (ran_tools tools told passed c.in_ok-refuse_duplicates.ensures)
    (spent_first _ told _ c.from_residual-in_err-sources.ensures.1)

pub returns-in_err-loaded-clause-ran : goal.returns-in_err-loaded-clause-ran
returns-in_err-loaded-clause-ran g c =
    let engines = readings_view g.F.Filters g.S.Specs c.args.pcx.now in
    let features = features_view c.args.inputs.now.features.now in
    let files = inputs_view c.args.inputs.now in
    let e = c.in_err-loaded.field-0.0 in
    let told = g.W.ConfigWarnings.warnings c.args.warnings.now in
    let new = g.W.ConfigWarnings.warnings c.read_layers.new.warnings in
    let is : map input_view c.deref.result.now ≡ inputs_of files =
    ap (map input_view) c.deref.ensures.value ∙ c.in_ok-sources.ensures in
    let P : List Input → Type 0 = λ inputs. Ran (input_steps engines features [] inputs) told new (error_view e) in
    ran_exit _ told new _ e c.from_residual-in_err-loaded.ensures.1
    (ran_next (tool_steps [] files.tools) _ told told new (error_view e)
    (ran_tools files.tools told passed c.in_ok-refuse_duplicates.ensures)
    (ran_first (input_steps engines features [] (inputs_of files)) _ told new e
    (subst P is c.in_err-loaded.ensures.ran)))

pub returns-clause-ran : goal.returns-clause-ran
returns-clause-ran g c =
    let engines = readings_view g.F.Filters g.S.Specs c.args.pcx.now in
    let features = features_view c.args.inputs.now.features.now in
    let files = inputs_view c.args.inputs.now in
    let told = g.W.ConfigWarnings.warnings c.args.warnings.now in
    let new = g.W.ConfigWarnings.warnings c.read_layers.new.warnings in
    let all = map input_view c.deref.result.now in
    let at = source_view c.in_ok-repository.repository in
    let is : all ≡ inputs_of files = ap (map input_view) c.deref.ensures.value ∙ c.in_ok-sources.ensures in
    ran_next (tool_steps [] files.tools) _ told told new _
    (ran_tools files.tools told passed c.in_ok-refuse_duplicates.ensures)
    (steps_same engines features all (inputs_of files) at (repository_of files) is c.in_ok-repository.ensures
    (ran_next (input_steps engines features [] all) (merged_steps at (flat_map source_texts_of all)) told new
    new (ending c.merge.result)
    c.in_ok-loaded.ensures.ran
    (c.merge.ensures.ran (flat_map source_texts_of all) c.in_ok-loaded.ensures.loaded.merged
    c.in_ok-loaded.ensures.loaded.kept new)))

pub returns-clause-parts : goal.returns-clause-parts
returns-clause-parts g c =
    let engines = readings_view g.F.Filters g.S.Specs c.args.pcx.now in
    let files = inputs_view c.args.inputs.now in
    let all = map input_view c.deref.result.now in
    let ss = flat_map source_texts_of all in
    let is : all ≡ inputs_of files = ap (map input_view) c.deref.ensures.value ∙ c.in_ok-sources.ensures in
    let P : List Input → Type 0 =
    λ inputs. IfOk c.merge.result
    (AreParts g.F.Filters.meaning g.S.Specs.spec_meaning engines (flat_map source_texts_of inputs)) in
    subst P is
    (parts_are g.F.Filters.meaning g.S.Specs.spec_meaning engines ss c.in_ok-loaded.loaded c.merge.result
    c.in_ok-loaded.ensures.loaded
    (c.merge.ensures.parts ss c.in_ok-loaded.ensures.loaded.merged c.in_ok-loaded.ensures.loaded.kept
    c.in_ok-loaded.ensures.loaded.names)
    c.merge.ensures.layers)

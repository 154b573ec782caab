use Rattle.std.proofs.Common.{[], List, Option, map, option_map, subst}
use Rattle.nextest_load.specs.Load.{IsLoad}
use Rattle.nextest_load.specs.Meaning.{loaded_meaning}
use Rattle.nextest_rules.specs.KnownView.{features_view}
use Rattle.nextest_sources.specs.Sources.{InputFile, file_view, tool_file_view}
use Rattle.nextest_sources.specs.Warnings.{Warning}
use Rattle.nextest_sources.specs.WarningsView.{warnings_view}
use Rattle.nextest_sources.specs.declared.sources.ToolConfigFile.{ToolConfigFile}
use Rattle.platform_language.specs.Expressions.{spec_view}
use Rattle.rinqebo_session.specs.Readings.{filter_meaning, readings}
use Rattle.rinqebo_session.proofs.loading.config_of.Goals as goal

pub returns : goal.returns
returns c = λ empty.
    let call = c.load in
    let asked = c.args.asked.now in
    let selected = c.selection_of in
    let told = warnings_view call.new.warnings in
    let named = option_map (λ file. file_view file.now) selected.result.config_file in
    let organisation = option_map (λ file. file_view file.now) selected.result.organisation_file in
    let Loads : Option InputFile → Option InputFile → List ToolConfigFile → List Warning → Type 0 =
    λ explicit organisation tools before. IsLoad (loaded_meaning filter_meaning spec_view)
    (readings c.args.filters.now) (features_view c.args.features.now)
    (record {
      shared = file_view asked.paths.shared;
      explicit = explicit;
      organisation = organisation;
      tools = map tool_file_view tools;
    }) before told call.result in
    let own = option_map file_view asked.organisation_file in
    subst (λ explicit. Loads explicit own asked.tools.items []) selected.ensures.config_file
    (subst (λ org. Loads named org asked.tools.items []) selected.ensures.organisation
    (subst (λ tools. Loads named organisation tools []) c.deref.ensures.value
    (subst (Loads named organisation c.deref.result.now) empty call.ensures.loads)))

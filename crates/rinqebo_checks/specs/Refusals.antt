-- The findings of a refusal of files.
use Rattle.std.specs.List.{position}
use Rattle.std.specs.Option.{option_and_then}
use Rattle.std.specs.Prelude.{ℕ, List, [], ◌∷◌, ◌++◌, codes, map, Option, None, Some, string_bytes}
use Rattle.nextest_elements.specs.IdentifierText.{tool_name_text}
use Rattle.nextest_elements.specs.declared.identifier.tool_name.ToolName.{ToolName}
use Rattle.nextest_places.specs.Spans.Paths as paths
use Rattle.nextest_sources.specs.Errors.{source_of}
use Rattle.nextest_sources.specs.Sources.{Source, owner_of_source, path_view}
use Rattle.nextest_sources.specs.declared.error.ConfigParseError.{ConfigParseError}
use Rattle.nextest_sources.specs.declared.error.ConfigParseErrorKind.{ConfigParseErrorKind}
use Rattle.nextest_sources.specs.declared.error.ConfigParseErrorKind.TheVariants as kinds
use Rattle.nextest_sources.specs.declared.sources.ConfigPath.{ConfigPath}
use Rattle.nextest_sources.specs.declared.sources.ReadOutcome.{ReadOutcome}
use Rattle.nextest_sources.specs.declared.sources.ReadOutcome.TheVariants as outcomes
use Rattle.rinqebo_report.specs.declared.codes.code.Code.TheVariants.{SecondToolFile, TwoScriptTables, UnreadableFile}
use Rattle.rinqebo_report.specs.declared.finding.Finding.{Finding}
use Rattle.rinqebo_request.specs.Files.Origins.{reported_file}
use Rattle.rinqebo_request.specs.Files.RuleTables.{lies_at}
use Rattle.rinqebo_request.specs.declared.files.layers.Layer.{Layer}
use Rattle.rinqebo_request.specs.declared.files.places.SpanPart.TheVariants as parts
use Rattle.rinqebo_faults.specs.Edits.{names_view}
use Rattle.rinqebo_faults.specs.declared.left_out.LeftOut.{LeftOut}
use Rattle.rinqebo_findings.specs.Compile.{compile_faults}
use Rattle.rinqebo_findings.specs.Later.{AddsElement, AddsLater, AddsScriptErrors, AddsUnknownGroups, at, document_at, feature_faults, group_faults, LaterFault, no_toml, of_file, parent_faults, script_faults}
use Rattle.rinqebo_findings.specs.LaterWords.{own_prefix, says}
use Rattle.rinqebo_findings.specs.Profiles.{profile_names}
use Rattle.rinqebo_findings.specs.declared.foreign.ScriptFault.TheVariants as faults

-- a file that cannot be read, for a reason
abbrev pub unreadable : (reason : List ℕ) → LaterFault
unreadable reason = of_file UnreadableFile (says reason None None)

abbrev pub outcome_faults : ReadOutcome → List LaterFault
outcome_faults (outcomes.Text text) = []
outcome_faults outcomes.NotFound = unreadable (codes "no such file") ∷ []
outcome_faults outcomes.NotADirectory =
    unreadable (codes "a part of its path is no directory") ∷ []
outcome_faults (outcomes.Failed message) = unreadable (string_bytes message) ∷ []

-- a second file of a tool
abbrev pub second_file : ToolName → (first : ConfigPath) → LaterFault
second_file tool first =
    of_file SecondToolFile (says (codes "the tool `" ++ (tool_name_text tool
    ++ (codes "` provides `" ++ (path_view first ++ codes "`, too")))) None None)

-- scripts under the old key and under the new one
abbrev pub two_tables : LaterFault
two_tables =
    at parts.Key TwoScriptTables (paths.key (codes "scripts") ∷ [])
    (says (codes "there are `scripts` and its old form, `script`") None
    (Some (codes "move the scripts of `script` to `scripts.setup`")))

-- The findings of a refusal of a kind are added: one of each thing that is refused, in the order of
-- the refusal, but for names that may be those whose definitions are left out.
abbrev pub AddsRefusal :
    List Layer → Option ℕ → LeftOut → ConfigParseErrorKind → (old new : List Finding) → Type 0
AddsRefusal layers source left_out (kinds.DuplicateToolConfigFile tool first) old new =
    AddsLater layers source (second_file tool first ∷ []) old new
AddsRefusal layers source left_out (kinds.ReadError outcome) old new =
    AddsLater layers source (outcome_faults outcome) old new
AddsRefusal layers source left_out (kinds.BuildError message) old new =
    AddsLater layers source (no_toml layers source (string_bytes message) ∷ []) old new
AddsRefusal layers source left_out (kinds.DeserializeError fault) old new =
    AddsElement layers source fault.cause old new
AddsRefusal layers source left_out (kinds.InvalidTestGroupsDefined groups) old new =
    AddsLater layers source (group_faults (own_prefix layers source) groups.keys) old new
AddsRefusal layers source left_out (kinds.InvalidTestGroupsDefinedByTool groups) old new =
    AddsLater layers source (group_faults (own_prefix layers source) groups.keys) old new
AddsRefusal layers source left_out (kinds.InvalidTestGroupsDefinedByOrganisation groups) old new =
    AddsLater layers source (group_faults (own_prefix layers source) groups.keys) old new
AddsRefusal layers source left_out kinds.BothScriptAndScriptsDefined old new =
    AddsLater layers source (two_tables ∷ []) old new
AddsRefusal layers source left_out (kinds.ExperimentalFeaturesNotEnabled features) old new =
    AddsLater layers source (feature_faults (document_at layers source) features.items) old new
AddsRefusal layers source left_out (kinds.DuplicateConfigScriptNames ids) old new =
    AddsLater layers source
    (script_faults (document_at layers source) (own_prefix layers source) faults.Twice ids.keys)
    old new
AddsRefusal layers source left_out (kinds.InvalidConfigScriptsDefined ids) old new =
    AddsLater layers source
    (script_faults (document_at layers source) (own_prefix layers source) faults.Foreign ids.keys)
    old new
AddsRefusal layers source left_out (kinds.InvalidConfigScriptsDefinedByTool ids) old new =
    AddsLater layers source
    (script_faults (document_at layers source) (own_prefix layers source) faults.Foreign ids.keys)
    old new
AddsRefusal layers source left_out (kinds.InvalidConfigScriptsDefinedByOrganisation ids) old new =
    AddsLater layers source
    (script_faults (document_at layers source) (own_prefix layers source) faults.Foreign ids.keys)
    old new
AddsRefusal layers source left_out (kinds.InheritanceErrors errors) old new =
    AddsLater layers source (parent_faults (profile_names layers) errors.items) old new
AddsRefusal layers source left_out (kinds.CompileErrors errors) old new =
    AddsLater layers source (compile_faults (document_at layers source) errors.items) old new
AddsRefusal layers source left_out (kinds.UnknownTestGroups errors known_groups) old new =
    AddsUnknownGroups layers source (names_view left_out.groups)
    (map string_bytes known_groups.keys) errors.items old new
AddsRefusal layers source left_out (kinds.ProfileScriptErrors errors known_scripts) old new =
    AddsScriptErrors layers source (names_view left_out.scripts)
    (map string_bytes known_scripts.keys) errors old new
AddsRefusal layers source left_out kinds.Memory old new = ⊥

-- the position among layers of the file of a source: the first one of the same owner at the same
-- path
abbrev pub position_of : List Layer → Source → Option ℕ
position_of layers source =
    position
    (λ layer. lies_at (owner_of_source source.kind) source.path (reported_file layer.source)) layers

-- the position of the file that a refusal is about, if it is about one
abbrev pub refused_position : List Layer → ConfigParseError → Option ℕ
refused_position layers error = option_and_then (position_of layers) (source_of error)

-- findings report a refusal of files without what is left out, and nothing else
abbrev pub ReportRefusal : List Layer → LeftOut → ConfigParseError → List Finding → Type 0
ReportRefusal layers left_out error findings =
    AddsRefusal layers (refused_position layers error) left_out error.kind [] findings

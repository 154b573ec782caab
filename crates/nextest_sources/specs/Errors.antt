-- What contracts see of refusals: their source and their cause.
use Rattle.std.specs.Prelude.{Bool, false, map, Option, Some, None, option_map, string_bytes}
use Rattle.std.specs.BTreeSet.{BTreeSet, contains_text}
use Rattle.nextest_engines.specs.Engines.{refusal_view}
use Rattle.nextest_tree.specs.Reads.{fault_view}
use Rattle.nextest_tree.specs.Schema.{is_one_of}
use Rattle.nextest_elements.specs.TestGroup.{custom_group_text}
use Rattle.nextest_elements.specs.declared.test_group.CustomTestGroup.{CustomTestGroup}
use Rattle.nextest_inheritance.specs.View.{inherits_error_view}
use Rattle.nextest_scripts.specs.ScriptId.{script_text}
use Rattle.nextest_scripts.specs.declared.script_id.ScriptId.{ScriptId}
use Rattle.nextest_elements.specs.IdentifierText.{tool_name_text}
use Rattle.nextest_elements.specs.Owner.{no_owner, organisation_owner, some_tool}
use Rattle.nextest_sources.specs.Causes.{NameSet, RuleSection, in_default_filter, in_override, in_script_rule, CompileCause, no_constraint, two_filters, parse_refusals, CompileFault, UnknownGroup, UnknownScript, WrongScript, ListFilter, ScriptFaults, LoadCause, duplicate_tool, no_text, no_document, bad_element, ill_named_groups, ill_named_scripts, both_script_keys, missing_features, both_script_kinds, bad_parents, compile_refusals, unknown_groups, bad_scripts}
use Rattle.nextest_sources.specs.Sources.{Source, source_view, outcome_view, path_view, is_of_organisation}
use Rattle.nextest_sources.specs.declared.error.compile.ConfigCompileError.{ConfigCompileError}
use Rattle.nextest_sources.specs.declared.error.compile.ConfigCompileErrorKind.{ConfigCompileErrorKind}
use Rattle.nextest_sources.specs.declared.error.compile.ConfigCompileErrorKind.TheVariants as causes
use Rattle.nextest_sources.specs.declared.error.compile.ConfigCompileSection.{ConfigCompileSection}
use Rattle.nextest_sources.specs.declared.error.compile.ConfigCompileSection.TheVariants as sections
use Rattle.nextest_sources.specs.declared.error.groups.UnknownTestGroupError.{UnknownTestGroupError}
use Rattle.nextest_sources.specs.declared.error.scripts.ProfileUnknownScriptError.{ProfileUnknownScriptError}
use Rattle.nextest_sources.specs.declared.error.scripts.ProfileWrongConfigScriptTypeError.{ProfileWrongConfigScriptTypeError}
use Rattle.nextest_sources.specs.declared.error.scripts.ProfileListScriptUsesRunFiltersError.{ProfileListScriptUsesRunFiltersError}
use Rattle.nextest_sources.specs.declared.error.scripts.ProfileScriptErrors.{ProfileScriptErrors}
use Rattle.nextest_sources.specs.declared.error.ConfigParseError.{ConfigParseError}
use Rattle.nextest_sources.specs.declared.error.ConfigParseErrorKind.{ConfigParseErrorKind}
use Rattle.nextest_sources.specs.declared.error.ConfigParseErrorKind.TheVariants as kinds

-- where something does not compile
abbrev pub section_view : ConfigCompileSection → RuleSection
section_view sections.DefaultFilter = in_default_filter
section_view (sections.Override i) = in_override i
section_view (sections.Script i) = in_script_rule i

-- why something does not compile
abbrev pub compile_cause_view : ConfigCompileErrorKind → CompileCause
compile_cause_view (causes.ConstraintsNotSpecified default_filter) = no_constraint default_filter
compile_cause_view causes.FilterAndDefaultFilterSpecified = two_filters
compile_cause_view (causes.Parse host target filter default_filter) =
    parse_refusals (option_map refusal_view host) (option_map refusal_view target)
    (option_map refusal_view filter) (option_map refusal_view default_filter)

-- what does not compile
abbrev pub compile_error_view : ConfigCompileError → CompileFault
compile_error_view e = record {
  profile = string_bytes e.profile_name;
  section = section_view e.section;
  cause = compile_cause_view e.kind;
}

-- a group that is not known
abbrev pub group_error_view : UnknownTestGroupError → UnknownGroup
group_error_view e =
    record { profile = string_bytes e.profile_name; group = custom_group_text e.name }

-- a script that is not known
abbrev pub unknown_script_view : ProfileUnknownScriptError → UnknownScript
unknown_script_view e =
    record { profile = string_bytes e.profile_name; script = script_text e.name }

-- a script whose kind does not serve its use
abbrev pub wrong_script_view : ProfileWrongConfigScriptTypeError → WrongScript
wrong_script_view e = record {
  profile = string_bytes e.profile_name;
  script = script_text e.name;
  attempted = e.attempted;
  actual = e.actual;
}

-- a list wrapper beside a filter that only a test can decide
abbrev pub list_filter_view : ProfileListScriptUsesRunFiltersError → ListFilter
list_filter_view e = record {
  profile = string_bytes e.profile_name;
  script = script_text e.name;
  filters = map string_bytes e.filters.items;
}

-- what is wrong with the scripts that rules name
abbrev pub script_errors_view : ProfileScriptErrors → ScriptFaults
script_errors_view e = record {
  unknown_scripts = map unknown_script_view e.unknown_scripts.items;
  wrong_scripts = map wrong_script_view e.wrong_script_types.items;
  list_filters = map list_filter_view e.list_scripts_using_run_filters.items;
}

-- a set of groups
abbrev pub group_names_view : BTreeSet CustomTestGroup → NameSet
group_names_view set = is_one_of (map custom_group_text set.keys)

-- a set of scripts
abbrev pub script_names_view : BTreeSet ScriptId → NameSet
script_names_view set = is_one_of (map script_text set.keys)

-- the cause of a kind: a message for people is not part of it, and a refusal of memory has none
abbrev pub cause_view : ConfigParseErrorKind → Option LoadCause
cause_view (kinds.DuplicateToolConfigFile tool first) =
    Some (duplicate_tool (tool_name_text tool) (path_view first))
cause_view (kinds.ReadError outcome) = Some (no_text (outcome_view outcome))
cause_view (kinds.BuildError message) = Some no_document
cause_view (kinds.DeserializeError fault) = option_map bad_element (fault_view fault)
cause_view (kinds.InvalidTestGroupsDefined groups) =
    Some (ill_named_groups no_owner (group_names_view groups))
cause_view (kinds.InvalidTestGroupsDefinedByTool groups) =
    Some (ill_named_groups some_tool (group_names_view groups))
cause_view (kinds.InvalidTestGroupsDefinedByOrganisation groups) =
    Some (ill_named_groups organisation_owner (group_names_view groups))
cause_view kinds.BothScriptAndScriptsDefined = Some both_script_keys
cause_view (kinds.ExperimentalFeaturesNotEnabled features) = Some (missing_features features.items)
cause_view (kinds.DuplicateConfigScriptNames ids) = Some (both_script_kinds (script_names_view ids))
cause_view (kinds.InvalidConfigScriptsDefined ids) =
    Some (ill_named_scripts no_owner (script_names_view ids))
cause_view (kinds.InvalidConfigScriptsDefinedByTool ids) =
    Some (ill_named_scripts some_tool (script_names_view ids))
cause_view (kinds.InvalidConfigScriptsDefinedByOrganisation ids) =
    Some (ill_named_scripts organisation_owner (script_names_view ids))
cause_view (kinds.InheritanceErrors errors) =
    Some (bad_parents (map inherits_error_view errors.items))
cause_view (kinds.CompileErrors errors) =
    Some (compile_refusals (map compile_error_view errors.items))
cause_view (kinds.UnknownTestGroups errors known) =
    Some (unknown_groups (map group_error_view errors.items) (contains_text known))
cause_view (kinds.ProfileScriptErrors errors known) =
    Some (bad_scripts (script_errors_view errors) (contains_text known))
cause_view kinds.Memory = None

-- the source of a refusal
abbrev pub source_of : ConfigParseError → Option Source
source_of e = option_map source_view e.source

-- whether a source, if there is one, is the organisation's
abbrev pub is_organisation_source : Option Source → Bool
is_organisation_source (Some source) = is_of_organisation source.kind
is_organisation_source None = false

-- What does not compile, as findings report it.
use Rattle.std.specs.Prelude.{ℕ, List, [], ◌∷◌, ◌++◌, codes, flat_map, Option, None, Some, string_bytes}
use Rattle.std.specs.Option.{option_and_then}
use Rattle.nextest_engines.specs.declared.refusal.LabeledSpan.{LabeledSpan}
use Rattle.nextest_engines.specs.declared.refusal.Refusal.{Refusal}
use Rattle.nextest_places.specs.Spans.Paths.{PathStep}
use Rattle.nextest_places.specs.Spans.Paths as paths
use Rattle.nextest_sources.specs.declared.error.compile.ConfigCompileError.{ConfigCompileError}
use Rattle.nextest_sources.specs.declared.error.compile.ConfigCompileErrorKind.{ConfigCompileErrorKind}
use Rattle.nextest_sources.specs.declared.error.compile.ConfigCompileErrorKind.TheVariants as kinds
use Rattle.nextest_sources.specs.declared.error.compile.ConfigCompileSection.{ConfigCompileSection}
use Rattle.nextest_sources.specs.declared.error.compile.ConfigCompileSection.TheVariants as sections
use Rattle.nextest_tree.specs.Node.{Node}
use Rattle.rinqebo_report.specs.declared.codes.code.Code.{Code}
use Rattle.rinqebo_report.specs.declared.codes.code.Code.TheVariants.{InvalidFilter, InvalidPlatform, RuleWithoutCondition, TwoFilters}
use Rattle.rinqebo_request.specs.Files.RuleTables.{host_spec, profile_node, rule_node, target_spec, text_in}
use Rattle.rinqebo_request.specs.declared.files.places.SpanPart.TheVariants as parts
use Rattle.rinqebo_faults.specs.Paths.{section_path}
use Rattle.rinqebo_findings.specs.Later.{at, in_text, LaterFault}
use Rattle.rinqebo_findings.specs.LaterWords.{says, says_alone}

-- the table of a section in a tree: that of the profile, or of a rule of it
abbrev pub section_in : List ℕ → ConfigCompileSection → Node → Option Node
section_in profile sections.DefaultFilter tree = profile_node profile tree
section_in profile (sections.Override index) tree = rule_node profile (codes "overrides") index tree
section_in profile (sections.Script index) tree = rule_node profile (codes "scripts") index tree

-- the same in a file
abbrev pub section_node : Option Node → List ℕ → ConfigCompileSection → Option Node
section_node file profile section = option_and_then (section_in profile section) file

-- the path of the table of a section
abbrev pub table_path : List ℕ → ConfigCompileSection → List PathStep
table_path profile sections.DefaultFilter =
    paths.key (codes "profile") ∷ paths.key profile ∷ []
table_path profile (sections.Override index) = section_path profile (sections.Override index)
table_path profile (sections.Script index) = section_path profile (sections.Script index)

-- the keys at which a rule writes what the platform has to meet which a binary runs on: `platform`
-- where that is a text
abbrev pub target_keys : Option (List ℕ) → List PathStep
target_keys (Some text) = paths.key (codes "platform") ∷ []
target_keys None = paths.key (codes "platform") ∷ paths.key (codes "target") ∷ []

-- a text at a path that an engine refuses with a message: the part of it that is refused, if the
-- engine names one
abbrev pub refused_part :
    Code → List PathStep → (text message : List ℕ) → Option LabeledSpan → LaterFault
refused_part code path text message None = at parts.Value code path (says message None None)
refused_part code path text message (Some span) = in_text code path text span

-- a text at a path, if there is one and an engine refuses it
abbrev pub text_fault : Code → List PathStep → Option (List ℕ) → Option Refusal → List LaterFault
text_fault code path None refusal = []
text_fault code path (Some text) None = []
text_fault code path (Some text) (Some refusal) =
    refused_part code path text (string_bytes refusal.message) refusal.span ∷ []

-- the host of a section
abbrev pub host_fault : List PathStep → Option Node → Option Refusal → List LaterFault
host_fault path rule refusal =
    text_fault InvalidPlatform
    (path ++ paths.key (codes "platform") ∷ paths.key (codes "host") ∷ []) (host_spec rule) refusal

-- the target of a section
abbrev pub target_fault : List PathStep → Option Node → Option Refusal → List LaterFault
target_fault path rule refusal =
    text_fault InvalidPlatform (path ++ target_keys (text_in (codes "platform") rule))
    (target_spec rule) refusal

-- the filter of a section at a key
abbrev pub filter_fault :
    List PathStep → Option Node → (key : List ℕ) → Option Refusal → List LaterFault
filter_fault path rule key refusal =
    text_fault InvalidFilter (path ++ paths.key key ∷ []) (text_in key rule) refusal

-- the texts of a section that the engines refuse: its host, its target, its filter and its default
-- filter
abbrev pub parsed_faults : List PathStep → Option Node
    → (host target filter default_filter : Option Refusal) → List LaterFault
parsed_faults path rule host target filter default_filter =
    host_fault path rule host
    ++ (target_fault path rule target
    ++ (filter_fault path rule (codes "filter") filter
    ++ filter_fault path rule (codes "default-filter") default_filter))

abbrev pub texts_of : List PathStep → Option Node → ConfigCompileErrorKind → List LaterFault
texts_of path rule (kinds.ConstraintsNotSpecified has_default) = []
texts_of path rule kinds.FilterAndDefaultFilterSpecified = []
texts_of path rule (kinds.Parse host target filter default_filter) =
    parsed_faults path rule host target filter default_filter

-- the texts that are refused of what an error is about
abbrev pub refused_texts : Option Node → ConfigCompileError → List LaterFault
refused_texts file error =
    texts_of (table_path (string_bytes error.profile_name) error.section)
    (section_node file (string_bytes error.profile_name) error.section) error.kind

-- the code of what is wrong with a whole section
abbrev pub section_code : ConfigCompileErrorKind → Code
section_code (kinds.ConstraintsNotSpecified has_default) = RuleWithoutCondition
section_code kinds.FilterAndDefaultFilterSpecified = TwoFilters
section_code (kinds.Parse host target filter default_filter) = InvalidFilter

-- a whole section: no contract says how its kind of error is displayed
abbrev pub section_fault : ConfigCompileError → LaterFault
section_fault error =
    at parts.Value (section_code error.kind)
    (section_path (string_bytes error.profile_name) error.section) says_alone

-- the faults there are, or else another one
abbrev pub or_else : List LaterFault → LaterFault → List LaterFault
or_else [] other = other ∷ []
or_else (fault ∷ faults) other = fault ∷ faults

-- what does not compile: each text that is refused, or else the whole section
abbrev pub compile_fault : Option Node → ConfigCompileError → List LaterFault
compile_fault file error = or_else (refused_texts file error) (section_fault error)

abbrev pub compile_faults : Option Node → List ConfigCompileError → List LaterFault
compile_faults file errors = flat_map (compile_fault file) errors

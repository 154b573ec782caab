-- What contracts see of files, outcomes and sources.
use Rattle.std.specs.Prelude.{ℕ, List, Bool, true, false, Option, string_bytes}
use Rattle.nextest_elements.specs.IdentifierText.{tool_name_text}
use Rattle.nextest_elements.specs.Owner.{Owner, nobody, the_organisation, a_tool, is_the_organisation, tool_of_owner}
use Rattle.nextest_sources.specs.declared.sources.ConfigPath.{ConfigPath}
use Rattle.nextest_sources.specs.declared.sources.ReadOutcome.{ReadOutcome}
use Rattle.nextest_sources.specs.declared.sources.ReadOutcome.TheVariants as outcomes
use Rattle.nextest_sources.specs.declared.sources.FileInput.{FileInput}
use Rattle.nextest_sources.specs.declared.sources.ToolConfigFile.{ToolConfigFile}
use Rattle.nextest_sources.specs.declared.sources.ConfigSource.{ConfigSource}
use Rattle.nextest_sources.specs.declared.sources.ConfigSourceKind.{ConfigSourceKind}
use Rattle.nextest_sources.specs.declared.sources.ConfigSourceKind.TheVariants as kinds

-- the text of a path
abbrev pub path_view : ConfigPath → List ℕ
path_view p = string_bytes p.path

-- what kind of source a file is: one of a tool, the organisation's, or the repository's, named by a
-- user or looked for
pub data SourceKind : Type 0 where
  tool_file : (tool : List ℕ) → SourceKind
  organisation_file : SourceKind
  explicit_file : SourceKind
  discovered_file : SourceKind

-- what contracts see of a kind of source
abbrev pub source_kind_view : ConfigSourceKind → SourceKind
source_kind_view (kinds.Tool tool) = tool_file (tool_name_text tool)
source_kind_view kinds.Organisation = organisation_file
source_kind_view kinds.ExplicitRepository = explicit_file
source_kind_view kinds.DiscoveredRepository = discovered_file

-- The owner of a source: a tool and the organisation own their files, and nobody the repository's.
abbrev pub owner_of_source : SourceKind → Owner
owner_of_source (tool_file tool) = a_tool tool
owner_of_source organisation_file = the_organisation
owner_of_source explicit_file = nobody
owner_of_source discovered_file = nobody

-- Whether a file may be missing: it may where it is only looked for.
abbrev pub may_be_missing : SourceKind → Bool
may_be_missing discovered_file = true
may_be_missing _ = false

-- the tool of a source, where it is one of a tool
abbrev pub tool_of_source : SourceKind → Option (List ℕ)
tool_of_source kind = tool_of_owner (owner_of_source kind)

-- whether a source is the organisation's
abbrev pub is_of_organisation : SourceKind → Bool
is_of_organisation kind = is_the_organisation (owner_of_source kind)

-- a source: the path of a file, and what kind of source it is
pub record Source : Type 0 where
  pub path : List ℕ
  pub kind : SourceKind

-- what contracts see of a source
abbrev pub source_view : ConfigSource → Source
source_view s = record { path = path_view s.path; kind = source_kind_view s.kind }

-- the outcome of reading a file
pub data Outcome : Type 0 where
  text : List ℕ → Outcome
  not_found : Outcome
  not_a_directory : Outcome
  failed : (message : List ℕ) → Outcome

-- what contracts see of an outcome
abbrev pub outcome_view : ReadOutcome → Outcome
outcome_view (outcomes.Text t) = text (string_bytes t)
outcome_view outcomes.NotFound = not_found
outcome_view outcomes.NotADirectory = not_a_directory
outcome_view (outcomes.Failed message) = failed (string_bytes message)

-- a file: its path, and the outcome of reading it
pub record InputFile : Type 0 where
  pub path : List ℕ
  pub outcome : Outcome

-- what contracts see of a file
abbrev pub file_view : FileInput → InputFile
file_view f = record { path = path_view f.path; outcome = outcome_view f.outcome }

-- a file that a tool provides
pub record ToolFile : Type 0 where
  pub tool : List ℕ
  pub file : InputFile

-- what contracts see of a tool's file
abbrev pub tool_file_view : ToolConfigFile → ToolFile
tool_file_view t = record { tool = tool_name_text t.tool; file = file_view t.config_file }

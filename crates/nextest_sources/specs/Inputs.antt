-- The files that a load is given, and the sources that it makes of them.
use Rattle.std.specs.Prelude.{ℕ, List, [], ◌∷◌, ◌++◌, Option, Some, None, map, reverse, option_map}
use Rattle.std.specs.Borrow.{Bor}
use Rattle.std.specs.List.{flat_map}
use Rattle.nextest_sources.specs.declared.sources.ConfigFileSelection.{ConfigFileSelection}
use Rattle.nextest_sources.specs.declared.sources.ConfigInputs.{ConfigInputs}
use Rattle.nextest_sources.specs.declared.sources.FileInput.{FileInput}
use Rattle.nextest_sources.specs.declared.sources.ToolConfigFile.{ToolConfigFile}
use Rattle.nextest_sources.specs.Sources.{Source, SourceKind, tool_file, organisation_file, explicit_file, discovered_file, Outcome, text, not_found, not_a_directory, failed, InputFile, file_view, ToolFile, tool_file_view}

-- All files that a load is given: the repository's where it is looked for, the one that a user
-- names instead, if any, the organisation's, if any, and those of tools, in the order of the
-- arguments.
pub record LoadInputs : Type 0 where
  pub shared : InputFile
  pub explicit : Option InputFile
  pub organisation : Option InputFile
  pub tools : List ToolFile

-- the choice of a file of the repository that a user names, if any, and of nothing else
abbrev pub selecting : Option (Bor FileInput) → ConfigFileSelection
selecting config_file = record { config_file = config_file; organisation_file = None }

-- what contracts see of the files that a load is given
abbrev pub load_inputs_view : FileInput → ConfigFileSelection → List ToolConfigFile → LoadInputs
load_inputs_view shared selection tools = record {
  shared = file_view shared;
  explicit = option_map (λ f. file_view f.now) selection.config_file;
  organisation = option_map (λ f. file_view f.now) selection.organisation_file;
  tools = map tool_file_view tools;
}

-- the files among all that a load is given
abbrev pub inputs_view : ConfigInputs → LoadInputs
inputs_view i = load_inputs_view i.shared.now i.selection i.tools.now

-- a source, and the outcome of reading its file
pub record Input : Type 0 where
  pub source : Source
  pub outcome : Outcome

-- a file as an input of a kind
abbrev pub file_input : SourceKind → InputFile → Input
file_input kind file =
    record { source = record { path = file.path; kind = kind }; outcome = file.outcome }

-- the source of a tool's file
abbrev pub tool_source : ToolFile → Source
tool_source t = record { path = t.file.path; kind = tool_file t.tool }

-- a tool's file as an input
abbrev pub tool_input : ToolFile → Input
tool_input t = record { source = tool_source t; outcome = t.file.outcome }

-- the repository's file: the one that a user names, and else the one that is looked for
abbrev pub repository_input : InputFile → Option InputFile → Input
repository_input shared (Some file) = file_input explicit_file file
repository_input shared None = file_input discovered_file shared

-- the repository's source
abbrev pub repository_of : LoadInputs → Source
repository_of files = (repository_input files.shared files.explicit).source

-- the organisation's file, if there is one
abbrev pub organisation_inputs : Option InputFile → List Input
organisation_inputs (Some file) = file_input organisation_file file ∷ []
organisation_inputs None = []

-- what is above the files of tools, the lowest first: the organisation's file, if there is one,
-- and the repository's
abbrev pub selected_inputs : LoadInputs → List Input
selected_inputs files =
    organisation_inputs files.organisation ++ repository_input files.shared files.explicit ∷ []

-- What a load reads, the lowest first: the files of tools from the last argument to the first, and
-- then what is above them.
abbrev pub inputs_of : LoadInputs → List Input
inputs_of files = reverse (map tool_input files.tools) ++ selected_inputs files

-- a source with the text of its file
pub record SourceText : Type 0 where
  pub source : Source
  pub text : List ℕ

-- a source with its text, if it gave one
abbrev pub texts_at : Source → Outcome → List SourceText
texts_at source (text t) = record { source = source; text = t } ∷ []
texts_at source not_found = []
texts_at source not_a_directory = []
texts_at source (failed message) = []

-- an input with its text, if it gave one
abbrev pub source_texts_of : Input → List SourceText
source_texts_of i = texts_at i.source i.outcome

-- the sources that gave text, the lowest first
abbrev pub sources_in : LoadInputs → List SourceText
sources_in files = flat_map source_texts_of (inputs_of files)

-- What is read in place of the files of a session, of which some is left out.
use Rattle.std.specs.Prelude.{ℕ, ◌+◌, ◌-◌, Bool, List, [], ◌∷◌, length, Option, None, Some, option_map, if◌then◌else◌}
use Rattle.std.specs.BTreeSet.{contains}
use Rattle.std.specs.Ordering.{nat_cmp}
use Rattle.nextest_sources.specs.Inputs.{LoadInputs}
use Rattle.nextest_sources.specs.Sources.{InputFile, Outcome, ToolFile, text}
use Rattle.rinqebo_faults.specs.Edits.{EditsView, edits_view}
use Rattle.rinqebo_findings.specs.Sources.{document_at}
use Rattle.rinqebo_request.specs.declared.files.layers.Layer.{Layer}
pub use Rattle.rinqebo_faults.specs.Edited.{edited_document_text}
use Rattle.rinqebo_checks.specs.declared.edited_files.Reading.{Reading}

-- what files are read without: edits of them, and the places of the sources that are not read
pub record ReadingView : Type 0 where
  pub edits : EditsView
  pub unread : ℕ → Bool

-- what a `Reading` reads without
abbrev pub reading_view : Reading → ReadingView
reading_view reading =
    record { edits = edits_view reading.edits; unread = contains nat_cmp reading.unread }

-- the text that is read in place of the source at a place among layers, if there is one: none of
-- it, if it is not read, or else its document with the edits, if it is one
abbrev pub text_in_place : ReadingView → List Layer → ℕ → Option (List ℕ)
text_in_place reading layers place =
    if reading.unread place then Some []
    else option_map (edited_document_text reading.edits place) (document_at layers (Some place))

-- a text in place of an outcome, if there is one
abbrev pub text_or : Option (List ℕ) → Outcome → Outcome
text_or (Some t) outcome = text t
text_or None outcome = outcome

-- a file, the source at a place, with what is read in place of its text
abbrev pub file_again : ReadingView → List Layer → ℕ → InputFile → InputFile
file_again reading layers place file =
    record {
      path = file.path;
      outcome = text_or (text_in_place reading layers place) file.outcome;
    }

-- the same of the file of a tool
abbrev pub tool_again : ReadingView → List Layer → ℕ → ToolFile → ToolFile
tool_again reading layers place tool =
    record { tool = tool.tool; file = file_again reading layers place tool.file }

-- The same of the files of tools, without those that are not read. The last one is the source at
-- place 1, above the defaults, and each other one is above those behind it.
abbrev pub tools_again : ReadingView → List Layer → List ToolFile → List ToolFile
tools_again reading layers [] = []
tools_again reading layers (tool ∷ tools) =
    let place = length tools + 1 in
    if reading.unread place then tools_again reading layers tools
    else tool_again reading layers place tool ∷ tools_again reading layers tools

-- What is read in place of the files of a load. The repository's file is the highest source, and
-- the organisation's is the one above those of tools.
abbrev pub files_again : ReadingView → List Layer → LoadInputs → LoadInputs
files_again reading layers files =
    let own = length layers - 1 in
    record {
      shared = file_again reading layers own files.shared;
      explicit = option_map (file_again reading layers own) files.explicit;
      organisation = option_map (file_again reading layers (length files.tools + 1))
          files.organisation;
      tools = tools_again reading layers files.tools;
    }

-- The sources of a run: which files they are, their texts and their trees.
use Rattle.std.specs.Prelude.{ℕ, List, ◌∷◌, ◌++◌, [], Option, Some, None, map, option_map, reverse, string_bytes}
use Rattle.std.specs.Option.{option_map_or}
use Rattle.nextest_documents.specs.Text.{tree_of}
use Rattle.nextest_sources.specs.Sources.{Source, SourceKind, outcome_view, path_view, tool_file, organisation_file, explicit_file, discovered_file}
use Rattle.nextest_sources.specs.declared.sources.FileInput.{FileInput}
use Rattle.nextest_sources.specs.declared.sources.ReadOutcome.{ReadOutcome}
use Rattle.nextest_sources.specs.declared.sources.ReadOutcome.TheVariants as outcomes
use Rattle.nextest_sources.specs.declared.sources.ToolConfigFile.{ToolConfigFile}
use Rattle.nextest_tables.specs.Defaults.{defaults}
use Rattle.nextest_elements.specs.IdentifierText.{tool_name_text}
use Rattle.nextest_tree.specs.Node.{Node}
use Rattle.nextest_tree.specs.View.{tree_view}
use Rattle.rinqebo_forms.specs.Features.{tree_read}
use Rattle.rinqebo_request.specs.Files.Origins.{file_of, reported_file}
use Rattle.rinqebo_request.specs.declared.files.gathering.Gathered.{Gathered}
use Rattle.rinqebo_request.specs.declared.files.layers.Layer.{Layer}

-- the text of what was read, if it is one
abbrev pub text_read : ReadOutcome → Option (List ℕ)
text_read (outcomes.Text text) = Some (string_bytes text)
text_read outcomes.NotFound = None
text_read outcomes.NotADirectory = None
text_read (outcomes.Failed message) = None

-- A source: which file it is, if it is one, its text, if one was read, and its tree, if the text is a
-- document.
pub record LayerRead : Type 0 where
  pub file : Option Source
  pub text : Option (List ℕ)
  pub tree : Option Node

-- the tree that a text is, if it is a document, or else the one that is in for a text
abbrev pub tree_by : Option (List ℕ) → Option Node → Option Node
tree_by (Some text) defaults = tree_of text
tree_by None defaults = defaults

-- the tree of a layer's text, if it is a document, or of the defaults
abbrev pub layer_tree : Layer → Option Node
layer_tree layer = tree_by layer.places (option_map tree_view layer.defaults)

-- a layer as code holds it
abbrev pub layer_view : Layer → LayerRead
layer_view layer = record {
  file = reported_file layer.source;
  text = layer.places;
  tree = layer_tree layer;
}

-- the default table, which is not a file
abbrev pub default_layer : LayerRead
default_layer = record { file = None; text = None; tree = Some defaults }

-- a file that is brought by something, if that brings files
abbrev pub file_layer : Option SourceKind → FileInput → LayerRead
file_layer kind file = record {
  file = file_of kind (path_view file.path);
  text = text_read file.outcome;
  tree = tree_read (outcome_view file.outcome);
}

-- the file of a tool
abbrev pub tool_layer : ToolConfigFile → LayerRead
tool_layer tool = file_layer (Some (tool_file (tool_name_text tool.tool))) tool.config_file

-- the organisation's file, if there is one
abbrev pub organisation_layers : Option FileInput → List LayerRead
organisation_layers (Some file) = file_layer (Some organisation_file) file ∷ []
organisation_layers None = []

-- the repository's file: a user named it, or it was looked for
abbrev pub repository_layer : Gathered → LayerRead
repository_layer gathered =
    option_map_or (file_layer (Some explicit_file)) gathered.config_file
    (file_layer (Some discovered_file) gathered.paths.shared)

-- The sources of a run, the lowest first: the default table, the files of tools, of which the first
-- is the highest, the organisation's file, if there is one, and the repository's.
abbrev pub layers_read : Gathered → List LayerRead
layers_read gathered =
    default_layer ∷ ((map tool_layer (reverse gathered.tools.items)
    ++ organisation_layers gathered.organisation_file) ++ repository_layer gathered ∷ [])

-- What the files of a run write at a path.
use Rattle.std.specs.Prelude.{ℕ, zero, suc, Bool, true, false, List, length, Option, None, Some, option_map}
use Rattle.std.specs.Option.{option_and_then, option_or}
use Rattle.nextest_places.specs.Path.{stands_at}
use Rattle.nextest_places.specs.declared.step.Step.{Step}
use Rattle.nextest_tree.specs.Node.{Node, as_text}
use Rattle.rinqebo_request.specs.declared.files.layers.Layer.{Layer}
use Rattle.rinqebo_findings.specs.Sources.{document_at}

-- what the layer at a place writes at a path
abbrev pub written_at : List Layer → List Step → ℕ → Option Node
written_at layers path place = option_and_then (stands_at path) (document_at layers (Some place))

-- the place of the highest layer below a place that writes a path, and what it writes there
abbrev pub highest_below : List Layer → List Step → ℕ → Option (ℕ × Node)
highest_below layers path zero = None
highest_below layers path (suc place) =
    option_or (option_map (λ node. (place, node)) (written_at layers path place))
    (highest_below layers path place)

-- what the highest layer that writes a path writes there
abbrev pub highest : List Layer → List Step → Option Node
highest layers path = option_map (λ found. found.1) (highest_below layers path (length layers))

-- the value at a path in a document, or else in the highest layer that writes the path; there is
-- none without a document
abbrev pub value_in : List Layer → List Step → Option Node → Option Node
value_in layers path None = None
value_in layers path (Some document) = option_or (stands_at path document) (highest layers path)

-- The value at a path in a source, if that is a document. One that does not write the path is
-- refused for what is below it: the highest layer that writes the path counts.
unfoldable pub value_at : List Layer → Option ℕ → List Step → Option Node
value_at layers source path = value_in layers path (document_at layers source)

-- there is a table
abbrev pub is_table : Option Node → Bool
is_table (Some (Node.table es)) = true
is_table _ = false

-- the text of the value at a path in a source, if it is one
abbrev pub text_at : List Layer → Option ℕ → List Step → Option (List ℕ)
text_at layers source path = option_and_then as_text (value_at layers source path)

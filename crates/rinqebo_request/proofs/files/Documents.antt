-- The tree of a document.
use Rattle.std.proofs.Common.{◌≡◌, List, ℕ, Option, Some, None, ap, option_map}
use Rattle.std.proofs.lemmas.Option.{none-some}
use Rattle.toml.specs.Data.{Data, Members}
use Rattle.toml.specs.Data as toml
use Rattle.toml.specs.Parse.{parse_document}
use Rattle.nextest_documents.specs.Text.{tree_of}
use Rattle.nextest_documents.specs.Value.{from_data, from_members}
use Rattle.nextest_tree.specs.Node.{table}
use Rattle.nextest_places.specs.Spans.Spans.{IsDocumentOf}

of_members : (read : Option Members) (root : Data) → option_map toml.table read ≡ Some root
    → option_map (λ members. table (from_members members)) read ≡ Some (from_data root)
of_members (Some members) root is = ap (option_map from_data) is
of_members None root is = absurd (none-some root is)

-- a text that is a document reads to the tree of this document
pub tree_is : (text : List ℕ) (root : Data) → IsDocumentOf text root
    → tree_of text ≡ Some (from_data root)
tree_is text root is = of_members (parse_document text) root is

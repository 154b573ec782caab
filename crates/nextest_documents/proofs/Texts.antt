-- A text's tree is a table.
use Rattle.std.proofs.Common.{◌≡◌, ℕ, List, Option, Some, None, option_map, unwrap_or, refl}
use Rattle.toml.specs.Data.{Members}
use Rattle.toml.specs.Parse.{parse_document}
use Rattle.nextest_tree.specs.Node.{table, Entries, no_entries}
use Rattle.nextest_documents.specs.Text.{tree_of}
use Rattle.nextest_documents.specs.Value.{from_members}

-- the entries of a text's table, none where the text is not a document
abbrev pub entries_in : List ℕ → Entries
entries_in text = unwrap_or (option_map from_members (parse_document text)) no_entries

table_of : (o : Option Members)
    → unwrap_or (option_map (λ ms. table (from_members ms)) o) (table no_entries)
    ≡ table (unwrap_or (option_map from_members o) no_entries)
table_of None = refl
table_of (Some ms) = refl

pub text_table : (text : List ℕ) → unwrap_or (tree_of text) (table no_entries) ≡ table (entries_in text)
text_table text = table_of (parse_document text)

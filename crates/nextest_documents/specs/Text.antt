-- The node that a text means.
use Rattle.std.specs.Prelude.{ℕ, ◌≤◌, List, length, Option, option_map}
use Rattle.toml.specs.Parse.{parse_document}
use Rattle.nextest_tree.specs.Node.{Node, table}
use Rattle.nextest_documents.specs.Value.{from_members}
use Rattle.nextest_documents.specs.declared.document.TextFault.{TextFault}
use Rattle.nextest_documents.specs.declared.document.TextFault.TheVariants.{NotDocument, Memory}

-- a text that is a document is the table of what its members read to; any other text is nothing
abbrev pub tree_of : List ℕ → Option Node
tree_of text = option_map (λ members. table (from_members members)) (parse_document text)

-- the fault is the text's, and not a refusal of memory
abbrev pub IsNotDocument : TextFault → Type 0
IsNotDocument (NotDocument fault) = Unit {0}
IsNotDocument Memory = ⊥

-- the bytes at fault are bytes of the text
abbrev pub IsWithinText : List ℕ → TextFault → Type 0
IsWithinText text (NotDocument fault) =
    (fault.span.start ≤ fault.span.end) × (fault.span.end ≤ length text)
IsWithinText text Memory = Unit {0}

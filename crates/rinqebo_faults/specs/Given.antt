-- What is in a file.
use Rattle.std.specs.Prelude.{ℕ, Bool, true, false, List, Option, codes}
use Rattle.std.specs.Option.{option_and_then}
use Rattle.nextest_tree.specs.Node.{Node, Nodes, no_nodes, Entries, as_table, member_of}

-- the profiles of a file
abbrev pub profiles_in : Option Node → Option Entries
profiles_in file = option_and_then as_table (option_and_then (member_of (codes "profile")) file)

-- the kind of a value, in words
abbrev pub kind_words : Node → List ℕ
kind_words (Node.table es) = codes "a table"
kind_words (Node.array ns) = codes "an array"
kind_words (Node.text s) = codes "a string"
kind_words (Node.int z) = codes "an integer"
kind_words (Node.bool b) = codes "a boolean"
kind_words Node.opaque = codes "a float or a date"

-- an array has no items
abbrev pub is_empty_array : Nodes → Bool
is_empty_array no_nodes = true
is_empty_array (Nodes.node n ns) = false

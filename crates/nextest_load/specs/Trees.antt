-- The trees of sources, and what they say.
use Rattle.std.specs.Prelude.{List, map, unwrap_or}
use Rattle.nextest_documents.specs.Merge.{over, merged}
use Rattle.nextest_documents.specs.Text.{tree_of}
use Rattle.nextest_sources.specs.Inputs.{SourceText}
use Rattle.nextest_tables.specs.Defaults.{defaults}
use Rattle.nextest_tables.specs.FileTexts.{FileText, file_text}
use Rattle.nextest_tree.specs.Node.{Node, table, no_entries}

-- the tree of a source, an empty one where its text is not a document
abbrev pub tree_in : SourceText → Node
tree_in s = unwrap_or (tree_of s.text) (table no_entries)

-- a file over the defaults
abbrev pub own_tree : SourceText → Node
own_tree s = over (tree_in s) defaults

-- what a file says over the defaults
abbrev pub own_file : SourceText → FileText
own_file s = file_text (own_tree s)

-- the merged tree
abbrev pub merged_tree : List SourceText → Node
merged_tree ss = merged defaults (map tree_in ss)

-- what the merged tree says
abbrev pub merged_file : List SourceText → FileText
merged_file ss = file_text (merged_tree ss)

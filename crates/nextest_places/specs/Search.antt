-- What a search knows of the first lines of a text.
use Rattle.std.specs.Prelude.{◌≡◌, ℕ, suc, ◌<◌, ◌≤◌, true, List, Some, None, is_some}
use Rattle.nextest_tree.specs.Node.{Node}
use Rattle.nextest_documents.specs.Text.{tree_of}
use Rattle.nextest_places.specs.Lines.{first_lines, line_count}

-- No number of lines between these is a document.
abbrev pub NoDocumentBetween : List ℕ → ℕ → ℕ → Type 0
NoDocumentBetween text low high =
    (n : ℕ) → low < n → n < high → tree_of (first_lines n text) ≡ None

-- The first n lines of a text are a document.
abbrev pub IsDocument : List ℕ → ℕ → Type 0
IsDocument text n = is_some (tree_of (first_lines n text)) ≡ true

-- Some first lines of a text are a document, this is its node, and no more lines are one.
pub record IsLongest (text : List ℕ) (n : ℕ) (document : Node) : Type 0 where
  pub within : n ≤ line_count text
  pub is : tree_of (first_lines n text) ≡ Some document
  pub longest : NoDocumentBetween text n (suc (line_count text))

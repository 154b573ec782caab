-- Texts that were parsed before the load.
use Rattle.std.specs.Prelude.{◌≡◌, ℕ, List, None, Some}
use Rattle.nextest_documents.specs.Text.{tree_of}
use Rattle.nextest_tree.specs.View.{tree_view}
use Rattle.nextest_load.specs.declared.parsed.ParsedText.{ParsedText}
use Rattle.nextest_load.specs.declared.parsed.ParsedText.TheVariants.{Document, NotDocument}

-- a text was parsed to its tree if it is a document, and else to the message of its fault
abbrev pub IsParseOf : List ℕ → ParsedText → Type 0
IsParseOf text (Document tree) = tree_of text ≡ Some (tree_view tree.now)
IsParseOf text (NotDocument message) = tree_of text ≡ None

-- Identifiers as values and as keys.
use Rattle.std.specs.Prelude.{◌≡◌, ℕ, List, Option, Some, None, Result, Ok, Err, codes, if◌then◌else◌}
use Rattle.nextest_elements.specs.declared.identifier.ConfigIdentifier.{ConfigIdentifier}
use Rattle.nextest_tree.specs.Node.{Node, text}
use Rattle.nextest_tree.specs.Schema.{FaultCause, wrong_kind, bad_value, Schema}
use Rattle.nextest_tree.specs.Leaf.{value}
use Rattle.nextest_elements.specs.Identifier.{is_identifier}
use Rattle.nextest_elements.specs.IdentifierText.{identifier_text}

-- what is expected of an identifier
unfoldable pub identifier_expected : List ℕ
identifier_expected = codes "an identifier"

-- a text that is not an identifier is refused
abbrev pub identifier_cause : List ℕ → Option FaultCause
identifier_cause s = if is_identifier s then None else Some (bad_value s identifier_expected)

-- the text of an identifier
abbrev pub identifier_at : Node → Result (List ℕ) FaultCause
identifier_at (text s) = if is_identifier s then Ok s else Err (bad_value s identifier_expected)
identifier_at _ = Err wrong_kind

-- a text that is an identifier
unfoldable pub an_identifier : Schema
an_identifier = value identifier_at

-- the node spells the identifier
abbrev pub IsIdentifierAt : Node → ConfigIdentifier → Type 0
IsIdentifierAt n identifier = identifier_at n ≡ Ok (identifier_text identifier)

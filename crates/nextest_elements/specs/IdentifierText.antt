-- What contracts see of an identifier and of a tool's name: the bytes of the text.
use Rattle.std.specs.Prelude.{ℕ, List}
use Rattle.nextest_elements.specs.declared.identifier.ConfigIdentifier.{ConfigIdentifier}
use Rattle.nextest_elements.specs.declared.identifier.tool_name.ToolName.{ToolName}

-- The text of an identifier.
abbrev pub identifier_text : ConfigIdentifier → List ℕ
identifier_text identifier = identifier

-- The text of a tool's name.
abbrev pub tool_name_text : ToolName → List ℕ
tool_name_text name = name

-- What contracts see of a name's text: its bytes.
use Rattle.std.specs.Prelude.{ℕ, List}
use Rattle.nextest_elements.specs.declared.identifier.name_text.NameText.{NameText}

-- The bytes of a name's text.
abbrev pub name_bytes : NameText → List ℕ
name_bytes name = name

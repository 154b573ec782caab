-- What some whole lines of a document hold.
use Rattle.std.specs.Prelude.{◌≡◌, ⊤, ℕ, Bool, List, [], Some}
use Rattle.toml_parser.specs.Lexical.{skip_blank}
use Rattle.toml_parser.specs.Reading.{key_view}
use Rattle.toml_parser.specs.Strings.{Key}
use Rattle.nextest_places.specs.Expressions.{key_of}
use Rattle.nextest_places.specs.declared.expression.Content.{Content}
use Rattle.nextest_places.specs.declared.expression.Content.TheVariants.{Blank, Expression, Other}
use Rattle.nextest_places.specs.declared.expression.Definition.{Definition}

-- what contracts see of a key that is defined: its parts, and whether a header has it
abbrev pub definition_view : Definition → Key × Bool
definition_view d = (key_view d.key, d.is_header)

-- The lines hold one expression with this key, and nothing behind it but white space and comments.
abbrev pub HoldsOne : List ℕ → Key × Bool → Type 0
HoldsOne lines key =
    (rest : List ℕ) × (key_of (skip_blank lines) ≡ Some (key, rest)) × (skip_blank rest ≡ [])

-- The lines hold this content; of other content nothing is said.
abbrev pub Holds : List ℕ → Content → Type 0
Holds lines Blank = skip_blank lines ≡ []
Holds lines (Expression d) = HoldsOne lines (definition_view d)
Holds lines Other = ⊤

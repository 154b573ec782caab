-- Values as TOML, on one line.
use Rattle.std.specs.Prelude.{ℕ, Option, None, Some, ◌==◌, ◌/◌, ◌%◌, Bool, true, false, not, List, [], ◌∷◌, ◌++◌, ◌||◌, ◌&&◌, length, codes, flat_map, encode_utf8, String, string_bytes, if◌then◌else◌}
use Rattle.std.specs.Char.{is_ascii_alphanumeric, is_control}
use Rattle.std.specs.declared.alloc.Global.{Global}
use Rattle.std.specs.Fmt.{digit_glyph, signed_decimal}
use Rattle.std.specs.List.{list_all}
use Rattle.std.specs.Str.{chars}
use Rattle.rinqebo_report.specs.declared.toml_text.Spelling.{Spelling}
use Rattle.rinqebo_report.specs.declared.toml_text.Spelling.TheVariants as spellings
use Rattle.rinqebo_report.specs.declared.value.ReportedDuration.{ReportedDuration}
use Rattle.rinqebo_report.specs.declared.value.TableMember.{TableMember}
use Rattle.rinqebo_report.specs.declared.value.Scalar.{Scalar}
use Rattle.rinqebo_report.specs.declared.value.Scalar.TheVariants as scalars
use Rattle.rinqebo_report.specs.declared.value.Value.{Value}
use Rattle.rinqebo_report.specs.declared.value.Value.TheVariants as values
use Rattle.rinqebo_report.specs.Durations.{duration_text}
use Rattle.rinqebo_report.specs.Joined.{joined}

-- a hexadecimal digit
abbrev pub hex_digit : ℕ → ℕ
hex_digit n = digit_glyph false n

-- a character within quotes: a quote or a backslash has a backslash before it, and a control
-- character is `\u` and four hexadecimal digits
abbrev pub toml_char : ℕ → List ℕ
toml_char c =
    if c == 34 || c == 92 then 92 ∷ c ∷ []
    else (if is_control c then codes "\\u00" ++ hex_digit (c / 16) ∷ hex_digit (c % 16) ∷ []
    else encode_utf8 c)

-- a text in quotes
abbrev pub quoted : List ℕ → List ℕ
quoted text = 34 ∷ (flat_map toml_char (chars text) ++ 34 ∷ [])

-- whether a byte may be in a key without quotes: a letter or a digit of ASCII, `_` or `-`
abbrev pub is_bare_byte : ℕ → Bool
is_bare_byte c = is_ascii_alphanumeric c || ((c == 95) || (c == 45))

-- whether a key needs no quotes
abbrev pub is_bare : List ℕ → Bool
is_bare key = not (length key == 0) && list_all is_bare_byte key

-- a key of a path, in quotes where it needs them
abbrev pub key_text : List ℕ → List ℕ
key_text key = if is_bare key then key else quoted key

-- a duration of so many nanoseconds in quotes: one number, and the longest unit that divides it
abbrev pub canonical_duration : ℕ → List ℕ
canonical_duration n = 34 ∷ (duration_text n ++ 34 ∷ [])

-- a duration in quotes, with the text that a file writes it with, if it is known
abbrev pub written_duration : ℕ → Option (String Global) → List ℕ
written_duration n (Some written) = quoted (string_bytes written)
written_duration n None = canonical_duration n

-- a duration in quotes, as it is to be spelled
abbrev pub spelled_duration : Spelling → ReportedDuration → List ℕ
spelled_duration spellings.AsWritten duration =
    written_duration duration.nanoseconds duration.written
spelled_duration spellings.Canonical duration = canonical_duration duration.nanoseconds

-- a value that holds no others
abbrev pub scalar_text : Spelling → Scalar → List ℕ
scalar_text spelling (scalars.Boolean true) = codes "true"
scalar_text spelling (scalars.Boolean false) = codes "false"
scalar_text spelling (scalars.Integer z) = signed_decimal z
scalar_text spelling (scalars.Text text) = quoted (string_bytes text)
scalar_text spelling (scalars.Duration duration) = spelled_duration spelling duration

-- a member of a table
abbrev pub field_text : Spelling → TableMember → List ℕ
field_text spelling field =
    string_bytes field.key ++ (codes " = " ++ scalar_text spelling field.value)

-- a text of a list
abbrev pub item_text : String Global → List ℕ
item_text item = quoted (string_bytes item)

-- a value, with its durations spelled so
abbrev pub spelled_value : Spelling → Value → List ℕ
spelled_value spelling (values.Scalar scalar) = scalar_text spelling scalar
spelled_value spelling (values.Texts items) =
    91 ∷ (joined (codes ", ") item_text items.items ++ 93 ∷ [])
spelled_value spelling (values.Table fields) =
    codes "{ " ++ (joined (codes ", ") (field_text spelling) fields.items ++ codes " }")

-- a value: a duration is as a file writes it, where one file alone writes the value
abbrev pub value_text : Value → List ℕ
value_text value = spelled_value spellings.AsWritten value

-- a value, the same text however files write its durations
abbrev pub canonical_text : Value → List ℕ
canonical_text value = spelled_value spellings.Canonical value

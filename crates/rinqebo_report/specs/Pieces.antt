-- Pages: texts in styles, as they are shown with colours and without.
use Rattle.std.specs.Prelude.{ℕ, Bool, List, [], ◌∷◌, ◌++◌, codes, flat_map, replicate, encode_utf8, decimal, if◌then◌else◌}
use Rattle.std.specs.Char.{is_control}
use Rattle.std.specs.Fmt.{digits}
use Rattle.std.specs.Int.{is_in_range}
use Rattle.std.specs.Str.{chars}
use Rattle.std.specs.Prelude.{false}
use Rattle.rinqebo_report.specs.declared.piece.Colour.{Colour}
use Rattle.rinqebo_report.specs.declared.piece.Colour.TheVariants as colours
use Rattle.rinqebo_report.specs.declared.piece.Style.{Style}
use Rattle.rinqebo_report.specs.declared.piece.Style.TheVariants as styles

-- A piece of a page: a text in a style, a character so many times, a number, or the end of a line.
pub data Run : Type 0 where
  styled : Style → List ℕ → Run
  repeated : ℕ → ℕ → Run
  numbered : ℕ → Run
  ending : Run

-- the escape of a character: `\u{`, its number in hexadecimal digits, and `}`
abbrev pub escape_of : ℕ → List ℕ
escape_of c = 92 ∷ codes "u{" ++ (digits 16 false c ++ codes "}")

-- a character as it is shown: a control character is spelled as its escape
abbrev pub shown_char : ℕ → List ℕ
shown_char c = if is_control c then escape_of c else encode_utf8 c

-- a byte is a printable character of ASCII
abbrev pub is_printable_byte : ℕ → Bool
is_printable_byte = is_in_range 32 126

-- a text as it is shown
abbrev pub shown_text : List ℕ → List ℕ
shown_text text = flat_map shown_char (chars text)

-- the parameters with which a terminal shows a style
abbrev pub style_code : Style → List ℕ
style_code styles.Plain = []
style_code styles.Key = codes "1"
style_code styles.Remark = codes "2"
style_code styles.Good = codes "32"
style_code styles.Error = codes "1;31"
style_code styles.Warning = codes "1;33"
style_code styles.Help = codes "36"

-- a text in colour: `ESC[`, parameters and `m` before it, and `ESC[0m` behind it
abbrev pub in_colour : List ℕ → List ℕ → List ℕ
in_colour code text =
    27 ∷ 91 ∷ (code ++ 109 ∷ (shown_text text ++ 27 ∷ 91 ∷ codes "0m"))

-- a text in its style, where there are colours or not
abbrev pub painted_text : Colour → Style → List ℕ → List ℕ
painted_text colours.Plain style text = shown_text text
painted_text colours.Coloured styles.Plain text = shown_text text
painted_text colours.Coloured style text = in_colour (style_code style) text

-- a piece as it is shown
abbrev pub painted : Colour → Run → List ℕ
painted tint (styled style text) = painted_text tint style text
painted tint (repeated c count) = flat_map shown_char (replicate count c)
painted tint (numbered n) = decimal n
painted tint ending = 10 ∷ []

-- a page as it is shown
abbrev pub page_text : Colour → List Run → List ℕ
page_text tint runs = flat_map (painted tint) runs

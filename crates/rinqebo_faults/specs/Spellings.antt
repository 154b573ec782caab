-- How a value that is refused is meant to be spelled, where that is plain.
use Rattle.std.specs.Prelude.{ℕ, ℤ, pos, ◌*◌, ◌-◌, ◌==◌, nat_eq, nat_lt, int_lt, Bool, true, false, not, ◌&&◌, ◌||◌, List, ◌++◌, codes, length, take, Option, None, Some, if◌then◌else◌}
use Rattle.std.specs.Fmt.{decimal, signed_decimal}
use Rattle.std.specs.List.{after_first, before_first, ends_with, position_or_len}
use Rattle.std.specs.Str.{bytes_eq}
use Rattle.std.specs.Str.Parse.{digits_value}
use Rattle.nextest_shape.specs.Form.{Form, a_truth, a_number, a_text, an_array, a_table, either, Forms, no_forms, or_form}
use Rattle.nextest_tree.specs.Node.{Node}
use Rattle.rinqebo_faults.specs.declared.spellings.Wanted.{Wanted}
use Rattle.rinqebo_faults.specs.declared.spellings.Wanted.TheVariants as wanted
use Rattle.rinqebo_faults.specs.Expected.{takes_duration}
use Rattle.rinqebo_faults.specs.Words.{is_number}

-- a form is that of integers
abbrev pub is_integer : Form → Bool
is_integer (a_number least greatest) = true
is_integer form = false

-- a form is that of booleans
abbrev pub is_boolean : Form → Bool
is_boolean a_truth = true
is_boolean form = false

-- a form is that of strings, or of tables
abbrev pub is_string : Form → Bool
is_string (a_text form) = true
is_string form = false

abbrev pub has_fields : Form → Bool
has_fields (a_table fs) = true
has_fields form = false

-- a form is that of arrays of strings, or of tables
abbrev pub are_strings : Form → Bool
are_strings (an_array least items) = is_string items
are_strings form = false

abbrev pub are_tables : Form → Bool
are_tables (an_array least items) = has_fields items
are_tables form = false

-- a form is of a kind of values that keys take
abbrev pub is_of : Wanted → Form → Bool
is_of wanted.Integer form = is_integer form
is_of wanted.Boolean form = is_boolean form
is_of wanted.Texts form = are_strings form
is_of wanted.Tables form = are_tables form

-- one of some forms is of a kind
abbrev pub is_one : (Form → Bool) → Forms → Bool
is_one kind no_forms = false
is_one kind (or_form form forms) = if kind form then true else is_one kind forms

-- a form takes values of a kind: it is of that kind, or one of several that is
abbrev pub takes : (Form → Bool) → Form → Bool
takes kind (either forms) = is_one kind forms
takes kind form = kind form

-- how a text is meant to be written
abbrev pub write : List ℕ → List ℕ
write words = codes "write `" ++ (words ++ codes "`")

-- the milliseconds of up to three digits behind a point
unfoldable pub scaled : List ℕ → Option ℕ
scaled digits =
    if length digits == 1 then Some (digits_value 10 digits * 100)
    else if length digits == 2 then Some (digits_value 10 digits * 10)
    else if length digits == 3 then Some (digits_value 10 digits)
    else None

-- the milliseconds of a text behind a point that has up to three digits alone
unfoldable pub milliseconds : List ℕ → Option ℕ
milliseconds text = if is_number text then scaled text else None

-- a text without the letter `s` at its end
unfoldable pub without_unit : List ℕ → List ℕ
without_unit text =
    if ends_with nat_eq text (codes "s") then take (length text - 1) text else text

-- seconds and milliseconds, as a duration has them
abbrev pub seconds_and : List ℕ → Option ℕ → Option (List ℕ)
seconds_and seconds None = None
seconds_and seconds (Some rest) =
    Some (codes "write `\"" ++ (seconds ++ (codes "s " ++ (decimal rest ++ codes "ms\"`"))))

-- seconds with digits behind a point, as a duration has them
unfoldable pub seconds_of : (seconds fraction : List ℕ) → Option (List ℕ)
seconds_of seconds fraction =
    if is_number seconds then seconds_and seconds (milliseconds fraction) else None

unfoldable pub parted_seconds : List ℕ → Option (List ℕ)
parted_seconds text =
    if nat_lt (position_or_len (λ b. b == 46) (without_unit text)) (length (without_unit text))
    then seconds_of (before_first (λ b. b == 46) (without_unit text))
    (after_first (λ b. b == 46) (without_unit text))
    else None

-- how a text is spelled where a duration is wanted
unfoldable pub duration_of : List ℕ → Option (List ℕ)
duration_of text =
    if is_number text then Some (codes "write `\"" ++ (text ++ codes "s\"`"))
    else parted_seconds text

-- a text is one of the booleans
unfoldable pub is_truth : List ℕ → Bool
is_truth text = bytes_eq text (codes "true") || bytes_eq text (codes "false")

-- how a text is spelled that a form refuses
unfoldable pub spelled_text : Form → List ℕ → Option (List ℕ)
spelled_text form text =
    if takes (is_of wanted.Texts) form then Some (codes "write `[\"" ++ (text ++ codes "\"]`"))
    else if takes (is_of wanted.Integer) form && is_number text then Some (write text)
    else if takes (is_of wanted.Boolean) form && is_truth text then Some (write text)
    else if takes_duration form then duration_of text
    else None

-- how a number is spelled that a form refuses
unfoldable pub spelled_number : Form → ℤ → Option (List ℕ)
spelled_number form number =
    if takes_duration form && not (int_lt number (pos 0))
    then Some (codes "write `\"" ++ (signed_decimal number ++ codes "s\"`")) else None

-- how a table at a header is spelled that a form refuses
unfoldable pub spelled_table : Form → List ℕ → Option (List ℕ)
spelled_table form header =
    if takes (is_of wanted.Tables) form then Some (codes "write `[[" ++ (header ++ codes "]]`")) else None

-- how a value at a header is spelled that a form refuses
abbrev pub spelling : Form → Node → (header : List ℕ) → Option (List ℕ)
spelling form (Node.text s) header = spelled_text form s
spelling form (Node.int number) header = spelled_number form number
spelling form (Node.table es) header = spelled_table form header
spelling form node header = None

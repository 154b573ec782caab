-- What the shape of a file wants at a path, in words.
use Rattle.std.specs.Prelude.{ℕ, ℤ, ◌-◌, nat_lt, Bool, true, false, List, [], ◌∷◌, ◌++◌, codes, length, map, take, Option, None, Some, if◌then◌else◌}
use Rattle.std.specs.Fmt.{signed_decimal}
use Rattle.std.specs.Option.{option_and_then}
use Rattle.nextest_places.specs.declared.step.Step.{Step}
use Rattle.nextest_shape.specs.Form.{TextForm, any_text, one_of, of_pattern, Form, anything, a_truth, a_number, a_text, an_array, a_table, a_map, either, FieldForms, no_fields, a_field, Forms, no_forms, or_form}
use Rattle.nextest_shape.specs.declared.shape.Pattern.{Pattern}
use Rattle.nextest_shape.specs.declared.shape.Pattern.TheVariants as patterns
use Rattle.nextest_tree.specs.Key.{key_text}
use Rattle.nextest_tree.specs.Schema.{is_one_of}
use Rattle.nextest_tree.specs.declared.fault.ElementCause.{ElementCause}
use Rattle.nextest_tree.specs.declared.fault.ElementCause.TheVariants as causes
use Rattle.rinqebo_faults.specs.Shapes.{wanted_at}
use Rattle.rinqebo_faults.specs.Tables.{key_at}
use Rattle.rinqebo_faults.specs.Words.{backquoted, listed, quoted}

-- an integer in its range, in words
abbrev pub number_words : (least greatest : Option ℤ) → List ℕ
number_words None None = codes "an integer"
number_words (Some least) None = codes "an integer of at least " ++ signed_decimal least
number_words None (Some greatest) = codes "an integer of at most " ++ signed_decimal greatest
number_words (Some least) (Some greatest) =
    codes "an integer from " ++ (signed_decimal least
    ++ (codes " to " ++ signed_decimal greatest))

-- a string of a pattern, in words
abbrev pub pattern_words : Pattern → List ℕ
pattern_words patterns.Duration = codes "a duration such as `1h 30m`"
pattern_words patterns.Identifier = codes "an identifier (letters, digits, `-` and `_`)"
pattern_words patterns.TestGroup =
    codes "`@global`, or an identifier (letters, digits, `-` and `_`)"
pattern_words patterns.CommandLine = codes "a command line with a program and closed quotes"
pattern_words patterns.EnvironmentKey =
    codes "the name of an environment variable that does not begin with `NEXTEST`"

-- a string, in words
abbrev pub text_words : TextForm → List ℕ
text_words any_text = codes "a string"
text_words (one_of words) = quoted (codes " or ") words
text_words (of_pattern pattern) = pattern_words pattern

-- an array with at least so many items of a form, in words
abbrev pub list_words : (least : ℕ) → Form → List ℕ
list_words least (a_text form) =
    if nat_lt 0 least then codes "an array of at least one string"
    else codes "an array of strings"
list_words least (a_table fs) = codes "an array of tables"
list_words least form = codes "an array"

-- the keys that a table has to have
abbrev pub required_keys : FieldForms → List (List ℕ)
required_keys no_fields = []
required_keys (a_field k is_required form fs) =
    if is_required then key_text k ∷ required_keys fs else required_keys fs

-- a table that has to have some keys, in words
abbrev pub keyed_words : List (List ℕ) → List ℕ
keyed_words [] = codes "a table"
keyed_words (key ∷ keys) = codes "a table with " ++ quoted (codes " and ") (key ∷ keys)

-- what one form takes, in words
abbrev pub form_words : Form → List ℕ
form_words anything = codes "any value"
form_words a_truth = codes "a boolean"
form_words (a_number least greatest) = number_words least greatest
form_words (a_text form) = text_words form
form_words (an_array least items) = list_words least items
form_words (a_table fs) = keyed_words (required_keys fs)
form_words (a_map names fs values) = codes "a table"
form_words (either forms) = codes "any value"

-- words and one more, unless it is among them
abbrev pub with_own : List (List ℕ) → List ℕ → List (List ℕ)
with_own words own = if is_one_of words own then words else words ++ own ∷ []

-- words and what one form takes
abbrev pub with_one : List (List ℕ) → Form → List (List ℕ)
with_one words (a_text (one_of known)) = words ++ map backquoted known
with_one words form = with_own words (form_words form)

-- words and what each of some forms takes
abbrev pub with_each : List (List ℕ) → Forms → List (List ℕ)
with_each words no_forms = words
with_each words (or_form form forms) = with_each (with_one words form) forms

-- words and what a form takes, which may be one of several forms
abbrev pub with_form : List (List ℕ) → Form → List (List ℕ)
with_form words (either forms) = with_each words forms
with_form words form = with_one words form

-- words and what each of some forms takes, each of which may be one of several forms
abbrev pub with_all : List (List ℕ) → Forms → List (List ℕ)
with_all words no_forms = words
with_all words (or_form form forms) = with_all (with_form words form) forms

-- what a form takes, in words, unless that is any value
abbrev pub all_words : Form → Option (List ℕ)
all_words anything = None
all_words (either forms) = Some (listed (codes ", or ") (with_all [] forms))
all_words form = Some (form_words form)

-- a form is that of durations
abbrev pub is_duration : Form → Bool
is_duration (a_text (of_pattern patterns.Duration)) = true
is_duration form = false

-- one of some forms is that of durations
abbrev pub has_duration : Forms → Bool
has_duration no_forms = false
has_duration (or_form form forms) = if is_duration form then true else has_duration forms

-- a form takes durations
abbrev pub takes_duration : Form → Bool
takes_duration (either forms) = has_duration forms
takes_duration form = is_duration form

-- the longest duration, in words
abbrev pub longest : List ℕ
longest = codes "a duration of at most 18446744073709551615 seconds"

-- what is expected by a form in place of a value that is refused for a cause, if it says that: its
-- kind or its range
abbrev pub expected_by : ElementCause → Form → Option (List ℕ)
expected_by causes.WrongKind form = all_words form
expected_by (causes.Missing key) form = None
expected_by (causes.BadValue given expected) form = None
expected_by causes.OutOfRange form =
    if takes_duration form then Some longest else all_words form
expected_by causes.UnknownField form = None
expected_by causes.Memory form = None

-- what is expected at a path in place of a value that is refused, if the shape of a file has it
unfoldable pub expected_at : ElementCause → List Step → Option (List ℕ)
expected_at cause path = option_and_then (expected_by cause) (wanted_at path)

-- what is expected at a path in place of a string that is refused, if the shape of a file has it
unfoldable pub expected_text : List Step → Option (List ℕ)
expected_text path = option_and_then all_words (wanted_at path)

-- what a name of a map is, in words
abbrev pub name_words : Form → Option (List ℕ)
name_words (a_map names fs values) = Some (text_words names)
name_words form = None

-- what is expected in place of a name below the table at a path
abbrev pub name_below : List Step → List ℕ → Option (List ℕ)
name_below table name = option_and_then name_words (wanted_at table)

-- what is expected in place of the key at the end of a path, which is a name, if the shape of a
-- file has it
unfoldable pub expected_name : List Step → Option (List ℕ)
expected_name path =
    option_and_then (name_below (take (length path - 1) path)) (key_at path (length path - 1))

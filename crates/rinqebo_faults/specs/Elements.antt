-- What is wrong with values that a file may not have, in words.
use Rattle.std.specs.Prelude.{◌≡◌, ◌⊎◌, ℕ, ◌-◌, ◌==◌, Bool, false, List, [], ◌∷◌, ◌++◌, codes, length, take, Option, None, Some, string_bytes, if◌then◌else◌}
use Rattle.std.specs.Fmt.{signed_decimal}
use Rattle.std.specs.Option.{option_and_then}
use Rattle.std.specs.Str.{bytes_eq}
use Rattle.nextest_places.specs.declared.step.Step.{Step}
use Rattle.nextest_shape.specs.Form.{Form}
use Rattle.nextest_tree.specs.Node.{Node, Nodes}
use Rattle.nextest_tree.specs.declared.fault.ElementCause.{ElementCause}
use Rattle.nextest_tree.specs.declared.fault.ElementCause.TheVariants as causes
use Rattle.rinqebo_report.specs.declared.finding.HelpPlace.{HelpPlace}
use Rattle.rinqebo_faults.specs.Expected.{expected_at, expected_name, expected_text}
use Rattle.rinqebo_faults.specs.Given.{is_empty_array, kind_words}
use Rattle.rinqebo_faults.specs.Headers.{header_text}
use Rattle.rinqebo_faults.specs.Hints.{IsHintAt}
use Rattle.rinqebo_faults.specs.Shapes.{wanted_at}
use Rattle.rinqebo_faults.specs.Spellings.{spelling}
use Rattle.rinqebo_faults.specs.UnknownKeys.{IsUnknownKeyHelp}
use Rattle.rinqebo_faults.specs.Tables.{called, keys_note, unknown_key_text}
use Rattle.rinqebo_faults.specs.Words.{backquoted}

-- a value of a wrong kind: the kind that it has
abbrev pub wrong_kind : List ℕ → Option Node → List ℕ
wrong_kind name None = name ++ codes " has the wrong kind"
wrong_kind name (Some node) = name ++ (codes " is " ++ kind_words node)

-- an array that is out of its range: it is empty
abbrev pub wrong_length : List ℕ → Nodes → List ℕ
wrong_length name items =
    if is_empty_array items then name ++ codes " is empty" else name ++ codes " is out of range"

-- a value that is out of its range: the value
abbrev pub out_of_range : List ℕ → Option Node → List ℕ
out_of_range name (Some (Node.int number)) = name ++ (codes " is " ++ signed_decimal number)
out_of_range name (Some (Node.array items)) = wrong_length name items
out_of_range name (Some (Node.text given)) = name ++ (codes " is " ++ backquoted given)
out_of_range name _ = name ++ codes " is out of range"

-- a value is this text
unfoldable pub is_text : Option Node → List ℕ → Bool
is_text (Some (Node.text own)) given = bytes_eq own given
is_text _ given = false

-- the name of a value, and the text that it is
abbrev pub text_there : List ℕ → List ℕ → List ℕ
text_there name given =
    if length given == 0 then name ++ codes " is empty"
    else name ++ (codes " is " ++ backquoted given)

-- a text that is not taken: the text, or the name that it is
unfoldable pub bad_text : List ℕ → List ℕ → Option Node → List ℕ
bad_text name given found =
    if is_text found given then text_there name given
    else codes "`" ++ (given ++ codes "` is not a valid name here")

-- what is wrong with the value at a path, if there is one
abbrev pub wrong_element : Option Node → ElementCause → List Step → List ℕ
wrong_element found causes.WrongKind path = wrong_kind (called path) found
wrong_element found (causes.Missing key) path =
    called path ++ (codes " needs " ++ backquoted (string_bytes key))
wrong_element found (causes.BadValue given expected) path =
    bad_text (called path) (string_bytes given) found
wrong_element found causes.OutOfRange path = out_of_range (called path) found
wrong_element found causes.UnknownField path = unknown_key_text path
wrong_element found causes.Memory path = codes "out of memory"

-- words that there are, or else other ones
abbrev pub words_or : Option (List ℕ) → List ℕ → List ℕ
words_or None other = other
words_or (Some words) other = words

-- what is expected in place of a text that is refused, as the shape of a file has it, or else as a
-- reader words it: the text is the value at the path, or else the key that ends it
unfoldable pub wanted_text : Option Node → List Step → (given expected : List ℕ) → List ℕ
wanted_text found path given expected =
    words_or (if is_text found given then expected_text path else expected_name path) expected

-- what is expected in place of a value that is refused
abbrev pub wanted : Option Node → ElementCause → List Step → Option (List ℕ)
wanted found (causes.BadValue given expected) path =
    Some (wanted_text found path (string_bytes given) expected.now)
wanted found cause path = expected_at cause path

-- some notes, or none
abbrev pub as_list : Option (List ℕ) → List (List ℕ)
as_list None = []
as_list (Some note) = note ∷ []

-- the notes about the key at the end of a path, which its table refuses
unfoldable pub refused_notes : List Step → List (List ℕ)
refused_notes path =
    if length path == 0 then [] else as_list (keys_note (take (length path - 1) path))

-- the notes about a value that is refused: the keys that its table has, where it is a key
abbrev pub element_notes : ElementCause → List Step → List (List ℕ)
element_notes causes.UnknownField path = refused_notes path
element_notes cause path = []

-- a table lacks a key, and has no other one in its place
abbrev pub lack_alone : List ℕ → List ℕ → List ℕ
lack_alone name key =
    if bytes_eq key (codes "delay")
    then name ++ codes " needs `delay`, as `backoff` is `exponential`"
    else name ++ (codes " needs " ++ backquoted key)

-- a table lacks a key, and may have another one in its place
abbrev pub lack_text : List ℕ → List Step → Option (List ℕ) → List ℕ
lack_text key table None = lack_alone (called table) key
lack_text key table (Some stray) =
    called table ++ (codes " needs `" ++ (key ++ (codes "`, not `" ++ (stray ++ codes "`"))))

-- how a value that there is is meant to be spelled by a form, where that is plain
abbrev pub spelled_by : Option Node → List Step → Form → Option (List ℕ)
spelled_by None path form = None
spelled_by (Some node) path form = spelling form node (header_text path)

-- how the value at a path is meant to be spelled, where that is plain
unfoldable pub spelled : Option Node → List Step → Option (List ℕ)
spelled found path = option_and_then (spelled_by found path) (wanted_at path)

-- What to do about a text that is refused: a word that is near is meant, or else the text is meant
-- to be spelled otherwise.
abbrev pub IsTextAdvice : Option Node → List ℕ → List Step → Option (List ℕ) → Type 0
IsTextAdvice found given path advice =
    ((hint : List ℕ) × IsHintAt given path (Some hint) × (advice ≡ Some hint))
    ⊎ (IsHintAt given path None × (advice ≡ spelled found path))

-- What to do about a value that is refused for a cause.
abbrev pub IsAdvice : Option Node → ElementCause → List Step → Option (List ℕ) → Type 0
IsAdvice found (causes.BadValue given expected) path advice =
    IsTextAdvice found (string_bytes given) path advice
IsAdvice found causes.UnknownField path advice =
    (place : HelpPlace) × IsUnknownKeyHelp path advice place
IsAdvice found cause path advice = advice ≡ spelled found path

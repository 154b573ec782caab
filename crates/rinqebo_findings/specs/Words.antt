-- What findings say.
use Rattle.std.specs.Prelude.{◌≡◌, ◌⊎◌, ◌==◌, ℕ, Bool, true, false, List, [], ◌∷◌, ◌++◌, codes, is_some, map, slice_get, Option, None, Some, option_map, string_bytes, if◌then◌else◌}
use Rattle.std.specs.Fmt.{decimal}
use Rattle.std.specs.Option.{option_and_then}
use Rattle.nextest_places.specs.Spans.Paths.{path_step}
use Rattle.nextest_places.specs.Spans.Paths as paths
use Rattle.nextest_places.specs.declared.step.Step.{Step}
use Rattle.nextest_tree.specs.Node.{Node}
use Rattle.nextest_tree.specs.declared.fault.ElementCause.{ElementCause}
use Rattle.rinqebo_report.specs.declared.finding.Finding.{Finding}
use Rattle.rinqebo_report.specs.declared.finding.HelpPlace.{HelpPlace}
use Rattle.rinqebo_report.specs.declared.finding.HelpPlace.TheVariants as places
use Rattle.rinqebo_report.specs.declared.origin.FileLines.{FileLines}
use Rattle.rinqebo_report.specs.declared.origin.FilePlace.{FilePlace}
use Rattle.rinqebo_request.specs.Files.Origins.{AreLinesAt}
use Rattle.rinqebo_request.specs.declared.files.layers.Layer.{Layer}
use Rattle.rinqebo_request.specs.declared.files.places.SpanPart.TheVariants as parts
use Rattle.rinqebo_faults.specs.Elements.{as_list, element_notes, IsAdvice, lack_text, refused_notes, wanted, wrong_element}
use Rattle.rinqebo_faults.specs.Given.{kind_words}
use Rattle.rinqebo_faults.specs.Hints.{hint_text}
use Rattle.rinqebo_faults.specs.Tables.{called, keys_note, script_header, unknown_key_text}
use Rattle.rinqebo_faults.specs.UnknownKeys.{IsUnknownKeyHelp}
use Rattle.rinqebo_findings.specs.Placed.{IsPlacedAt}
use Rattle.rinqebo_findings.specs.Sources.{file_at}
use Rattle.rinqebo_findings.specs.Written.{highest_below, is_table, text_at, value_at}

-- What a finding says: what is wrong, what is expected, what else is known, what to do, and where
-- pages show that.
pub record Words : Type 0 where
  pub message : List ℕ
  pub expected : Option (List ℕ)
  pub notes : List (List ℕ)
  pub help : Option (List ℕ)
  pub help_place : HelpPlace

-- what a finding says
abbrev pub words_of : Finding → Words
words_of f =
    record {
      message = string_bytes f.message;
      expected = option_map string_bytes f.expected;
      notes = map string_bytes f.notes.items;
      help = option_map string_bytes f.help;
      help_place = f.help_place;
    }

-- a message alone
abbrev pub message_alone : List ℕ → Words
message_alone message =
    record {
      message = message;
      expected = None;
      notes = [];
      help = None;
      help_place = places.Below;
    }

-- what a finding says, and one more note, if there is one
abbrev pub with_note : Words → Option (List ℕ) → Words
with_note words note =
    record {
      message = words.message;
      expected = words.expected;
      notes = words.notes ++ as_list note;
      help = words.help;
      help_place = words.help_place;
    }

-- A finding says what is wrong with a value that is refused for a cause, what is expected in its
-- place, and what to do.
pub record SaysOfValue (given : Option Node) (cause : ElementCause) (path : List Step)
    (words : Words) : Type 0 where
  pub message : words.message ≡ wrong_element given cause path
  pub expected : words.expected ≡ wanted given cause path
  pub notes : words.notes ≡ element_notes cause path
  pub help : IsAdvice given cause path words.help
  pub help_place : words.help_place ≡ places.Below

-- what to do about a table that lacks a key, and where pages show that: the key is meant by another
-- one that the table has in its place, or else the table is meant as that of a script
abbrev pub lack_help : (key : List ℕ) → (table : List Step) → (has_stray : Bool) → Option Node
    → Option (List ℕ) × HelpPlace
lack_help key table true given = (Some (hint_text key), places.Beside)
lack_help key table false given = (script_header table given, places.Below)

-- the note that a lower file writes a value at a path which is no table
abbrev pub below_text : List Step → Node → (file : List ℕ) → FileLines → List ℕ
below_text path node file lines =
    called path ++ (codes " is " ++ (kind_words node ++ (codes " in line "
    ++ (decimal lines.first ++ (codes " of "
    ++ (file ++ codes ", which leaves nothing of the tables below it"))))))

-- A note says that a file, which is the layer at a place, writes something else than a table at a
-- path, if its text has lines for the path.
pub record IsFileNote (layers : List Layer) (path : List Step) (place : ℕ) (node : Node)
    (file : List ℕ) (note : Option (List ℕ)) : Type 0 where
  pub lines : Option FileLines
  pub are : AreLinesAt (option_and_then (λ layer. layer.places) (slice_get layers place)) path lines
  pub says : note ≡ option_map (below_text path node file) lines

-- only of a layer that is a file there is a note
abbrev pub IsNoteBy : List Layer → List Step → ℕ → Node → (file : Option (List ℕ))
    → Option (List ℕ) → Type 0
IsNoteBy layers path place node None note = note ≡ None
IsNoteBy layers path place node (Some file) note = IsFileNote layers path place node file note

-- of a layer that writes a table there is no note
abbrev pub IsNoteUnless : (has_table : Bool) → List Layer → List Step → ℕ → Node
    → Option (List ℕ) → Type 0
IsNoteUnless true layers path place node note = note ≡ None
IsNoteUnless false layers path place node note =
    IsNoteBy layers path place node (file_at layers place) note

-- a note says what a layer writes at a path, if there is one that writes something there
abbrev pub IsNoteIf : List Layer → List Step → Option (ℕ × Node) → Option (List ℕ) → Type 0
IsNoteIf layers path None note = note ≡ None
IsNoteIf layers path (Some found) note =
    IsNoteUnless (is_table (Some found.1)) layers path found.0 found.1 note

-- a note says what the highest layer below a source writes at a path, if that is no table
abbrev pub IsBelowNote : List Layer → Option ℕ → List Step → Option (List ℕ) → Type 0
IsBelowNote layers None path note = note ≡ None
IsBelowNote layers (Some source) path note =
    IsNoteIf layers path (highest_below layers path source) note

-- A finding says that a table lacks a key, what to do about it, what a lower file makes of the
-- table, and which keys the table has.
pub record SaysLack (layers : List Layer) (source : Option ℕ) (key : List ℕ) (table : List Step)
    (stray : Option (List ℕ)) (words : Words) : Type 0 where
  pub message : words.message ≡ lack_text key table stray
  pub expected : words.expected ≡ None
  pub below : Option (List ℕ)
  pub is_below : IsBelowNote layers source table below
  pub notes : words.notes ≡ as_list below ++ as_list (keys_note table)
  pub help : (words.help, words.help_place)
      ≡ lack_help key table (is_some stray) (value_at layers source table)

-- the longest delay is shorter than the first one
abbrev pub delays_text : (most least : List ℕ) → List ℕ
delays_text most least =
    codes "`max-delay` (" ++ (most ++ (codes ") is shorter than `delay` (" ++ (least ++ codes ")")))

-- a message, with the help to raise the longest delay
abbrev pub raise_to : (message least : List ℕ) → Words
raise_to message least =
    record {
      message = message;
      expected = None;
      notes = [];
      help = Some (codes "raise `max-delay` to at least `" ++ (least ++ codes "`"));
      help_place = places.Below;
    }

-- the words for two delays of which the longest one is shorter than the first one: they have both,
-- where both are texts
abbrev pub delays_words : (most least : Option (List ℕ)) → Words
delays_words (Some most) (Some least) = raise_to (delays_text most least) least
delays_words most least = message_alone (codes "`max-delay` is shorter than `delay`")

-- a path leads to a key of the table at a path
abbrev pub IsPathTo : (table : List Step) → (key : List ℕ) → List Step → Type 0
IsPathTo table key path = map path_step path ≡ map path_step table ++ paths.key key ∷ []

-- a place is in the file of a source
abbrev pub is_in : Option ℕ → FilePlace → Bool
is_in None place = false
is_in (Some source) place = source == place.source

-- the line and the file of a place in another file than that of a source
abbrev pub other_line : List Layer → Option ℕ → FilePlace → Option (ℕ × List ℕ)
other_line layers source place =
    if is_in source place then None
    else option_and_then (λ lines. option_map (λ file. (lines.first, file))
    (file_at layers place.source)) place.lines

-- the note that a key is in a line of a file
abbrev pub line_text : (key : List ℕ) → ℕ × List ℕ → List ℕ
line_text key line =
    codes "`" ++ (key ++ (codes "` is in line " ++ (decimal line.0 ++ (codes " of " ++ line.1))))

-- A line is that of the value at a path, if another file than that of a source writes it.
pub record IsOtherLine (layers : List Layer) (source : Option ℕ) (path : List Step)
    (line : Option (ℕ × List ℕ)) : Type 0 where
  pub place : Option FilePlace
  pub is_place : IsPlacedAt parts.Value layers source path place
  pub is : line ≡ option_and_then (other_line layers source) place

-- A note names the line and the file of a key at a path, if another file writes it.
pub record IsOtherNote (layers : List Layer) (source : Option ℕ) (key : List ℕ) (path : List Step)
    (note : Option (List ℕ)) : Type 0 where
  pub line : Option (ℕ × List ℕ)
  pub is_line : IsOtherLine layers source path line
  pub says : note ≡ option_map (line_text key) line

-- where both delays are texts, a note is on one of them
abbrev pub IsDelaysNote : List Layer → Option ℕ → (last first : List Step)
    → (most least : Option (List ℕ)) → Option (List ℕ) → Type 0
IsDelaysNote layers source last first (Some most) (Some least) note =
    IsOtherNote layers source (codes "delay") first note
    ⊎ IsOtherNote layers source (codes "max-delay") last note
IsDelaysNote layers source last first most least note = note ≡ None

-- A finding says that the delays of a table do not agree, what to do, and where the delay is that
-- another file writes.
pub record SaysDelays (layers : List Layer) (source : Option ℕ) (table : List Step)
    (words : Words) : Type 0 where
  pub last : List Step
  pub last_is : IsPathTo table (codes "max-delay") last
  pub first : List Step
  pub first_is : IsPathTo table (codes "delay") first
  pub note : Option (List ℕ)
  pub is_note : IsDelaysNote layers source last first (text_at layers source last)
      (text_at layers source first) note
  pub says : words
      ≡ with_note (delays_words (text_at layers source last) (text_at layers source first)) note

-- A finding says that the table of a key does not know it, what to do, and which keys it has.
pub record SaysUnknownKey (path : List Step) (words : Words) : Type 0 where
  pub message : words.message ≡ unknown_key_text path
  pub expected : words.expected ≡ None
  pub notes : words.notes ≡ refused_notes path
  pub help : IsUnknownKeyHelp path words.help words.help_place

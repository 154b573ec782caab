-- How a program and its arguments are written: as a line, or as a list of texts.
use Rattle.std.specs.Prelude.{ℕ, List, [], ◌∷◌, map, codes, Option, Some, None, string_bytes}
use Rattle.std.specs.Str.{chars}
use Rattle.nextest_tree.specs.Leaf.{a_text, IsText}
use Rattle.nextest_tree.specs.Node.{Node, text, array, Nodes, no_nodes, node}
use Rattle.nextest_tree.specs.Reads.{IsList}
use Rattle.nextest_tree.specs.Schema.{FaultCause, wrong_kind, bad_value, out_of_range, Schema, leaf, items_of}
use Rattle.nextest_scripts.specs.declared.command_line.CommandLine.{CommandLine}
use Rattle.nextest_scripts.specs.ShellReading.{words_in}
use Rattle.nextest_scripts.specs.ShellWords.{SplitsInto}

-- What a refusal says was expected.
unfoldable pub line_expected : List ℕ
line_expected = codes "a command line with a program"

-- A line is refused where it splits into nothing, or into no word: the first word is the program.
abbrev pub words_cause : List ℕ → Option (List (List ℕ)) → Option FaultCause
words_cause line None = Some (bad_value line line_expected)
words_cause line (Some []) = Some (bad_value line line_expected)
words_cause line (Some (program ∷ args)) = None

-- A line is a text that splits into a word or more.
abbrev pub line_cause : Node → Option FaultCause
line_cause (text line) = words_cause line (words_in (chars line))
line_cause _ = Some wrong_kind

-- A list has a first item, the program.
abbrev pub list_cause : Nodes → Option FaultCause
list_cause no_nodes = Some out_of_range
list_cause (node program args) = None

-- A line, or a list of texts.
unfoldable pub a_command_line : Schema
a_command_line = items_of (leaf line_cause) a_text list_cause

-- A line spells the words that it splits into, and a list its texts: the program, and then the
-- arguments.
abbrev pub IsCommandLine : Node → CommandLine → Type 0
IsCommandLine (text line) command =
    SplitsInto (chars line)
    (map (λ word. chars (string_bytes word)) (command.program ∷ command.args.items))
IsCommandLine (array items) command = IsList IsText items (command.program ∷ command.args.items)
IsCommandLine _ command = ⊥

-- The node is an array.
abbrev pub IsArray : Node → Type 0
IsArray (array items) = Unit {0}
IsArray _ = ⊥

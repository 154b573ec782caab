-- The words and options of the commands, as a table: what a parse of a command line knows of them.
-- `specs/Lines.antt` says what a command line has for their ids.
use Rattle.std.specs.Prelude.{◌≡◌, ◌++◌, ◌∷◌, ℕ, false, true, List, [], Some, codes, map}
use Rattle.clap.specs.Lexer.{usize_max}
use Rattle.clap.specs.Simple.{App, app_of, new_app, new_rule, on_top, with_rule, with_subcommand}
use Rattle.clap.specs.Walk.{Rule, rule_of}
use Rattle.clap.specs.declared.builder.action.ArgAction.TheVariants.{Append, Set, SetTrue}
use Rattle.clap.specs.declared.builder.arg.Arg.{Arg}
use Rattle.clap.specs.declared.builder.command.Command.{Command}
use Rattle.clap.specs.declared.builder.command.Command.TheViews.{out-Command as fields_of}
use Rattle.clap.specs.declared.builder.value_parser.ValueParser.{ValueParser}
use Rattle.clap.specs.declared.builder.value_parser.ValueParser.TheVariants as parsers

-- an option with one value
abbrev pub option_rule : List ℕ → Rule
option_rule name = record (new_rule name) { long = Some name; action = Some Set; value_names = 1 }

-- an option that may be repeated
abbrev pub repeated : Rule → Rule
repeated rule = record rule { action = Some Append }

-- an option that goes without another one
abbrev pub alone : Rule → Rule
alone rule = record rule { is_free = false }

-- an option that takes one of some words
abbrev pub choice_rule : List ℕ → ValueParser → Rule
choice_rule name words = record (option_rule name) { parser = Some words }

-- the same with a value for a command line without it
abbrev pub choice_or : List ℕ → List ℕ → ValueParser → Rule
choice_or fallback name words = record (choice_rule name words) { defaults = fallback ∷ [] }

-- an option without a value
abbrev pub flag_rule : List ℕ → Rule
flag_rule name = record (new_rule name) { long = Some name; action = Some SetTrue }

-- a word that is not an option
abbrev pub word_rule : List ℕ → Rule
word_rule name = record (new_rule name) { action = Some Set; value_names = 1 }

-- a word that no command line may lack
abbrev pub needed : Rule → Rule
needed rule = record rule { required = true }

-- the KEYs: any number of words behind the others
abbrev pub keys_rule : Rule
keys_rule = record (new_rule (codes "KEY")) {
  action = Some Append;
  value_names = 1;
  range = Some (record { start_inclusive = 0; end_inclusive = usize_max });
}

-- the option that names the profile: its short form is `-P`
abbrev pub profile_rule : Rule
profile_rule = record (option_rule (codes "profile")) { short = Some 80 }

-- the option that names a KEY of a test: its short form is `-k`
abbrev pub key_rule : Rule
key_rule = record (repeated (option_rule (codes "key"))) { short = Some 107 }

-- a value is one of some words
abbrev pub IsChoice : List (List ℕ) → ValueParser → Type 0
IsChoice words (parsers.Names names) = map (λ name. name.now) names.now ≡ words
IsChoice words _ = ⊥

-- An argument is one of the table, and of its command alone.
pub record IsArgument (rule : Rule) (argument : Arg) : Type 0 where
  pub is : rule_of argument ≡ rule
  pub own : argument.global ≡ false

-- a command with more arguments, in their order
abbrev pub with_rules : List Rule → App → App
with_rules [] app = app
with_rules (rule ∷ rules) app = with_rules rules (with_rule app rule)

-- A command has the arguments of another one, and then these.
pub record Adds (rules : List Rule) (old new : Command) : Type 0 where
  pub app : app_of new ≡ with_rules rules (app_of old)
  pub globals : (fields_of new).has_globals ≡ (fields_of old).has_globals

-- A command is the one of a table, and no argument of it is one of all commands.
pub record IsCommand (app : App) (command : Command) : Type 0 where
  pub is : app_of command ≡ app
  pub own : (fields_of command).has_globals ≡ false

-- the options that name files
abbrev pub file_rules : List Rule
file_rules =
    option_rule (codes "root") ∷ option_rule (codes "config-file")
    ∷ option_rule (codes "organisation-config-file")
    ∷ repeated (option_rule (codes "tool-config-file"))
    ∷ repeated (option_rule (codes "experimental")) ∷ option_rule (codes "metadata") ∷ []

-- the options that choose the output
abbrev pub output_rules : ValueParser → ValueParser → List Rule
output_rules formats colours =
    choice_or (codes "text") (codes "format") formats ∷ choice_rule (codes "color") colours ∷ []

-- the options that describe the platforms of tests
abbrev pub platform_rules : List Rule
platform_rules =
    alone (option_rule (codes "host")) ∷ option_rule (codes "rustc-version")
    ∷ option_rule (codes "target") ∷ option_rule (codes "host-cfg")
    ∷ option_rule (codes "target-cfg") ∷ []

-- the options that name the profile and the run mode
abbrev pub profile_rules : ValueParser → List Rule
profile_rules modes =
    profile_rule ∷ choice_or (codes "test") (codes "mode") modes ∷ []

-- the words and options that name a test, and what to show of it
abbrev pub test_rules : List Rule
test_rules =
    word_rule (codes "BINARY") ∷ word_rule (codes "TEST") ∷ keys_rule ∷ key_rule
    ∷ option_rule (codes "list") ∷ option_rule (codes "why") ∷ []

-- the words that an option may take: `text` and so on of `--format`, of `--color` and of `--mode`
pub record Choices : Type 0 where
  pub formats : ValueParser
  pub colours : ValueParser
  pub modes : ValueParser

-- the words of `--color`
abbrev pub colour_words : List (List ℕ)
colour_words = codes "auto" ∷ codes "always" ∷ codes "never" ∷ []

-- the words of `--mode`
abbrev pub mode_words : List (List ℕ)
mode_words = codes "test" ∷ codes "benchmark" ∷ []

-- the words of `--format` of a command with a result
abbrev pub result_formats : List (List ℕ)
result_formats = codes "text" ∷ codes "json" ∷ []

-- the words of `--format` of `check`
abbrev pub check_formats : List (List ℕ)
check_formats =
    codes "text" ∷ codes "json" ∷ codes "short" ∷ codes "concise" ∷ codes "github" ∷ []

-- What options take are the words of `--format` and those of `--color`.
pub record AreChoices (formats : List (List ℕ)) (choices : Choices) : Type 0 where
  pub formats_are : IsChoice formats choices.formats
  pub colours_are : IsChoice colour_words choices.colours

-- The same of a command that is about tests, with the words of `--mode`.
pub record AreTestChoices (formats : List (List ℕ)) (choices : Choices) : Type 0 where
  pub others_are : AreChoices formats choices
  pub modes_are : IsChoice mode_words choices.modes

-- the command `explain`
abbrev pub explain_rules : Choices → List Rule
explain_rules choices =
    test_rules ++ profile_rules choices.modes ++ file_rules ++ platform_rules
    ++ flag_rule (codes "host-binary") ∷ [] ++ output_rules choices.formats choices.colours

-- the command `list`
abbrev pub list_rules : Choices → List Rule
list_rules choices =
    needed (word_rule (codes "LIST")) ∷ keys_rule ∷ flag_rule (codes "all")
    ∷ option_rule (codes "by") ∷ [] ++ profile_rules choices.modes ++ file_rules
    ++ platform_rules ++ output_rules choices.formats choices.colours

-- the command `show-config`
abbrev pub show_rules : Choices → List Rule
show_rules choices =
    keys_rule ∷ flag_rule (codes "hidden") ∷ profile_rule ∷ [] ++ file_rules ++ platform_rules
    ++ output_rules choices.formats choices.colours

-- the command `schema`
abbrev pub schema_rules : List Rule
schema_rules = flag_rule (codes "document") ∷ []

-- the command `check`
abbrev pub check_rules : Choices → List Rule
check_rules choices =
    word_rule (codes "FILE") ∷ option_rule (codes "stdin-path") ∷ option_rule (codes "deny")
    ∷ flag_rule (codes "deny-warnings") ∷ option_rule (codes "explain")
    ∷ flag_rule (codes "codes") ∷ [] ++ file_rules
    ++ output_rules choices.formats choices.colours

-- a command of a name, with these arguments
abbrev pub command_with : List ℕ → List Rule → App
command_with name rules = with_rules rules (new_app name)

-- what the options of each command take
pub record ProgramChoices : Type 0 where
  pub explain : Choices
  pub check : Choices
  pub list : Choices
  pub show : Choices

-- what the options of each command take are its words
pub record AreProgramChoices (choices : ProgramChoices) : Type 0 where
  pub explain_are : AreTestChoices result_formats choices.explain
  pub check_are : AreChoices check_formats choices.check
  pub list_are : AreTestChoices result_formats choices.list
  pub show_are : AreChoices result_formats choices.show

-- the program before its commands: it has a version, and needs one of them
abbrev pub bare_program : App
bare_program =
    on_top (λ top. record top { has_version = true; subcommand_required = true })
    (new_app (codes "rinqebo"))

-- the program with its commands
abbrev pub program_app : ProgramChoices → App
program_app choices =
    with_subcommand
    (with_subcommand
    (with_subcommand
    (with_subcommand
    (with_subcommand bare_program
    (command_with (codes "explain") (explain_rules choices.explain)).top)
    (command_with (codes "check") (check_rules choices.check)).top)
    (command_with (codes "list") (list_rules choices.list)).top)
    (command_with (codes "show-config") (show_rules choices.show)).top)
    (command_with (codes "schema") schema_rules).top

-- a command is the program, with the words that its options take
abbrev pub IsProgram : Command → Type 0
IsProgram command =
    (choices : ProgramChoices) × AreProgramChoices choices × IsCommand (program_app choices) command

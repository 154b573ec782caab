-- The words and options of the command `diff`, as a table: what a parse of a command line knows of
-- them. `rinqebo_request` has the tables of the other commands.
use Rattle.std.specs.Prelude.{◌++◌, ◌∷◌, ℕ, List, [], codes, if◌then◌else◌}
use Rattle.std.specs.Str.{bytes_eq}
use Rattle.clap.specs.Simple.{App, with_subcommand}
use Rattle.clap.specs.Walk.{Rule}
use Rattle.clap.specs.declared.builder.command.Command.{Command}
use Rattle.clap.specs.declared.builder.value_parser.ValueParser.{ValueParser}
use Rattle.rinqebo_request.specs.ArgumentTable.{AreProgramChoices, AreTestChoices, Choices, IsChoice, IsCommand, ProgramChoices, choice_rule, command_with, file_rules, flag_rule, keys_rule, mode_words, needed, option_rule, output_rules, platform_rules, profile_rules, program_app, repeated, word_rule}

-- the options of the right side, each with one value: one takes the words of `--mode`, and the one
-- that names files of tools may be repeated
abbrev pub right_rules : ValueParser → List Rule
right_rules modes =
    option_rule (codes "to-profile") ∷ choice_rule (codes "to-mode") modes
    ∷ option_rule (codes "to-root") ∷ option_rule (codes "to-config-file")
    ∷ repeated (option_rule (codes "to-tool-config-file"))
    ∷ option_rule (codes "to-organisation-config-file") ∷ option_rule (codes "to-host")
    ∷ option_rule (codes "to-target") ∷ option_rule (codes "to-host-cfg")
    ∷ option_rule (codes "to-target-cfg") ∷ option_rule (codes "to-metadata")
    ∷ option_rule (codes "to-list") ∷ []

-- the option of the right side that has a name
abbrev pub right_rule : ValueParser → List ℕ → Rule
right_rule modes name =
    if bytes_eq name (codes "to-mode") then choice_rule name modes
    else if bytes_eq name (codes "to-tool-config-file") then repeated (option_rule name)
    else option_rule name

-- the words of `--format` of `diff`
abbrev pub diff_formats : List (List ℕ)
diff_formats = codes "text" ∷ codes "json" ∷ codes "github" ∷ codes "markdown" ∷ []

-- the words that options of `diff` may take: those of `--format`, `--color` and `--mode`, and those
-- of `--to-mode`
pub record DiffChoices : Type 0 where
  pub left : Choices
  pub right_modes : ValueParser

-- What options of `diff` take are their words.
pub record AreDiffChoices (choices : DiffChoices) : Type 0 where
  pub left_are : AreTestChoices diff_formats choices.left
  pub right_are : IsChoice mode_words choices.right_modes

-- the command `diff`
abbrev pub diff_rules : DiffChoices → List Rule
diff_rules choices =
    needed (word_rule (codes "LIST")) ∷ keys_rule ∷ flag_rule (codes "all")
    ∷ flag_rule (codes "origins") ∷ [] ++ profile_rules choices.left.modes ++ file_rules
    ++ platform_rules ++ right_rules choices.right_modes
    ++ output_rules choices.left.formats choices.left.colours

-- the command `diff`, with its words and options
abbrev pub diff_app : DiffChoices → App
diff_app choices = command_with (codes "diff") (diff_rules choices)

-- a command is `diff`, with the words that its options take
abbrev pub IsDiffCommand : Command → Type 0
IsDiffCommand command =
    (choices : DiffChoices) × AreDiffChoices choices × IsCommand (diff_app choices) command

-- the words that options of the program may take
pub record AllChoices : Type 0 where
  pub others : ProgramChoices
  pub diff : DiffChoices

-- What options of the program take are their words.
pub record AreAllChoices (choices : AllChoices) : Type 0 where
  pub others_are : AreProgramChoices choices.others
  pub diff_are : AreDiffChoices choices.diff

-- the program with all its commands: `diff` is the last one
abbrev pub whole_app : AllChoices → App
whole_app choices = with_subcommand (program_app choices.others) (diff_app choices.diff).top

-- THE COMMAND THAT WORDS GIVE. A command line is a list of items: options with a value, flags and
-- arguments, in any order.
use Rattle.std.specs.List.{flat_map, list_any, starts_with}
use Rattle.std.specs.Prelude.{◌≡◌, ℕ, List, [], ◌∷◌, ◌++◌, Bool, false, IsFalse, All, Option, None, Some, map, codes, nat_eq}
use Rattle.std.specs.Borrow.{Bor}
use Rattle.nextest_engines.specs.declared.queries.BuildPlatform.{BuildPlatform}
use Rattle.nextest_engines.specs.declared.queries.BuildPlatform.TheVariants.{Host, Target}
use Rattle.nextest_rules.specs.KnownView.{features_view, is_feature}
use Rattle.nextest_elements.specs.Experimental.{experimental_text}
use Rattle.nextest_elements.specs.declared.experimental.ConfigExperimental.{ConfigExperimental}
use Rattle.nextest_elements.specs.declared.run_mode.NextestRunMode.{NextestRunMode}
use Rattle.nextest_elements.specs.declared.run_mode.NextestRunMode.TheVariants.{Test, Benchmark}
use Rattle.nextest_elements.specs.IdentifierText.{tool_name_text}
use Rattle.nextest_explain.specs.declared.command.Command.{Command}
use Rattle.nextest_explain.specs.declared.options.Options.{Options}
use Rattle.nextest_explain.specs.declared.options.Places.{Places}
use Rattle.nextest_explain.specs.declared.options.Places.TheVariants.{Words, Whole}
use Rattle.nextest_explain.specs.declared.options.ToolFile.{ToolFile}

-- An item of a command line.
pub data Item : Type 0 where
  config_file : (path : List ℕ) → Item
  organisation_config_file : (path : List ℕ) → Item
  tool_config_file : (tool path : List ℕ) → Item
  experimental : (feature : ConfigExperimental) → Item
  host : (triple : List ℕ) → Item
  target : (triple : List ℕ) → Item
  host_binary : Item
  whole_places : Item
  argument : (word : List ℕ) → Item

-- The words that spell an item. The value of an option is the word behind it, whatever it is. A
-- tool is before its path, with a colon between.
abbrev pub words_of : Item → List (List ℕ)
words_of (config_file path) = codes "--config-file" ∷ path ∷ []
words_of (organisation_config_file path) = codes "--organisation-config-file" ∷ path ∷ []
words_of (tool_config_file tool path) =
    codes "--tool-config-file" ∷ (tool ++ (codes ":" ++ path)) ∷ []
words_of (experimental feature) = codes "--experimental" ∷ experimental_text feature ∷ []
words_of (host triple) = codes "--host" ∷ triple ∷ []
words_of (target triple) = codes "--target" ∷ triple ∷ []
words_of host_binary = codes "--host-binary" ∷ []
words_of whole_places = codes "--all" ∷ []
words_of (argument word) = word ∷ []

-- An argument does not begin with two hyphens.
abbrev pub IsItem : Item → Type 0
IsItem (argument word) = IsFalse (starts_with nat_eq word (codes "--"))
IsItem _ = Unit {0}

-- What an item gives of each thing that a command takes.
abbrev pub config_files : Item → List (List ℕ)
config_files (config_file path) = path ∷ []
config_files _ = []

abbrev pub organisation_config_files : Item → List (List ℕ)
organisation_config_files (organisation_config_file path) = path ∷ []
organisation_config_files _ = []

abbrev pub tool_config_files : Item → List (List ℕ × List ℕ)
tool_config_files (tool_config_file tool path) = (tool, path) ∷ []
tool_config_files _ = []

abbrev pub names_feature : ConfigExperimental → Item → Bool
names_feature feature (experimental named) = is_feature feature named
names_feature feature _ = false

abbrev pub hosts : Item → List (List ℕ)
hosts (host triple) = triple ∷ []
hosts _ = []

abbrev pub targets : Item → List (List ℕ)
targets (target triple) = triple ∷ []
targets _ = []

abbrev pub host_binaries : Item → List BuildPlatform
host_binaries host_binary = Host ∷ []
host_binaries _ = []

abbrev pub places_asked : Item → List Places
places_asked whole_places = Whole ∷ []
places_asked _ = []

abbrev pub arguments : Item → List (List ℕ)
arguments (argument word) = word ∷ []
arguments _ = []

-- The values that are given of an option that may be given once.
abbrev pub given : Option (Bor (List ℕ)) → List (List ℕ)
given None = []
given (Some value) = value.now ∷ []

-- A binary is built for the target, unless the flag is given, which may be given once.
abbrev pub given_platform : BuildPlatform → List BuildPlatform
given_platform Target = []
given_platform Host = Host ∷ []

-- A place is printed as one word, unless the flag is given, which may be given once.
abbrev pub given_places : Places → List Places
given_places Words = []
given_places Whole = Whole ∷ []

-- The file of a tool, by the tool's name and the path.
abbrev pub named_tool_file : ToolFile → List ℕ × List ℕ
named_tool_file file = (tool_name_text file.tool, file.path.now)

-- Options are those of a line.
pub record AreOptionsOf (line : List Item) (options : Options) : Type 0 where
  pub config_file : given options.config_file ≡ flat_map config_files line
  pub organisation_config_file :
      given options.organisation_config_file ≡ flat_map organisation_config_files line
  pub tool_files : map named_tool_file options.tool_files.items ≡ flat_map tool_config_files line
  pub features : (feature : ConfigExperimental)
      → features_view options.features feature ≡ list_any (names_feature feature) line
  pub host : given options.host ≡ flat_map hosts line
  pub target : given options.target ≡ flat_map targets line
  pub platform : given_platform options.platform ≡ flat_map host_binaries line
  pub places : given_places options.places ≡ flat_map places_asked line

-- The word of a mode.
abbrev pub mode_word : NextestRunMode → List ℕ
mode_word Test = codes "test"
mode_word Benchmark = codes "benchmark"

-- The arguments of a command, by their positions.
abbrev pub arguments_of : Command → List (List ℕ)
arguments_of command =
    command.root.now ∷ command.profile.now ∷ mode_word command.mode ∷ command.binary.now
    ∷ command.test.now ∷ []

-- Words give a command: they spell the items of a line, one behind another, whose arguments and
-- options are the command's.
pub record IsCommandOf (words : List (List ℕ)) (command : Command) : Type 0 where
  pub line : List Item
  pub spelled : words ≡ flat_map words_of line
  pub are_items : All IsItem line
  pub are_arguments : flat_map arguments line ≡ arguments_of command
  pub are_options : AreOptionsOf line command.options

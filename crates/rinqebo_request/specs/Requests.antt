-- The request of a command line: what its words and options, and the environment, ask for.
use Rattle.std.specs.BTreeSet.{BTreeSet}
use Rattle.std.specs.List.{AllZip, list_any}
use Rattle.std.specs.Option.{option_or}
use Rattle.std.specs.Prelude.{◌≡◌, ◌≢◌, ◌≤◌, ◌<◌, ◌^◌, ◌++◌, ◌∷◌, ◌⊎◌, ◌↔◌, ◌&&◌, ◌||◌, ℕ, Bool, false, true, not, IsTrue, List, [], None, Option, Some, codes, if◌then◌else◌, is_some, map, option_map, unwrap_or}
use Rattle.std.specs.Str.{bytes_eq}
use Rattle.std.specs.Str.Parse.{IsNumeral, digits_value, without_leading_plus}
use Rattle.nextest_elements.specs.Experimental.{experimental_text}
use Rattle.nextest_elements.specs.IdentifierText.{tool_name_text}
use Rattle.nextest_elements.specs.declared.experimental.ConfigExperimental.{ConfigExperimental}
use Rattle.nextest_elements.specs.declared.run_mode.NextestRunMode.{NextestRunMode}
use Rattle.nextest_elements.specs.declared.run_mode.NextestRunMode.TheVariants as modes
use Rattle.nextest_engines.specs.declared.queries.BuildPlatform.{BuildPlatform}
use Rattle.nextest_engines.specs.declared.queries.BuildPlatform.TheVariants as builds
use Rattle.nextest_rules.specs.KnownView.{features_view}
use Rattle.rinqebo_keys.specs.Keys.{key_text}
use Rattle.rinqebo_report.specs.Codes.Codes.{code_word}
use Rattle.rinqebo_report.specs.declared.format.Format.{Format}
use Rattle.rinqebo_report.specs.declared.format.Format.TheVariants as formats
use Rattle.rinqebo_report.specs.declared.layout.Paper.{Paper}
use Rattle.rinqebo_report.specs.declared.piece.Colour.{Colour}
use Rattle.rinqebo_report.specs.declared.piece.Colour.TheVariants.{Coloured, Plain}
use Rattle.rinqebo_report.specs.declared.reported_request.ReportCommand.{ReportCommand}
use Rattle.rinqebo_report.specs.declared.reported_request.ReportCommand.TheVariants as reports
use Rattle.rinqebo_request.specs.Files.Gathering.{list_named}
use Rattle.rinqebo_request.specs.Lines.{IsFlag, Line, has, value_at, values_at}
use Rattle.rinqebo_request.specs.Rows.{AreExplainedRows, AreListedRows, is_runs, keys_of}
use Rattle.rinqebo_request.specs.Variables.{IsSwitchedOn, text_set}
use Rattle.rinqebo_request.specs.declared.environment.Environment.{Environment}
use Rattle.rinqebo_request.specs.declared.named.ProfileSource.{ProfileSource}
use Rattle.rinqebo_request.specs.declared.named.ProfileSource.TheVariants as sources
use Rattle.rinqebo_request.specs.declared.request.Command.{Command}
use Rattle.rinqebo_request.specs.declared.request.Command.TheVariants as commands
use Rattle.rinqebo_request.specs.declared.request.CommandWords.{CommandWords}
use Rattle.rinqebo_request.specs.declared.request.ConfigFile.{ConfigFile}
use Rattle.rinqebo_request.specs.declared.request.ConfigFile.TheVariants as kinds
use Rattle.rinqebo_request.specs.declared.request.EngineOptions.{EngineOptions}
use Rattle.rinqebo_request.specs.declared.request.FileOptions.{FileOptions}
use Rattle.rinqebo_request.specs.declared.request.ListFile.{ListFile}
use Rattle.rinqebo_request.specs.declared.request.ListFile.TheVariants as lists
use Rattle.rinqebo_request.specs.declared.request.Question.{Question}
use Rattle.rinqebo_request.specs.declared.request.Question.TheVariants as questions
use Rattle.rinqebo_request.specs.declared.request.Request.{Request}
use Rattle.rinqebo_request.specs.declared.request.RequestedTest.{RequestedTest}
use Rattle.rinqebo_request.specs.declared.request.ToolFile.{ToolFile}

-- the variable that names the profile, if one does
abbrev pub source_variable : ProfileSource → Option (List ℕ)
source_variable sources.Variable = Some (codes "NEXTEST_PROFILE")
source_variable sources.CommandLine = None
source_variable sources.Fallback = None

-- the path of a list, as messages show it: `-` is standard input
abbrev pub list_path : ListFile → List ℕ
list_path (lists.Named path) = path.now
list_path lists.Input = codes "-"

-- a list is the one at a path, or standard input for `-`
abbrev pub IsListAt : List ℕ → ListFile → Type 0
IsListAt path (lists.Named named) = (named.now ≡ path) × (path ≢ codes "-")
IsListAt path lists.Input = path ≡ codes "-"

-- a list is named exactly if a path is, and then it is the one at this path
abbrev pub IsListIn : Option (List ℕ) → Option ListFile → Type 0
IsListIn None None = Unit {0}
IsListIn (Some path) (Some list) = IsListAt path list
IsListIn None (Some list) = ⊥
IsListIn (Some path) None = ⊥

-- whether the repository's file is standard input
abbrev pub is_input : ConfigFile → Bool
is_input (kinds.Input path) = true
is_input (kinds.Named path) = false
is_input kinds.Discovered = false

-- whether a list is standard input
abbrev pub is_input_list : Option ListFile → Bool
is_input_list (Some lists.Input) = true
is_input_list (Some (lists.Named path)) = false
is_input_list None = false

-- whether a request reads standard input: for the repository's file, or for the list of tests
abbrev pub reads_input : Request → Bool
reads_input request =
    is_input request.files.config_file || is_input_list (list_named request.question)

-- the profile: that of the line, or else of the variable, or else `default`
abbrev pub profile_of : Environment → Line → List ℕ
profile_of environment line =
    unwrap_or (option_or (value_at (codes "profile") line) (text_set environment.profile))
    (codes "default")

-- what names the profile
abbrev pub source_by : Option (List ℕ) → Option (List ℕ) → ProfileSource
source_by (Some name) variable = sources.CommandLine
source_by None (Some name) = sources.Variable
source_by None None = sources.Fallback

-- what names the profile of a line
abbrev pub source_of : Environment → Line → ProfileSource
source_of environment line =
    source_by (value_at (codes "profile") line) (text_set environment.profile)

-- the mode of a word
abbrev pub mode_by : List ℕ → NextestRunMode
mode_by word = if bytes_eq word (codes "benchmark") then modes.Benchmark else modes.Test

-- the mode of a line
abbrev pub mode_of : Line → NextestRunMode
mode_of line = mode_by (unwrap_or (value_at (codes "mode") line) (codes "test"))

-- The value of an option is `TOOL:PATH`, of the name of a tool and of a path, which is not empty.
-- A tool's name has no colon.
pub record IsToolNamed (value : List ℕ) (file : ToolFile) : Type 0 where
  pub written : value ≡ tool_name_text file.tool ++ 58 ∷ file.path.now
  pub some : file.path.now ≢ []

-- The files of a line: the root, the repository's file, the organisation's, and those of tools in
-- their order.
pub record AreFilesOf (IsConfig : ConfigFile → Type 0) (line : Line) (files : FileOptions)
    : Type 0 where
  pub root : option_map (λ path. path.now) files.root ≡ value_at (codes "root") line
  pub config_file : IsConfig files.config_file
  pub organisation : option_map (λ path. path.now) files.organisation_config_file
      ≡ value_at (codes "organisation-config-file") line
  pub tools : AllZip IsToolNamed (values_at (codes "tool-config-file") line) files.tools.items

-- the repository's file is the one that an option names, if it does
abbrev pub IsConfigOf : Line → ConfigFile → Type 0
IsConfigOf line kinds.Discovered = value_at (codes "config-file") line ≡ None
IsConfigOf line (kinds.Named path) = value_at (codes "config-file") line ≡ Some path.now
IsConfigOf line (kinds.Input path) = ⊥

-- The repository's file of a check is the one that FILE names, where `-` is standard input, which
-- messages show with the path of an option, or else `-`. Without FILE, it is the one that an
-- option names. Only standard input goes with a path for messages.
abbrev pub IsCheckedBy : Line → Option (List ℕ) → Option (List ℕ) → ConfigFile → Type 0
IsCheckedBy line None None file = IsConfigOf line file
IsCheckedBy line None (Some path) file = ⊥
IsCheckedBy line (Some file) shown (kinds.Input path) =
    (has (codes "config-file") line ≡ false) × (file ≡ codes "-")
    × (path.now ≡ unwrap_or shown (codes "-"))
IsCheckedBy line (Some file) shown (kinds.Named path) =
    (has (codes "config-file") line ≡ false) × (file ≢ codes "-") × (path.now ≡ file)
    × (shown ≡ None)
IsCheckedBy line (Some file) shown kinds.Discovered = ⊥

-- the repository's file of a check
abbrev pub IsCheckedFile : Line → ConfigFile → Type 0
IsCheckedFile line file =
    IsCheckedBy line (value_at (codes "FILE") line) (value_at (codes "stdin-path") line) file

-- What a line says of platforms and packages, and the variable of the target.
pub record AreEnginesOf (environment : Environment) (line : Line) (engines : EngineOptions)
    : Type 0 where
  pub host : option_map (λ triple. triple.now) engines.host ≡ value_at (codes "host") line
  pub rustc_version : option_map (λ path. path.now) engines.rustc_version
      ≡ value_at (codes "rustc-version") line
  pub target : option_map (λ triple. triple.now) engines.target ≡ value_at (codes "target") line
  pub build_target : option_map (λ triple. triple.now) engines.build_target
      ≡ text_set environment.target
  pub host_cfg : option_map (λ path. path.now) engines.host_cfg
      ≡ value_at (codes "host-cfg") line
  pub target_cfg : option_map (λ path. path.now) engines.target_cfg
      ≡ value_at (codes "target-cfg") line
  pub metadata : option_map (λ path. path.now) engines.metadata ≡ value_at (codes "metadata") line

-- a line lacks a target for the compiler's output that it names
abbrev pub LacksTarget : Environment → Line → Type 0
LacksTarget environment line =
    (is_some (value_at (codes "target-cfg") line) ≡ true)
    × (value_at (codes "target") line ≡ None) × (text_set environment.target ≡ None)

-- What a line says of packages, if its command is about no test.
pub record AreFileEngines (line : Line) (engines : EngineOptions) : Type 0 where
  pub host : engines.host ≡ None
  pub rustc_version : engines.rustc_version ≡ None
  pub target : engines.target ≡ None
  pub build_target : engines.build_target ≡ None
  pub host_cfg : engines.host_cfg ≡ None
  pub target_cfg : engines.target_cfg ≡ None
  pub metadata : option_map (λ path. path.now) engines.metadata ≡ value_at (codes "metadata") line

-- whether a feature has one of some names
abbrev pub is_named : List (List ℕ) → ConfigExperimental → Bool
is_named names feature = list_any (λ name. bytes_eq name (experimental_text feature)) names

-- Features are exactly those that a variable enables and those that a line names.
abbrev pub AreFeaturesNamed : Environment → Line → BTreeSet ConfigExperimental → Type 0
AreFeaturesNamed environment line features =
    (feature : ConfigExperimental) → IsTrue (features_view features feature)
    ↔ (IsSwitchedOn environment feature
    ⊎ IsTrue (is_named (values_at (codes "experimental") line) feature))

-- features are those from before, and exactly those beside them that have one of these names
abbrev pub HasNamed : List (List ℕ) → BTreeSet ConfigExperimental → BTreeSet ConfigExperimental
    → Type 0
HasNamed names before after =
    (feature : ConfigExperimental) → features_view after feature
    ≡ (features_view before feature || is_named names feature)

-- a name is that of a feature
abbrev pub IsFeatureName : List ℕ → Type 0
IsFeatureName name = (feature : ConfigExperimental) × (experimental_text feature ≡ name)

-- a format is that of a word; any other word, or none, is that of text
abbrev pub IsFormatBy : Environment → Option (List ℕ) → Format → Type 0
IsFormatBy environment word formats.Json = word ≡ Some (codes "json")
IsFormatBy environment word formats.Concise =
    (word ≡ Some (codes "short")) ⊎ (word ≡ Some (codes "concise"))
IsFormatBy environment word (formats.Github folder) =
    (word ≡ Some (codes "github"))
    × (folder.now ≡ unwrap_or (text_set environment.workflow_folder) [])
IsFormatBy environment word formats.Text =
    (word ≢ Some (codes "json")) × (word ≢ Some (codes "short"))
    × (word ≢ Some (codes "concise")) × (word ≢ Some (codes "github"))
IsFormatBy environment word formats.Grouped = ⊥

-- a format is that of a line
abbrev pub IsFormatOf : Environment → Line → Format → Type 0
IsFormatOf environment line format =
    IsFormatBy environment (value_at (codes "format") line) format

-- a format is that of a line of `list`: text is in groups, if a KEY groups the tests
abbrev pub IsListFormat : Environment → Line → Format → Type 0
IsListFormat environment line formats.Grouped =
    IsFormatOf environment line formats.Text × (has (codes "by") line ≡ true)
IsListFormat environment line formats.Text =
    IsFormatOf environment line formats.Text × (has (codes "by") line ≡ false)
IsListFormat environment line format = IsFormatOf environment line format

-- whether a page has colours, by a word: if it is neither `always` nor `never`, it has them on a
-- terminal without `NO_COLOR`
abbrev pub is_coloured : Environment → List ℕ → Bool
is_coloured environment word =
    if bytes_eq word (codes "always") then true
    else if bytes_eq word (codes "never") then false
    else environment.is_terminal && not (is_some (text_set environment.no_colour))

-- when a line has colours
abbrev pub when_coloured : Environment → Line → List ℕ
when_coloured environment line =
    unwrap_or (option_or (value_at (codes "color") line) (text_set environment.colour))
    (codes "auto")

-- whether a page of a line has colours
abbrev pub colour_of : Environment → Line → Colour
colour_of environment line =
    if is_coloured environment (when_coloured environment line) then Coloured else Plain

-- a text is a number of columns that a line may have: 20 at least
abbrev pub IsColumnCount : List ℕ → ℕ → Type 0
IsColumnCount text count =
    IsNumeral 10 (without_leading_plus text) × (count ≡ digits_value 10 (without_leading_plus text))
    × (20 ≤ count) × (count < 2 ^ 64)

-- columns are those of a variable, if it has a number that is large enough, or else 80
abbrev pub AreColumnsBy : Option (List ℕ) → ℕ → Type 0
AreColumnsBy None columns = columns ≡ 80
AreColumnsBy (Some text) columns =
    IsColumnCount text columns
    ⊎ (((count : ℕ) → ¬ IsColumnCount text count) × (columns ≡ 80))

-- The colours and the columns of a line's pages.
pub record IsPaperOf (environment : Environment) (line : Line) (paper : Paper) : Type 0 where
  pub colour : paper.colour ≡ colour_of environment line
  pub columns : AreColumnsBy (text_set environment.columns) paper.columns

-- the words that name a test are BINARY and TEST: a single word is TEST
abbrev pub IsNamedBy : Option (List ℕ) → Option (List ℕ) → Option (List ℕ) → List ℕ → Type 0
IsNamedBy (Some word) None binary name = (binary ≡ None) × (name ≡ word)
IsNamedBy first (Some word) binary name = (binary ≡ first) × (name ≡ word)
IsNamedBy None None binary name = ⊥

-- the platform of a binary, by a flag
abbrev pub platform_by : Bool → BuildPlatform
platform_by true = builds.Host
platform_by false = builds.Target

-- A test is the one of a line. If the line has no list of tests, it names the binary, and only
-- then may say that the binary is built for the host.
pub record IsTestOf (line : Line) (test : RequestedTest) : Type 0 where
  pub named : IsNamedBy (value_at (codes "BINARY") line) (value_at (codes "TEST") line)
      (option_map (λ id. id.now) test.binary) test.name.now
  pub list : IsListIn (value_at (codes "list") line) test.list
  pub found : value_at (codes "list") line ≡ None → is_some test.binary ≡ true
  pub platform : (is_host : Bool) × IsFlag (codes "host-binary") line is_host
      × (test.platform ≡ platform_by is_host)
      × (is_some (value_at (codes "list") line) ≡ true → is_host ≡ false)
  pub mode : test.mode ≡ mode_of line

-- what `explain` requests of a test, by the KEY of `--why`, which goes without other KEYs
abbrev pub IsExplainedBy : Environment → Line → Option (List ℕ) → Question → Type 0
IsExplainedBy environment line None (questions.Explain profile test asked) =
    (profile.now ≡ profile_of environment line) × IsTestOf line test
    × AreExplainedRows test.mode line asked
IsExplainedBy environment line (Some key) (questions.Why profile test setting) =
    (profile.now ≡ profile_of environment line) × IsTestOf line test
    × (has (codes "KEY") line ≡ false) × (has (codes "key") line ≡ false)
    × (is_runs key ≡ false) × (key_text setting test.mode ≡ key)
IsExplainedBy environment line (Some key) (questions.WhyRuns profile test) =
    (profile.now ≡ profile_of environment line) × IsTestOf line test
    × (has (codes "KEY") line ≡ false) × (has (codes "key") line ≡ false)
    × (is_runs key ≡ true)
IsExplainedBy environment line key question = ⊥

-- the list of a line of `list`: without one, it is standard input
abbrev pub IsListOf : Option (List ℕ) → ListFile → Type 0
IsListOf (Some path) list = IsListAt path list
IsListOf None list = list ≡ lists.Input

-- what `list` requests
abbrev pub IsListing : Environment → Line → Question → Type 0
IsListing environment line (questions.List profile mode list asked) =
    (profile.now ≡ profile_of environment line) × (mode ≡ mode_of line)
    × IsListOf (value_at (codes "LIST") line) list × AreListedRows mode line asked
IsListing environment line question = ⊥

-- what `show-config` requests
abbrev pub IsShowing : Environment → Line → Question → Type 0
IsShowing environment line (questions.ShowConfig profile keys with_hidden) =
    (profile.now ≡ profile_of environment line)
    × (map (λ key. key.now) keys.items ≡ values_at (codes "KEY") line)
    × IsFlag (codes "hidden") line with_hidden
IsShowing environment line question = ⊥

-- whether warnings are denied: what `--deny` names is warnings
abbrev pub IsDenialBy : Line → Option (List ℕ) → Bool → Type 0
IsDenialBy line (Some word) is_denied = (word ≡ codes "warnings") × (is_denied ≡ true)
IsDenialBy line None is_denied = IsFlag (codes "deny-warnings") line is_denied

-- what `check` requests
abbrev pub IsChecking : Line → Question → Type 0
IsChecking line (questions.Check deny_warnings) =
    IsDenialBy line (value_at (codes "deny") line) deny_warnings
IsChecking line question = ⊥

-- The words of a request are those of a line of a command: the KEYs as the line has them, in their
-- order, and the KEYs of `--why` and of `--by`.
pub record AreCommandWords (command : ReportCommand) (line : Line) (words : CommandWords) : Type 0
  where
    pub command_is : words.command ≡ command
    pub keys : map (λ key. key.now) words.keys.items ≡ keys_of line
    pub why : option_map (λ key. key.now) words.why ≡ value_at (codes "why") line
    pub by : option_map (λ key. key.now) words.by ≡ value_at (codes "by") line

-- What all requests have of a line: files, features, and the paper of pages.
pub record HasLine (IsConfig : ConfigFile → Type 0) (environment : Environment) (line : Line)
    (request : Request) : Type 0 where
  pub files : AreFilesOf IsConfig line request.files
  pub features : AreFeaturesNamed environment line request.features
  pub paper : IsPaperOf environment line request.paper

-- A request is that of a line of `explain`.
pub record IsExplainRequest (environment : Environment) (line : Line) (request : Request)
    : Type 0 where
  pub question : IsExplainedBy environment line (value_at (codes "why") line) request.question
  pub words : AreCommandWords reports.Explain line request.words
  pub source : request.profile_source ≡ source_of environment line
  pub line_is : HasLine (IsConfigOf line) environment line request
  pub engines : AreEnginesOf environment line request.engines
  pub target : value_at (codes "list") line ≡ None → ¬ LacksTarget environment line
  pub format : IsFormatOf environment line request.format
  pub progress : request.shows_progress ≡ false

-- A request is that of a line of `list`.
pub record IsListRequest (environment : Environment) (line : Line) (request : Request)
    : Type 0 where
  pub question : IsListing environment line request.question
  pub words : AreCommandWords reports.List line request.words
  pub source : request.profile_source ≡ source_of environment line
  pub line_is : HasLine (IsConfigOf line) environment line request
  pub engines : AreEnginesOf environment line request.engines
  pub format : IsListFormat environment line request.format
  pub progress : request.shows_progress
      ≡ (environment.is_error_terminal && not environment.is_terminal)

-- A request is that of a line of `show-config`.
pub record IsShowRequest (environment : Environment) (line : Line) (request : Request)
    : Type 0 where
  pub question : IsShowing environment line request.question
  pub words : AreCommandWords reports.ShowConfig line request.words
  pub source : request.profile_source ≡ source_of environment line
  pub line_is : HasLine (IsConfigOf line) environment line request
  pub engines : AreEnginesOf environment line request.engines
  pub target : ¬ LacksTarget environment line
  pub format : IsFormatOf environment line request.format
  pub progress : request.shows_progress ≡ false

-- A request is that of a line of `check`.
pub record IsCheckRequest (environment : Environment) (line : Line) (request : Request)
    : Type 0 where
  pub question : IsChecking line request.question
  pub words : AreCommandWords reports.Check line request.words
  pub source : request.profile_source ≡ sources.Fallback
  pub line_is : HasLine (IsCheckedFile line) environment line request
  pub engines : AreFileEngines line request.engines
  pub format : IsFormatOf environment line request.format
  pub progress : request.shows_progress ≡ false

-- what a line of `check` asks for, by the word of `--explain` and by `--codes`
abbrev pub IsCheckBy : Environment → Line → Option (List ℕ) → Command → Type 0
IsCheckBy environment line (Some word) (commands.CodePage code) = code_word code ≡ word
IsCheckBy environment line None commands.Codes =
    (lists_codes : Bool) × IsFlag (codes "codes") line lists_codes × (lists_codes ≡ true)
IsCheckBy environment line None (commands.Answer request) =
    (lists_codes : Bool) × IsFlag (codes "codes") line lists_codes × (lists_codes ≡ false)
    × IsCheckRequest environment line request
IsCheckBy environment line word command = ⊥

-- what a line of `schema` asks for
abbrev pub IsSchemaBy : Line → Command → Type 0
IsSchemaBy line commands.Schema = IsFlag (codes "document") line false
IsSchemaBy line commands.DocumentSchema = IsFlag (codes "document") line true
IsSchemaBy line command = ⊥

-- a command answers a request
abbrev pub IsAnswerTo : (Request → Type 0) → Command → Type 0
IsAnswerTo IsOne (commands.Answer request) = IsOne request
IsAnswerTo IsOne command = ⊥

-- the command of a line, by whether it is `explain`, `list`, `show-config` or `schema`: if it is
-- none of them, it is `check`
abbrev pub IsCommandBy : Bool → Bool → Bool → Bool → Environment → Line → Command → Type 0
IsCommandBy true is_list is_show is_schema environment line command =
    IsAnswerTo (IsExplainRequest environment line) command
IsCommandBy false true is_show is_schema environment line command =
    IsAnswerTo (IsListRequest environment line) command
IsCommandBy false false true is_schema environment line command =
    IsAnswerTo (IsShowRequest environment line) command
IsCommandBy false false false true environment line command = IsSchemaBy line command
IsCommandBy false false false false environment line command =
    IsCheckBy environment line (value_at (codes "explain") line) command

-- the command of a line behind the name of a command
abbrev pub IsNamedCommand : Environment → List ℕ → Line → Command → Type 0
IsNamedCommand environment name line command =
    IsCommandBy (bytes_eq name (codes "explain")) (bytes_eq name (codes "list"))
    (bytes_eq name (codes "show-config")) (bytes_eq name (codes "schema")) environment line command

-- the command of what was read: a name and a line
abbrev pub IsCommandOf : Environment → Option (List ℕ × Line) → Command → Type 0
IsCommandOf environment None command = ⊥
IsCommandOf environment (Some read) command = IsNamedCommand environment read.0 read.1 command

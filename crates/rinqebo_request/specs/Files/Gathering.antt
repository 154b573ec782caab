-- The files that a request names, as a reader gives them.
use Rattle.std.specs.Prelude.{◌≡◌, ℕ, List, Bool, true, false, Option, None, Some, MatchOption, codes, map, option_map, string_bytes}
use Rattle.std.specs.Borrow.{Bor}
use Rattle.std.specs.List.{AllZip}
use Rattle.nextest_elements.specs.IdentifierText.{tool_name_text}
use Rattle.nextest_scripts.specs.Paths.{joined_path}
use Rattle.nextest_sources.specs.Sources.{Outcome, text, not_found, not_a_directory, failed, InputFile, ToolFile, file_view, tool_file_view}
use Rattle.rinqebo_request.specs.declared.files.gathering.GatherFault.{GatherFault}
use Rattle.rinqebo_request.specs.declared.files.gathering.GatherFault.TheVariants as faults
use Rattle.rinqebo_request.specs.declared.files.gathering.Gathered.{Gathered}
use Rattle.rinqebo_request.specs.declared.named.FileOption.{FileOption}
use Rattle.rinqebo_request.specs.declared.named.FileOption.TheVariants as options
use Rattle.rinqebo_request.specs.declared.named.NamedFile.{NamedFile}
use Rattle.rinqebo_request.specs.declared.request.FileOptions.{FileOptions}
use Rattle.rinqebo_request.specs.declared.request.ConfigFile.{ConfigFile}
use Rattle.rinqebo_request.specs.declared.request.ConfigFile.TheVariants as kinds
use Rattle.rinqebo_request.specs.declared.request.ListFile.{ListFile}
use Rattle.rinqebo_request.specs.declared.request.ListFile.TheVariants as lists
use Rattle.rinqebo_request.specs.declared.request.Question.{Question}
use Rattle.rinqebo_request.specs.declared.request.Question.TheVariants as questions
use Rattle.rinqebo_request.specs.declared.request.Request.{Request}
use Rattle.rinqebo_request.specs.declared.request.ToolFile.{ToolFile as NamedToolFile}

-- the path of the workspace's own file
abbrev pub own_path : List ℕ → List ℕ
own_path root = joined_path root (codes ".config/nextest.toml")

-- whether no user names the repository's file
abbrev pub is_discovered : ConfigFile → Bool
is_discovered kinds.Discovered = true
is_discovered (kinds.Named path) = false
is_discovered (kinds.Input path) = false

-- the list of tests that a request names, if it names one
abbrev pub list_named : Question → Option ListFile
list_named (questions.Explain profile test asked) = test.list
list_named (questions.Why profile test setting) = test.list
list_named (questions.WhyRuns profile test) = test.list
list_named (questions.List profile mode list asked) = Some list
list_named (questions.ShowConfig profile keys with_hidden) = None
list_named (questions.Check deny_warnings) = None

-- what is left of standard input for the repository's file: nothing, if it is the list of tests
abbrev pub input_left : Option ListFile → Outcome → Outcome
input_left (Some lists.Input) input = not_found
input_left (Some (lists.Named path)) input = input
input_left None input = input

-- an outcome is a text
abbrev pub IsText : Outcome → List ℕ → Type 0
IsText outcome bytes = outcome ≡ text bytes

-- A file is the one at a path, and a reader gives the outcome of reading it.
pub record IsReadAt (gives : List ℕ → Outcome → Type 0) (path : List ℕ) (file : InputFile)
    : Type 0 where
  pub path_is : file.path ≡ path
  pub given : gives path file.outcome

-- A file is the workspace's own. It is not read if a user names the repository's file.
pub record IsOwnFile (gives : List ℕ → Outcome → Type 0) (root : List ℕ) (named : ConfigFile)
    (file : InputFile) : Type 0 where
  pub path_is : file.path ≡ own_path root
  pub given : is_discovered named ≡ true → gives (own_path root) file.outcome
  pub unread : is_discovered named ≡ false → file.outcome ≡ not_found

-- a file is the one at a path, as a reader gives it, if there is a path, and else there is none
abbrev pub IsFileIn : (List ℕ → Outcome → Type 0) → Option (Bor (List ℕ)) → Option InputFile
    → Type 0
IsFileIn gives None file = file ≡ None
IsFileIn gives (Some path) file = MatchOption file ⊥ (IsReadAt gives path.now)

-- a file is that of the repository which a user names, if one does: the one at a path, or standard
-- input
abbrev pub IsNamedFile : (List ℕ → Outcome → Type 0) → ConfigFile → Outcome → Option InputFile
    → Type 0
IsNamedFile gives kinds.Discovered input file = file ≡ None
IsNamedFile gives (kinds.Named path) input file = MatchOption file ⊥ (IsReadAt gives path.now)
IsNamedFile gives (kinds.Input path) input file =
    file ≡ Some (record { path = path.now; outcome = input })

-- A file is that of a tool, at the path that a user names.
pub record IsToolFile (gives : List ℕ → Outcome → Type 0) (named : NamedToolFile) (read : ToolFile)
    : Type 0 where
  pub tool : read.tool ≡ tool_name_text named.tool
  pub is_file : IsReadAt gives named.path.now read.file

-- bytes are the text of the file at a path, as a reader gives it, if there is a path, and else there
-- are none
abbrev pub IsTextAt : (List ℕ → Outcome → Type 0) → Option (Bor (List ℕ)) → Option (List ℕ)
    → Type 0
IsTextAt gives None bytes = bytes ≡ None
IsTextAt gives (Some path) bytes = MatchOption bytes ⊥ (λ bytes. gives path.now (text bytes))

-- bytes are the text of a list of tests, if a request names one: of a file, or of standard input
abbrev pub IsListText : (List ℕ → Outcome → Type 0) → Option ListFile → Outcome
    → Option (List ℕ) → Type 0
IsListText gives None input bytes = bytes ≡ None
IsListText gives (Some (lists.Named path)) input bytes =
    MatchOption bytes ⊥ (λ bytes. gives path.now (text bytes))
IsListText gives (Some lists.Input) input bytes = MatchOption bytes ⊥ (IsText input)

-- Files are those that a request names: each is what a reader gives for its path, and those of
-- tools are in the order of the command line. Where the request reads standard input, that has an
-- outcome.
pub record AreFilesFor (gives : List ℕ → Outcome → Type 0) (request : Request) (input : Outcome)
    (gathered : Gathered) : Type 0 where
  pub own : IsOwnFile gives (string_bytes gathered.paths.workspace_root) request.files.config_file
      (file_view gathered.paths.shared)
  pub named : IsNamedFile gives request.files.config_file
      (input_left (list_named request.question) input) (option_map file_view gathered.config_file)
  pub organisation : IsFileIn gives request.files.organisation_config_file
      (option_map file_view gathered.organisation_file)
  pub tools : AllZip (IsToolFile gives) request.files.tools.items
      (map tool_file_view gathered.tools.items)
  pub rustc_version : IsTextAt gives request.engines.rustc_version
      (option_map string_bytes gathered.rustc_version)
  pub host_cfg : IsTextAt gives request.engines.host_cfg
      (option_map string_bytes gathered.host_cfg)
  pub target_cfg : IsTextAt gives request.engines.target_cfg
      (option_map string_bytes gathered.target_cfg)
  pub metadata : IsTextAt gives request.engines.metadata
      (option_map string_bytes gathered.metadata)
  pub list : IsListText gives (list_named request.question) input
      (option_map string_bytes gathered.list)

-- why an outcome is no text
abbrev pub IsReason : Outcome → List ℕ → Type 0
IsReason (text bytes) reason = ⊥
IsReason not_found reason = reason ≡ codes "no such file"
IsReason not_a_directory reason = reason ≡ codes "a part of it is not a directory"
IsReason (failed message) reason = reason ≡ message

-- a fault is that the file at a path, which an option names, has no text, for a reason
abbrev pub IsUnreadable : List ℕ → FileOption → List ℕ → GatherFault → Type 0
IsUnreadable path option reason (faults.Unreadable file why) =
    (option_map string_bytes file.path ≡ Some path) × (file.option ≡ option)
    × (string_bytes why ≡ reason)
IsUnreadable path option reason faults.NoRoot = ⊥
IsUnreadable path option reason (faults.NoFolder folder) = ⊥
IsUnreadable path option reason faults.Memory = ⊥

-- A fault is that the file at a path, which an option names, has no text: an outcome of reading it is
-- none, and the fault says why.
pub record IsUnread (path : List ℕ) (option : FileOption) (given : Outcome → Type 0)
    (file : NamedFile) (reason : List ℕ) : Type 0 where
  pub path_is : option_map string_bytes file.path ≡ Some path
  pub option_is : file.option ≡ option
  pub outcome : Outcome
  pub is_given : given outcome
  pub reason_is : IsReason outcome reason

-- the text of an option is not read: the file at its path has none, or memory ran out
abbrev pub IsNoText : List ℕ → FileOption → (Outcome → Type 0) → GatherFault → Type 0
IsNoText path option given (faults.Unreadable file reason) =
    IsUnread path option given file (string_bytes reason)
IsNoText path option given faults.Memory = Unit {0}
IsNoText path option given faults.NoRoot = ⊥
IsNoText path option given (faults.NoFolder folder) = ⊥

-- the text of an option is not read, if it names a path
abbrev pub IsNoTextIn : (List ℕ → Outcome → Type 0) → Option (Bor (List ℕ)) → FileOption
    → GatherFault → Type 0
IsNoTextIn gives None option fault = ⊥
IsNoTextIn gives (Some path) option fault = IsNoText path.now option (gives path.now) fault

-- the list of tests is not read, if a request names one: a file, or standard input
abbrev pub IsNoList : (List ℕ → Outcome → Type 0) → Option ListFile → Outcome → GatherFault
    → Type 0
IsNoList gives None input fault = ⊥
IsNoList gives (Some (lists.Named path)) input fault =
    IsNoText path.now options.List (gives path.now) fault
IsNoList gives (Some lists.Input) input fault =
    IsNoText (codes "-") options.List (λ outcome. outcome ≡ input) fault

-- there is no folder at a path, or memory ran out
abbrev pub IsNoFolder : List ℕ → GatherFault → Type 0
IsNoFolder path (faults.NoFolder folder) = string_bytes folder ≡ path
IsNoFolder path faults.Memory = Unit {0}
IsNoFolder path faults.NoRoot = ⊥
IsNoFolder path (faults.Unreadable file reason) = ⊥

-- no root is found, beside which no user names the repository's file; or memory ran out
abbrev pub IsNotFound : ConfigFile → GatherFault → Type 0
IsNotFound config_file faults.NoRoot = is_discovered config_file ≡ true
IsNotFound config_file faults.Memory = Unit {0}
IsNotFound config_file (faults.NoFolder folder) = ⊥
IsNotFound config_file (faults.Unreadable file reason) = ⊥

-- There is no root: none is named, and nor is the repository's file; or there is no folder at the
-- path that names it.
abbrev pub IsNoRoot : FileOptions → GatherFault → Type 0
IsNoRoot files faults.NoRoot =
    (files.root ≡ None) × (is_discovered files.config_file ≡ true)
IsNoRoot files (faults.NoFolder folder) =
    option_map (λ path. path.now) files.root ≡ Some (string_bytes folder)
IsNoRoot files faults.Memory = Unit {0}
IsNoRoot files (faults.Unreadable file reason) = ⊥

-- Why the files of a request are not read: there is no root, or a text that an option names is none.
pub data HasGatherCause (gives : List ℕ → Outcome → Type 0) (request : Request) (input : Outcome)
    (fault : GatherFault) : Type 0 where
  of_memory : fault ≡ faults.Memory → HasGatherCause gives request input fault
  of_root : IsNoRoot request.files fault → HasGatherCause gives request input fault
  of_list : IsNoList gives (list_named request.question) input fault
      → HasGatherCause gives request input fault
  of_rustc_version : IsNoTextIn gives request.engines.rustc_version options.RustcVersion fault
      → HasGatherCause gives request input fault
  of_host_cfg : IsNoTextIn gives request.engines.host_cfg options.HostCfg fault
      → HasGatherCause gives request input fault
  of_target_cfg : IsNoTextIn gives request.engines.target_cfg options.TargetCfg fault
      → HasGatherCause gives request input fault
  of_metadata : IsNoTextIn gives request.engines.metadata options.Metadata fault
      → HasGatherCause gives request input fault

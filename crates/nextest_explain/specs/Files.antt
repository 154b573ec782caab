-- The files that a command names, as they are read.
use Rattle.std.specs.Prelude.{◌≡◌, ℕ, List, Option, IfNone, IfSome, map, option_map, codes}
use Rattle.std.specs.Borrow.{Bor}
use Rattle.std.specs.List.{AllZip}
use Rattle.nextest_scripts.specs.Paths.{joined_path}
use Rattle.nextest_sources.specs.Inputs.{LoadInputs}
use Rattle.nextest_sources.specs.Sources.{Outcome, InputFile, ToolFile, file_view, tool_file_view}
use Rattle.nextest_elements.specs.IdentifierText.{tool_name_text}
use Rattle.nextest_explain.specs.declared.command.Command.{Command}
use Rattle.nextest_explain.specs.declared.options.ToolFile.{ToolFile as NamedToolFile}
use Rattle.nextest_explain.specs.declared.sources.Sources.{Sources}

-- what contracts see of files that were read
abbrev pub sources_view : Sources → LoadInputs
sources_view sources = record {
  shared = file_view sources.paths.shared;
  explicit = option_map file_view sources.config_file;
  organisation = option_map file_view sources.organisation_file;
  tools = map tool_file_view sources.tools.items;
}

-- The path of a workspace's own file.
abbrev pub shared_path : List ℕ → List ℕ
shared_path root = joined_path root (codes ".config/nextest.toml")

-- A file is the one at a path, and a reader may give the outcome of reading it.
pub record IsFileAt (gives : List ℕ → Outcome → Type 0) (path : List ℕ) (file : InputFile)
    : Type 0 where
  pub same : file.path ≡ path
  pub given : gives path file.outcome

-- A file is the workspace's own, which is read where no option names another.
pub record IsSharedFile (gives : List ℕ → Outcome → Type 0) (root : List ℕ)
    (named : Option (Bor (List ℕ))) (file : InputFile) : Type 0 where
  pub same : file.path ≡ shared_path root
  pub given : IfNone named (gives (shared_path root) file.outcome)

-- A file is the one at the path that an option names; without the option there is none.
pub record IsNamedFile (gives : List ℕ → Outcome → Type 0) (path : Option (Bor (List ℕ)))
    (file : Option InputFile) : Type 0 where
  pub same : option_map (λ file. file.path) file ≡ option_map (λ path. path.now) path
  pub given : IfSome file (λ file. gives file.path file.outcome)

-- A file is that of a tool at the path that an option names.
pub record IsToolFile (gives : List ℕ → Outcome → Type 0) (named : NamedToolFile) (read : ToolFile)
    : Type 0 where
  pub tool : read.tool ≡ tool_name_text named.tool
  pub is_file : IsFileAt gives named.path.now read.file

-- Files are those that a command names: each at its path, in the order of the options, as a reader
-- gives it.
pub record AreFilesOf (gives : List ℕ → Outcome → Type 0) (command : Command) (files : LoadInputs)
    : Type 0 where
  pub shared : IsSharedFile gives command.root.now command.options.config_file files.shared
  pub explicit : IsNamedFile gives command.options.config_file files.explicit
  pub organisation : IsNamedFile gives command.options.organisation_config_file files.organisation
  pub tools : AllZip (IsToolFile gives) command.options.tool_files.items files.tools

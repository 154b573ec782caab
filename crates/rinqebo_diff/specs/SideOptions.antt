-- The options of a side of a `diff`.
use Rattle.std.specs.Prelude.{◌≡◌, List, codes}
use Rattle.std.specs.List.{AllZip}
use Rattle.rinqebo_request.specs.Lines.{Line, value_at, values_at}
use Rattle.rinqebo_request.specs.Requests.{AreEnginesOf, AreFilesOf, IsConfigOf, IsListOf, IsToolNamed, mode_of, profile_of, source_of}
use Rattle.rinqebo_request.specs.declared.environment.Environment.{Environment}
use Rattle.rinqebo_request.specs.declared.request.FileOptions.{FileOptions}
use Rattle.rinqebo_request.specs.declared.request.ListFile.{ListFile}
use Rattle.rinqebo_request.specs.declared.request.ToolFile.{ToolFile}
use Rattle.rinqebo_diff.specs.declared.side_options.SideOptions.{SideOptions}

-- files of tools are those of a line
abbrev pub AreToolsOf : Line → List ToolFile → Type 0
AreToolsOf line tools = AllZip IsToolNamed (values_at (codes "tool-config-file") line) tools

-- files are those of a line, with the repository's file that an option names, if one does
abbrev pub AreSideFilesOf : Line → FileOptions → Type 0
AreSideFilesOf line files = AreFilesOf (IsConfigOf line) line files

-- a list of tests is the one of a line
abbrev pub IsSideListOf : Line → ListFile → Type 0
IsSideListOf line list = IsListOf (value_at (codes "LIST") line) list

-- Options are those of a line.
pub record AreSideOptions (environment : Environment) (line : Line) (options : SideOptions)
    : Type 0 where
  pub profile : options.profile.now ≡ profile_of environment line
  pub source : options.profile_source ≡ source_of environment line
  pub mode : options.mode ≡ mode_of line
  pub list : IsSideListOf line options.list
  pub files : AreSideFilesOf line options.files
  pub engines : AreEnginesOf environment line options.engines

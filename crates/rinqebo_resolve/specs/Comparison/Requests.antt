-- Requests of the program for what changes between two runs.
use Rattle.std.specs.Prelude.{◌≡◌, Bool, true}
use Rattle.rinqebo_diff.specs.Asked.{AreAll}
use Rattle.rinqebo_diff.specs.declared.request.DiffFormat.TheVariants as formats
use Rattle.rinqebo_diff.specs.declared.request.DiffRequest.{DiffRequest}
use Rattle.rinqebo_diff.specs.declared.request.DiffSide.{DiffSide}
use Rattle.rinqebo_report.specs.declared.reported_request.ReportCommand.TheVariants as commands
use Rattle.rinqebo_resolve.specs.Asking.{RequestedText, IsRequestFor}

-- A side is what a run requests of its files.
pub record IsSideFor (asked : RequestedText) (side : DiffSide) : Type 0 where
  pub request : IsRequestFor commands.Diff asked side.request
  pub profile : side.profile.now ≡ asked.profile
  pub mode : side.mode ≡ asked.mode

-- A request is for what changes from one run to another: for all settings of their tests and for
-- the whole run, as a document of JSON.
pub record IsRequestBetween (left right : RequestedText) (with_origins : Bool)
    (request : DiffRequest) : Type 0 where
  pub from : IsSideFor left request.from
  pub to : IsSideFor right request.to
  pub compared : AreAll request.compared.asked
  pub run : request.with_run ≡ true
  pub origins : request.with_origins ≡ with_origins
  pub format : request.format ≡ formats.Json

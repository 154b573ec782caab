-- That a report is one of a session, and that it has an error.
use Rattle.std.specs.Prelude.{◌≡◌, Contains, List, map, string_bytes}
use Rattle.rinqebo_request.specs.Files.Origins.{reported_file}
use Rattle.rinqebo_load.specs.declared.session.Session.{Session}
use Rattle.rinqebo_report.specs.Requests.{request_shown}
use Rattle.rinqebo_report.specs.declared.finding.Finding.{Finding}
use Rattle.rinqebo_report.specs.declared.finding.Level.TheVariants as levels
use Rattle.rinqebo_report.specs.declared.report.Report.{Report}

-- A report is one of a session: it shows the request of the session, and has its root, and its
-- layers as the sources, in their order.
pub record IsReportOf (session : Session) (report : Report) : Type 0 where
  pub request : request_shown report.request ≡ request_shown session.request
  pub root : string_bytes report.root ≡ string_bytes session.gathered.now.paths.workspace_root
  pub sources : map reported_file report.sources.items
      ≡ map (λ layer. reported_file layer.source) session.layers.items

-- One of the findings of a report is an error.
pub record HasError (findings : List Finding) : Type 0 where
  pub finding : Finding
  pub among : Contains findings finding
  pub is_error : finding.level ≡ levels.Error

-- Warnings of a load, as reports show them.
use Rattle.std.proofs.Common.{◌≡◌, ◌∙◌, ◌++◌, [], List, append-nil, ap, subst, sym}
use Rattle.nextest_sources.specs.Warnings.{Warning}
use Rattle.rinqebo_findings.specs.Warnings.{ReportWarnings}
use Rattle.rinqebo_load.specs.Warned.{warnings_met}
use Rattle.rinqebo_load.specs.declared.session.Session.{Session}
use Rattle.rinqebo_report.specs.declared.finding.Finding.{Finding}
use Rattle.rinqebo_request.specs.declared.files.layers.Layer.{Layer}
use Rattle.rinqebo_results.specs.Warned.{BeginWithWarnings, ShowsWarnings}

-- findings that are those for warnings alone
pub begins_all : (layers these : List Layer) (warnings : List Warning) (findings : List Finding) → layers ≡ these
    → ReportWarnings layers warnings findings → BeginWithWarnings these warnings findings
begins_all layers these warnings findings same report = record {
  told = findings;
  reports = subst (λ ls. ReportWarnings ls warnings findings) same report;
  others = [];
  are = sym (append-nil findings);
}

-- the warnings that a load adds to none are those that it meets
pub warned_of : (session : Session) (old new : List Warning) (shown : List Finding) → old ≡ []
    → new ≡ old ++ warnings_met session → ShowsWarnings session.layers.items new shown
    → ShowsWarnings session.layers.items (warnings_met session) shown
warned_of session old new shown none added shows =
    subst (λ warnings. ShowsWarnings session.layers.items warnings shown)
    (added ∙ ap (λ ws. ws ++ warnings_met session) none) shows

use Rattle.std.proofs.Common.{◌≡◌, ◌≤◌, count_by, take}
use Rattle.rinqebo_report.specs.Pages.{is_warning}
use Rattle.rinqebo_report.proofs.check_page.warnings_of.Given as goal

abbrev pub invariant-loop-finding : goal.invariant-loop-finding
invariant-loop-finding l =
    (l.warnings ≡ count_by is_warning (take l.finding-index l.findings)) × (l.warnings ≤ l.finding-index)

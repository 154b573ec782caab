use Rattle.std.proofs.Common.{◌≡◌, ◌≤◌, count_by, take}
use Rattle.rinqebo_report.specs.Pages.{is_error}
use Rattle.rinqebo_report.proofs.check_page.errors_of.Given as goal

abbrev pub invariant-loop-finding : goal.invariant-loop-finding
invariant-loop-finding l =
    (l.errors ≡ count_by is_error (take l.finding-index l.findings)) × (l.errors ≤ l.finding-index)

use Rattle.std.proofs.Common.{◌≡◌, take}
use Rattle.rinqebo_report.specs.Pages.{widest}
use Rattle.rinqebo_report.proofs.explain_page.widest.Given as goal

abbrev pub invariant-loop-row : goal.invariant-loop-row
invariant-loop-row l = l.most ≡ widest (take l.row-index l.rows)

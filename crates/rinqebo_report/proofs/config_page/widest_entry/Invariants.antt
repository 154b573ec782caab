use Rattle.std.proofs.Common.{◌≡◌, take}
use Rattle.rinqebo_report.specs.Pages.{widest_entry}
use Rattle.rinqebo_report.proofs.config_page.widest_entry.Given as goal

abbrev pub invariant-loop-entry : goal.invariant-loop-entry
invariant-loop-entry l = l.most ≡ widest_entry (take l.entry-index l.entries)

use Rattle.std.proofs.Common.{◌≡◌, take}
use Rattle.rinqebo_report.specs.Excerpts.{number_width}
use Rattle.rinqebo_report.proofs.excerpt.number_width.Given as goal

abbrev pub invariant-loop-line : goal.invariant-loop-line
invariant-loop-line l = l.most ≡ number_width (take l.line-index l.lines)

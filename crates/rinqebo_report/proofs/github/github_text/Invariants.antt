use Rattle.std.proofs.Common.{◌≡◌, flat_map, take, string_bytes}
use Rattle.rinqebo_report.specs.Github.{github_line}
use Rattle.rinqebo_report.proofs.github.github_text.Given as goal

abbrev pub invariant-loop-finding : goal.invariant-loop-finding
invariant-loop-finding l =
    string_bytes l.text ≡ flat_map (github_line l.workspace l.report.sources.items)
    (take l.finding-index l.report.findings.items)

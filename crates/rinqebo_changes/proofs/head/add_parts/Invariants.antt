use Rattle.std.proofs.Common.{◌≡◌, ◌++◌, drop, map, string_bytes}
use Rattle.rinqebo_report.specs.Headers.{filled_runs, header_runs}
use Rattle.rinqebo_report.specs.Pieces.{page_text}
use Rattle.rinqebo_changes.proofs.head.add_parts.Given as goal

-- what is written so far, and the lines from the one that is begun on, are all lines
abbrev pub invariant-loop-part : goal.invariant-loop-part
invariant-loop-part l =
    string_bytes l.out ++ page_text l.paper.colour (filled_runs l.paper.columns (string_bytes l.line)
    (map string_bytes (drop l.part-index l.others)))
    ≡ string_bytes l.initial.out ++ page_text l.paper.colour (header_runs l.paper.columns l.first
    (map string_bytes l.others))

use Rattle.std.proofs.Common.{◌≡◌, ◌++◌, flat_map, map, take, string_bytes}
use Rattle.rinqebo_report.specs.Layout.{own_line_runs, said_view}
use Rattle.rinqebo_report.specs.Pieces.{page_text}
use Rattle.rinqebo_report.proofs.layout.add_apart.Given as goal

abbrev pub invariant-loop-text : goal.invariant-loop-text
invariant-loop-text l =
    string_bytes l.out ≡ string_bytes l.initial.out
    ++ page_text l.colour (flat_map (own_line_runs (said_view l.remarks))
    (map string_bytes (take l.text-index l.remarks.texts.items)))

use Rattle.std.proofs.Common.{◌≡◌, ◌++◌, flat_map, map, take, string_bytes}
use Rattle.rinqebo_report.specs.Codes.CodePages.{example_line}
use Rattle.rinqebo_report.proofs.codes.page.add_example.Given as goal

abbrev pub invariant-loop-line : goal.invariant-loop-line
invariant-loop-line l =
    string_bytes l.out ≡ string_bytes l.initial.out
    ++ flat_map example_line (map (λ line. line.now) (take l.line-index l.lines))

use Rattle.std.proofs.Common.{◌≡◌, ◌++◌, flat_map, take, string_bytes}
use Rattle.rinqebo_report.specs.Pages.{unreached_text}
use Rattle.rinqebo_report.proofs.check_page.add_all_unreached.Given as goal

abbrev pub invariant-loop-unreached : goal.invariant-loop-unreached
invariant-loop-unreached l =
    string_bytes l.out ≡ string_bytes l.initial.out
    ++ flat_map (unreached_text l.root l.sources) (take l.unreached-index l.all)

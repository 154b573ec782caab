use Rattle.std.proofs.Common.{◌≡◌, ◌++◌, take, codes, string_bytes}
use Rattle.rinqebo_report.specs.Joined.{joined, separator_after}
use Rattle.rinqebo_report.proofs.layout.add_joined.Given as goal

abbrev pub invariant-loop-text : goal.invariant-loop-text
invariant-loop-text l =
    (string_bytes l.out ≡ string_bytes l.initial.out
    ++ joined (codes ", ") string_bytes (take l.text-index l.texts))
    × (l.separator ≡ separator_after (codes ", ") (take l.text-index l.texts))

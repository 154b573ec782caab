use Rattle.std.proofs.Common.{◌≡◌, ◌++◌, take, codes, string_bytes}
use Rattle.rinqebo_report.specs.Joined.{joined, separator_after}
use Rattle.rinqebo_report.specs.OriginText.{origin_text}
use Rattle.rinqebo_report.proofs.origin_text.add_origins.Given as goal

abbrev pub invariant-loop-origin : goal.invariant-loop-origin
invariant-loop-origin l =
    (string_bytes l.out ≡ string_bytes l.initial.out
    ++ joined (codes ", ") (origin_text l.root l.sources) (take l.origin-index l.origins))
    × (l.separator ≡ separator_after (codes ", ") (take l.origin-index l.origins))

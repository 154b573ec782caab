use Rattle.std.proofs.Common.{◌≡◌, ◌++◌, take, codes, string_bytes}
use Rattle.rinqebo_report.specs.Joined.{joined, separator_after}
use Rattle.rinqebo_changes.proofs.head.add_chain.Given as goal

abbrev pub invariant-loop-profile : goal.invariant-loop-profile
invariant-loop-profile l =
    (string_bytes l.out ≡ string_bytes l.initial.out
    ++ joined (codes " < ") string_bytes (take l.profile-index l.chain))
    × (l.separator ≡ separator_after (codes " < ") (take l.profile-index l.chain))

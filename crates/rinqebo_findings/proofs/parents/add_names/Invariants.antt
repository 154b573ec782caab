use Rattle.std.proofs.Common.{ℕ, List, ◌++◌, map, string_bytes}
use Rattle.nextest_tree.specs.Node.{keys}
use Rattle.nextest_tree.specs.View.{entries_view}
use Rattle.rinqebo_findings.specs.Profiles.{AreNew}
use Rattle.rinqebo_findings.proofs.Profiles.{Left}
use Rattle.rinqebo_findings.proofs.parents.add_names.Given as goal

-- some of the names came, and others are left
abbrev pub invariant-loop-name : goal.invariant-loop-name
invariant-loop-name l =
    (came : List (List ℕ)) → AreNew came l.fn.seen l.fn.names.items
    → Left (came ++ keys (entries_view l.profiles.entries)) (map string_bytes l.name-iterator) l.seen l.names.items

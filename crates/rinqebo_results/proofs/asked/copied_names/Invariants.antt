use Rattle.std.proofs.Common.{◌≡◌, map, string_bytes, take}
use Rattle.nextest_inheritance.specs.View.{borrowed_view}
use Rattle.rinqebo_results.proofs.asked.copied_names.Given as goal

-- the names so far
abbrev pub invariant-loop-name : goal.invariant-loop-name
invariant-loop-name l = map string_bytes l.copies.items ≡ borrowed_view (take l.name-index l.names)

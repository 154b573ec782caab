use Rattle.std.proofs.Common.{◌≡◌, ◌++◌, map, take, string_bytes}
use Rattle.std.specs.List.{flat_map}
use Rattle.nextest_explain.specs.Engines.FilterValues.{term_of}
use Rattle.nextest_explain.specs.Engines.Filters.{term_leaves}
use Rattle.nextest_explain.proofs.engines.filters.with_leaves.Given as goal

abbrev pub invariant-loop-term : goal.invariant-loop-term
invariant-loop-term l =
    map string_bytes l.found.items ≡ map string_bytes l.fn.found.items
    ++ flat_map term_leaves (map term_of (take l.term-index l.terms))

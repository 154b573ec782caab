use Rattle.std.proofs.Common.{◌≡◌, map, take, string_bytes}
use Rattle.nextest_explain.specs.Engines.FilterValues.{lists_of}
use Rattle.nextest_explain.specs.Engines.Filters.{filter_leaves}
use Rattle.nextest_explain.proofs.engines.filters.ToyFiltersFilters.runtime_only_leaves.Given as goal

abbrev pub invariant-loop-terms : goal.invariant-loop-terms
invariant-loop-terms l = map string_bytes l.found.items ≡ filter_leaves (lists_of (take l.terms-index l.terms-items))

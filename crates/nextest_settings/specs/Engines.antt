-- The values of engines for what code holds: tests and binaries, by what filters mean,
-- and platforms that meet specs.
use Rattle.std.specs.Prelude.{Bool, Option}
use Rattle.nextest_engines.specs.Engines.{test_view, binary_view}
use Rattle.nextest_engines.specs.declared.filters.Filters as filters
use Rattle.nextest_engines.specs.declared.platforms.Specs as platforms
use Rattle.nextest_engines.specs.declared.queries.BinaryQuery.{BinaryQuery}
use Rattle.nextest_engines.specs.declared.queries.TestQuery.{TestQuery}
use Rattle.nextest_settings.specs.Deciding.{QueryContext}
use Rattle.nextest_settings.specs.Queries.{test_query, binary_query}

-- the test of a query, judged by an engine of filters beside a default filter
abbrev pub test_query_by : {F Expr Tally : Type 0} → (f : filters.Ghosts F Expr Tally)
    → (default : Expr) → TestQuery → QueryContext f.Meaning
test_query_by f default query = test_query f.holds (f.meaning default) (test_view query)

-- the binary of a query, judged the same way
abbrev pub binary_query_by : {F Expr Tally : Type 0} → (f : filters.Ghosts F Expr Tally)
    → (default : Expr) → BinaryQuery → QueryContext f.Meaning
binary_query_by f default query =
    binary_query f.holds_binary (f.meaning default) (binary_view query)

-- whether a platform meets a spec, by an engine of platform specs, or none where that is unknown
abbrev pub meets_by : {S Spec P : Type 0} → (s : platforms.Ghosts S Spec P) → Spec → P
    → Option Bool
meets_by s spec platform = s.holds_on (s.spec_meaning spec) platform

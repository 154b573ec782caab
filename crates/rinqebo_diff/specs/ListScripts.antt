-- The tests of a list, as the script rules of a profile see them.
use Rattle.std.specs.Prelude.{Bool, List, map}
use Rattle.filter_inputs.specs.Lists.Lists.{ListTest}
use Rattle.nextest_engines.specs.Engines.{Test}
use Rattle.nextest_settings.specs.Deciding.{QueryContext}
use Rattle.nextest_settings.specs.Queries.{test_query}

-- tests of a list, judged by what filters match where the default filter means `default`
abbrev pub judged : {M : Type 0} → (M → Test → M → Bool) → (default : M) → List ListTest
    → List (QueryContext M)
judged holds default tests = map (test_query holds default) (map (λ t. t.test) tests)

use Rattle.std.proofs.Common.{◌≡◌, ◌++◌, ℕ, List, map, take, option_map, filter, reverse}
use Rattle.nextest_elements.specs.declared.test_group.TestGroup.TheVariants.{Custom}
use Rattle.nextest_engines.specs.Engines.{test_view}
use Rattle.nextest_settings.specs.Chains.{first_of}
use Rattle.nextest_settings.specs.GroupView.{custom_group_in}
use Rattle.nextest_settings.specs.Queries.{custom_group_by, is_of_name}
use Rattle.nextest_settings.specs.View.{meant_override}
use Rattle.nextest_settings.proofs.evaluated.EvaluatedRules.precompute_group_memberships.Given as goal

abbrev pub invariant-loop-query : goal.invariant-loop-query
invariant-loop-query g l =
    let F = g.F.Filters in
    let numbers = g.F.Tally.Tally.numbers in
    let overrides = map (meant_override F.meaning) l.self.overrides.items in
    record {
      groups : (binary_id name : List ℕ) → option_map (λ group. Custom group) (custom_group_in l.found binary_id name)
          ≡ first_of (custom_group_by F.holds (F.meaning l.self.default_filter.expr.now) overrides)
          (reverse (filter (is_of_name binary_id name) (map test_view (take l.query-index l.queries))));
      tally : (added : List ℕ) × (numbers l.tally ≡ numbers l.fn.tally ++ added);
    }

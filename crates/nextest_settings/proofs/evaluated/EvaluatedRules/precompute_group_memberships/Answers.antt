use Rattle.std.proofs.Common.{◌∙◌, ◌++◌, ap, refl, map, append_assoc}
use Rattle.nextest_engines.specs.Engines.{test_view}
use Rattle.nextest_settings.specs.Queries.{custom_group_by}
use Rattle.nextest_settings.specs.View.{meant_override}
use Rattle.nextest_settings.proofs.LastGroup.{groups_turn}
use Rattle.nextest_settings.proofs.evaluated.EvaluatedRules.precompute_group_memberships.Goals as goal

pub loop-query-preserved : goal.loop-query-preserved
loop-query-preserved g c =
    let F = g.F.Filters in
    let numbers = g.F.Tally.Tally.numbers in
    let f = custom_group_by F.holds (F.meaning c.args.self.now.default_filter.expr.now)
    (map (meant_override F.meaning) c.args.self.now.overrides.items) in
    let before = c.loop-query.invariant.tally in
    let more = c.custom_group-group.ensures.tally in
    record {
      groups = λ id name. groups_turn f test_view c.args.queries.now c.loop-query.query-index _ _
          c.loop-query-test.true refl _ _ id name (c.loop-query.invariant.groups id name)
          (rw c.custom_group-group.ensures.group at (c.in_ok-note.ensures id name));
      tally = (before.0 ++ more.0, more.1 ∙ ap (λ t. t ++ more.0) before.1 ∙ append_assoc _ before.0 more.0);
    }

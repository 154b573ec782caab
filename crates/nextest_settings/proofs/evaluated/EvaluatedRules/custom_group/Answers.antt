use Rattle.std.proofs.Common.{◌≡◌, ◌∙◌, map, ap, option_map, option_and_then}
use Rattle.nextest_elements.specs.declared.run_mode.NextestRunMode.TheVariants.{Test}
use Rattle.nextest_settings.specs.Engines.{test_query_by}
use Rattle.nextest_settings.specs.Queries.{deciding_override, custom_group}
use Rattle.nextest_settings.specs.View.{meant_override}
use Rattle.nextest_elements.specs.declared.setting.Setting.TheVariants as at
use Rattle.nextest_settings.proofs.LastGroup.{group_by_slot}
use Rattle.nextest_settings.proofs.ValueBy.{slot_is}
use Rattle.nextest_settings.proofs.evaluated.EvaluatedRules.custom_group.Goals as goal

pub returns-in-Some-clause-group : goal.returns-in-Some-clause-group
returns-in-Some-clause-group g c =
    let F = g.F.Filters in
    let query = test_query_by F c.args.cx.now.default_filter.now c.args.query.now in
    let overrides = map (meant_override F.meaning) c.args.self.now.overrides.items in
    let slot : option_map (meant_override F.meaning) c.group_slot.result
    ≡ deciding_override query Test overrides at.TestGroup =
    rw c.group_slot.ensures (slot_is (meant_override F.meaning) c.winners-winners.result
    (λ s. deciding_override query Test overrides s)
    (rw c.deref.ensures.value at c.winners-winners.ensures.winners) at.TestGroup) in
    let decided = group_by_slot (meant_override F.meaning) c.group_slot.result
    (deciding_override query Test overrides at.TestGroup) slot in
    c.written_group.ensures ∙ ap (λ s. option_and_then custom_group s.test_group) c.settings.ensures
    ∙ (rw c.in-Some.is at decided)

pub returns-in-None-clause-group : goal.returns-in-None-clause-group
returns-in-None-clause-group g c =
    let F = g.F.Filters in
    let query = test_query_by F c.args.cx.now.default_filter.now c.args.query.now in
    let overrides = map (meant_override F.meaning) c.args.self.now.overrides.items in
    let slot : option_map (meant_override F.meaning) c.group_slot.result
    ≡ deciding_override query Test overrides at.TestGroup =
    rw c.group_slot.ensures (slot_is (meant_override F.meaning) c.winners-winners.result
    (λ s. deciding_override query Test overrides s)
    (rw c.deref.ensures.value at c.winners-winners.ensures.winners) at.TestGroup) in
    let decided = group_by_slot (meant_override F.meaning) c.group_slot.result
    (deciding_override query Test overrides at.TestGroup) slot in
    rw c.in-None.is at decided

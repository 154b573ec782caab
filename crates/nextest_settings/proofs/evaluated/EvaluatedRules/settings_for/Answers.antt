use Rattle.std.proofs.Common.{map, refl, None}
use Rattle.nextest_elements.specs.declared.test_group.TestGroup.TheVariants.{Global}
use Rattle.nextest_settings.specs.Engines.{test_query_by}
use Rattle.nextest_settings.specs.View.{meant_override, meant_script_rule}
use Rattle.nextest_settings.proofs.ValueBy.{values_shown, origins_shown, overrides_shown}
use Rattle.nextest_settings.proofs.evaluated.EvaluatedRules.settings_for.Goals as goal

pub returns-clause-values : goal.returns-clause-values
returns-clause-values g c = λ fields values s.
    let F = g.F.Filters in
    let query = test_query_by F c.args.self.now.default_filter.expr.now c.args.query.now in
    values_shown {Src = g.row.Source.Denot} F.meaning
    (record {
      values = c.args.values;
      mode = c.args.mode;
      global_group = Global;
      winners =
          record { slots = c.winners.result };
      run_wrapper = c.run_wrapper.result;
      mark = None;
    })
    query (map (meant_override F.meaning) c.args.self.now.overrides.items)
    (map (meant_script_rule F.meaning) c.args.self.now.script_rules.items)
    (rw c.deref.ensures.value at c.winners.ensures.winners)
    (rw c.deref-2.ensures.value at c.run_wrapper.ensures.id) fields values refl s

pub returns-clause-origins : goal.returns-clause-origins
returns-clause-origins g c = λ s.
    let F = g.F.Filters in
    let query = test_query_by F c.args.self.now.default_filter.expr.now c.args.query.now in
    origins_shown {Src = g.row.Source.Denot} F.meaning
    (record {
      values = c.args.values;
      mode = c.args.mode;
      global_group = Global;
      winners =
          record { slots = c.winners.result };
      run_wrapper = c.run_wrapper.result;
      mark = None;
    })
    query (map (meant_override F.meaning) c.args.self.now.overrides.items)
    (map (meant_script_rule F.meaning) c.args.self.now.script_rules.items)
    (rw c.deref.ensures.value at c.winners.ensures.winners) (rw c.deref-2.ensures.value at c.run_wrapper.ensures.id) s

pub returns-clause-overrides : goal.returns-clause-overrides
returns-clause-overrides g c = λ s.
    let F = g.F.Filters in
    let query = test_query_by F c.args.self.now.default_filter.expr.now c.args.query.now in
    overrides_shown {Src = g.row.Source.Denot} F.meaning
    (record {
      values = c.args.values;
      mode = c.args.mode;
      global_group = Global;
      winners =
          record { slots = c.winners.result };
      run_wrapper = c.run_wrapper.result;
      mark = None;
    })
    query (map (meant_override F.meaning) c.args.self.now.overrides.items)
    (map (meant_script_rule F.meaning) c.args.self.now.script_rules.items)
    (rw c.deref.ensures.value at c.winners.ensures.winners) (rw c.deref-2.ensures.value at c.run_wrapper.ensures.id) s

use Rattle.std.proofs.Common.{◌≡◌, ◌∙◌, ◌++◌, ◌&&◌, ◌==◌, Bor, Global, List, Some, Vec, ap, arith, false, length, map, not, slice_get, sym, true}
use Rattle.std.proofs.lemmas.List.{length-map, take_all}
use Rattle.nextest_rules.specs.View.{script_rule_view}
use Rattle.nextest_scripts.specs.ScriptId.{script_text}
use Rattle.nextest_scripts.specs.declared.script_id.ScriptId.{ScriptId}
use Rattle.nextest_settings.specs.Deciding.{rule_holds}
use Rattle.nextest_settings.specs.Engines.{test_query_by}
use Rattle.nextest_settings.specs.Queries.{is_enabled_for}
use Rattle.nextest_settings.specs.View.{meant_script_rule}
use Rattle.nextest_tables.specs.Written.{Name}
use Rattle.rinqebo_objects.proofs.Enabled.{enabled_more, enabled_same, found_not, found_to_hold}
use Rattle.rinqebo_objects.proofs.Gathered.{made_here}
use Rattle.rinqebo_objects.proofs.enabling.ids_by_rules.Goals as goal
use Rattle.rinqebo_objects.proofs.enabling.ids_by_rules.Goals.{then-holds_for_test+in_ok-add_script_ids, else-holds_for_test}

pub loop-rule-preserved : goal.loop-rule-preserved
loop-rule-preserved g c = λ id.
    let F = g.F.Filters in
    let meant = meant_script_rule F.meaning in
    let rules = map meant c.args.rules.now in
    let n = c.loop-rule.rule-index in
    let rule = meant c.rule-item.result in
    let query = test_query_by F c.args.cx.now.default_filter.now c.args.query.now in
    let stands : slice_get rules n ≡ Some rule =
    made_here c.args.rules.now n _ _ c.loop-rule-test.true c.rule-item.is meant in
    let views : Vec (Bor ScriptId) Global → List Name = λ ids. map (λ id. script_text id.now) ids.items in
    let names = rule.writes.scripts.setup in
    let named : map script_text c.setup-setup.result.now ≡ names =
    c.setup-setup.ensures ∙ ap (λ r. (script_rule_view r.now).writes.scripts.setup) c.rule.ensures in
    let some : not c.is_empty.result ≡ not (length names == 0) =
    ap not (c.is_empty.ensures ∙ ap (λ k. k == 0) (sym (length-map c.setup-setup.result.now script_text))
    ∙ ap (λ ids. length ids == 0) named) in
    let found : c.holds_for_test.result ≡ (rule_holds query rule && not (length names == 0)) =
    c.holds_for_test.ensures ∙ ap (λ b. rule_holds query rule && b) some in
    elim c.if-holds_for_test.branch [
      | then-holds_for_test+in_ok-add_script_ids w ↦
          enabled_more query id rules n rule stands (views c.loop-rule.ids) _ (c.loop-rule.invariant id)
          (ap views w.ids-is ∙ w.in_ok-add_script_ids.ensures ∙ ap (λ ns. views c.loop-rule.ids ++ ns) named)
          (found_to_hold (rule_holds query rule) (not (length names == 0)) (sym found ∙ w.if-holds_for_test.true))
      | else-holds_for_test w ↦
          enabled_same query id rules n rule stands (views c.loop-rule.ids) _ (c.loop-rule.invariant id)
          (ap views w.ids-is)
          (found_not (rule_holds query rule) names id (sym found ∙ w.if-holds_for_test.false))
    ]

pub returns : goal.returns
returns g c = λ id.
    let F = g.F.Filters in
    let meant = meant_script_rule F.meaning in
    let query = test_query_by F c.args.cx.now.default_filter.now c.args.query.now in
    c.loop-rule.invariant id
    ∙ ap (λ rules. is_enabled_for query rules id)
    (take_all c.loop-rule.rule-index (map meant c.args.rules.now)
    (omega (arith, c.loop-rule-test.false, length-map c.args.rules.now meant)))

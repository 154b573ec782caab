use Rattle.std.proofs.Common.{◌≡◌, ◌∙◌, IfOk, List, ap, map, subst, sym}
use Rattle.nextest_engines.specs.Engines.{test_view}
use Rattle.nextest_rules.specs.Rules.{ScriptRuleUse}
use Rattle.nextest_scripts.specs.ScriptId.{script_text}
use Rattle.nextest_settings.proofs.KnowsScripts.{fused}
use Rattle.nextest_settings.specs.Deciding.{QueryContext}
use Rattle.nextest_settings.specs.Platforms.{EvaluatedRule}
use Rattle.nextest_settings.specs.Profiles.Meaning.{profile_meaning}
use Rattle.nextest_settings.specs.Queries.{is_enabled_for, query_in, test_query}
use Rattle.nextest_settings.specs.View.{evaluated_script_rule_meaning, evaluated_script_rule_view, meant_script_rule}
use Rattle.nextest_tables.specs.Written.{Name}
use Rattle.nextest_tree.specs.Schema.{is_one_of}
use Rattle.rinqebo_objects.proofs.enabling.enabled_ids.Goals as goal

pub returns : goal.returns
returns g c =
    let F = g.F.Filters in
    let profile = profile_meaning F.meaning c.args.profile.now in
    let test = test_view c.args.query.now in
    let held = c.rules-rules.result.now.script_rules.items in
    let same : map (meant_script_rule F.meaning) c.deref.result.now ≡ profile.script_rules =
    ap (map (meant_script_rule F.meaning)) c.deref.ensures.value
    ∙ sym (fused (evaluated_script_rule_meaning F.meaning) evaluated_script_rule_view held)
    ∙ ap (map (evaluated_script_rule_meaning F.meaning)) c.rules-rules.ensures.script_rules in
    let Enabled : QueryContext F.Meaning → List (EvaluatedRule F.Meaning ScriptRuleUse) → Type 0 = λ query rules.
    IfOk c.ids_by_rules.result (λ ids. (id : Name) → is_one_of (map (λ id. script_text id.now) ids.items) id
    ≡ is_enabled_for query rules id) in
    subst (Enabled (query_in F.holds profile test)) same
    (subst (λ default. Enabled (test_query F.holds (F.meaning default) test)
    (map (meant_script_rule F.meaning) c.deref.result.now)) c.filterset_ecx-cx.ensures c.ids_by_rules.ensures)

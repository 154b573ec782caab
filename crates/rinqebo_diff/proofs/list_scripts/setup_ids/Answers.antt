use Rattle.std.proofs.Common.{◌≡◌, ◌∙◌, IfOk, List, ap, map, string_bytes, subst}
use Rattle.nextest_rules.specs.Rules.{ScriptRuleUse}
use Rattle.nextest_scripts.specs.ScriptTexts.{SetupScriptText}
use Rattle.nextest_settings.specs.Platforms.{EvaluatedRule}
use Rattle.nextest_settings.specs.Profiles.Meaning.{profile_meaning}
use Rattle.nextest_settings.specs.Queries.{enabled_by}
use Rattle.nextest_settings.specs.View.{evaluated_script_rule_view, meant_script_rule}
use Rattle.nextest_tables.specs.Written.{Name}
use Rattle.rinqebo_changes.specs.Sides.Matched.{tests_of}
use Rattle.rinqebo_rules.proofs.ScriptRules.{meant_scripts}
use Rattle.rinqebo_diff.specs.ListScripts.{judged}
use Rattle.rinqebo_diff.proofs.list_scripts.setup_ids.Goals as goal

pub returns : goal.returns
returns g c =
    let F = g.F.Filters in
    let profile = c.args.profile.now in
    let meant = profile_meaning F.meaning profile in
    let rules = c.deref.result.now in
    let default = F.meaning c.filterset_ecx-cx.result.default_filter.now in
    let Ids : F.Meaning → List (EvaluatedRule F.Meaning ScriptRuleUse) → List (Name × SetupScriptText) → Type 0 =
    λ filter by scripts. IfOk c.ids_by_rules.result (λ ids. map string_bytes ids.items
    ≡ map (λ script. script.0) (enabled_by (judged F.holds filter (tests_of c.args.binaries.now)) by scripts)) in
    subst (λ filter. Ids filter meant.script_rules meant.facts.scripts.setup) (ap F.meaning c.filterset_ecx-cx.ensures)
    (subst (λ by. Ids default by meant.facts.scripts.setup)
    (meant_scripts F.meaning profile rules
    (ap (map evaluated_script_rule_view) c.deref.ensures.value ∙ c.rules-rules.ensures.script_rules))
    (subst (λ tables. Ids default (map (meant_script_rule F.meaning) rules) tables.setup)
    c.script_config-scripts.ensures c.ids_by_rules.ensures))

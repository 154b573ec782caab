use Rattle.std.proofs.Common.{◌≡◌, ◌∙◌, ap, sym, subst, map}
use Rattle.std.specs.Result.{IfOk}
use Rattle.nextest_engines.specs.Engines.{test_view}
use Rattle.nextest_settings.specs.Engines.{test_query_by}
use Rattle.nextest_settings.specs.Queries.{query_in, enabled_by, enabled_scripts}
use Rattle.nextest_settings.specs.SetupView.{setup_scripts_view, setup_scripts_rules_view}
use Rattle.nextest_settings.specs.View.{meant_script_rule}
use Rattle.nextest_settings.specs.Profiles.Meaning.{profile_meaning}
use Rattle.nextest_settings.proofs.profiles.ProfileMeaning.{means_rules}
use Rattle.nextest_settings.proofs.profiles.evaluatable.EvaluatableProfile.setup_scripts.Goals as goal

pub returns-clause-scripts : goal.returns-clause-scripts
returns-clause-scripts g c =
    let meaning = g.F.Filters.meaning in
    let same = ap (profile_meaning meaning) (sym c.self.view_is)
    ∙ means_rules meaning c.self.inside.facts c.self.inside.rules in
    subst (λ p. IfOk c.setup_scripts.result
    (λ found. setup_scripts_view found
    ≡ enabled_scripts (map (λ query. query_in g.F.Filters.holds p (test_view query)) c.args.queries.now)
    p)) (sym same)
    (subst (λ scripts. IfOk c.setup_scripts.result
    (λ found. setup_scripts_view found
    ≡ enabled_by (map (test_query_by g.F.Filters c.self.inside.rules.default_filter.expr.now)
    c.args.queries.now) (map (meant_script_rule meaning) c.self.inside.rules.script_rules.items)
    scripts.setup)) c.scripts.ensures c.setup_scripts.ensures.scripts)

pub returns-clause-rules : goal.returns-clause-rules
returns-clause-rules g c =
    let meaning = g.F.Filters.meaning in
    let same = ap (profile_meaning meaning) (sym c.self.view_is)
    ∙ means_rules meaning c.self.inside.facts c.self.inside.rules in
    subst (λ p. IfOk c.setup_scripts.result
    (λ found. setup_scripts_rules_view meaning found ≡ p.script_rules)) (sym same) c.setup_scripts.ensures.rules

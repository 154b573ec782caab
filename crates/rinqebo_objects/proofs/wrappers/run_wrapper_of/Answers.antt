use Rattle.std.proofs.Common.{◌≡◌, ◌∙◌, ap, map, option_and_then, sym}
use Rattle.nextest_engines.specs.Engines.{test_view}
use Rattle.nextest_settings.proofs.KnowsScripts.{fused}
use Rattle.nextest_settings.specs.Profiles.Meaning.{profile_meaning}
use Rattle.nextest_settings.specs.Queries.{query_in, test_query, wrapping_rule}
use Rattle.nextest_settings.specs.View.{evaluated_script_rule_meaning, evaluated_script_rule_view, meant_script_rule}
use Rattle.rinqebo_objects.proofs.wrappers.run_wrapper_of.Goals as goal

pub returns : goal.returns
returns g c =
    let F = g.F.Filters in
    let profile = profile_meaning F.meaning c.args.profile.now in
    let test = test_view c.args.query.now in
    let held = c.rules-rules.result.now.script_rules.items in
    let same : map (meant_script_rule F.meaning) held ≡ profile.script_rules =
    sym (fused (evaluated_script_rule_meaning F.meaning) evaluated_script_rule_view held)
    ∙ ap (map (evaluated_script_rule_meaning F.meaning)) c.rules-rules.ensures.script_rules in
    c.run_wrapper_by.ensures
    ∙ ap (λ default. option_and_then (λ r. r.writes.scripts.run_wrapper)
    (wrapping_rule (test_query F.holds (F.meaning default) test) (map (meant_script_rule F.meaning) c.deref.result.now)))
    c.filterset_ecx-cx.ensures
    ∙ ap (λ rules. option_and_then (λ r. r.writes.scripts.run_wrapper)
    (wrapping_rule (query_in F.holds profile test) (map (meant_script_rule F.meaning) rules))) c.deref.ensures.value
    ∙ ap (λ rules. option_and_then (λ r. r.writes.scripts.run_wrapper)
    (wrapping_rule (query_in F.holds profile test) rules)) same

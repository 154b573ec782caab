use Rattle.std.proofs.Common.{◌∙◌, ap, false, map, not}
use Rattle.std.specs.List.{list_any}
use Rattle.rinqebo_rules.specs.VerdictsBy.{verdicts_by}
use Rattle.rinqebo_run.proofs.RunsReasons.{runs_here}
use Rattle.rinqebo_results.specs.RunsReasons.{default_answer, default_value, is_decision}
use Rattle.rinqebo_run.proofs.why_runs.runs_rules.Goals as goal

pub returns : goal.returns
returns c =
    let platforms = c.args.session.now.engines.platforms in
    let matches = c.is_matched_by_default-matches.result in
    let decided = c.has_decision-counts.ensures ∙ ap (list_any is_decision) c.deref-5.ensures.value in
    let verdicts = c.in_ok-verdicts.ensures
    ∙ ap (λ rules. verdicts_by false (map (λ rule. rule.facts) rules)) c.deref.ensures.value in
    let told = rw (c.deref-2.ensures.value, c.deref-3.ensures.value, c.deref-4.ensures.value) at c.in_ok-reported.ensures in
    runs_here c.args.session.now.layers.items platforms c.args.test.now c.listed-listed.result.query _
    c.args.profile.now matches c.in_ok-rules.rules.items c.in_ok-verdicts.verdicts.items
    c.in_ok-reported.reported.items c.in_ok-fallback.fallback _ _ c.in_ok-on.ensures.default_filter
    (ap (λ t. t.test) c.listed-listed.ensures) c.is_matched_by_default-matches.ensures
    (c.in_ok-rules.ensures _ c.in_ok-on.ensures.overrides) verdicts told c.in_ok-fallback.ensures.verdict
    (c.in_ok-fallback.ensures.filter ∙ ap (λ b. default_answer (not b) matches) decided)
    (c.in_ok-fallback.ensures.value ∙ ap (λ b. default_value (not b) matches) decided)
    c.in_ok-fallback.ensures.origins c.in_ok-fallback.ensures.text c.in_ok-fallback.ensures.host
    c.in_ok-fallback.ensures.target
    c.in_ok-push.ensures.items

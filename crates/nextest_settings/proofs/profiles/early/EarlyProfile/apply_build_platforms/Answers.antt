use Rattle.std.proofs.Common.{◌≡◌, sym, ap, ◌∙◌, map}
use Rattle.nextest_settings.specs.Engines.{meets_by}
use Rattle.nextest_settings.specs.Platforms.{rule_on}
use Rattle.nextest_settings.specs.View.{script_rule_ref_view, evaluated_script_rule_view}
use Rattle.nextest_settings.specs.Profiles.Known.{named_use, evaluated_use}
use Rattle.nextest_settings.proofs.profiles.KnowsScripts.{fused}
use Rattle.nextest_settings.proofs.profiles.AnswerForBinaries.{answers_kept}
use Rattle.nextest_settings.proofs.profiles.early.EarlyProfile.apply_build_platforms.Goals as goal

pub new-requires-clause-known : goal.new-requires-clause-known
new-requires-clause-known g c =
    let before = c.self.inside.rules.script_rules.items in
    let after = c.in-Ok.rules.script_rules.items in
    let on = rule_on (meets_by g.S.Specs) c.args.platforms.now in
    let read = ap (λ p. p.script_rules) (sym c.self.view_is) in
    let same : map evaluated_use after ≡ map named_use before =
    sym (fused (λ r. r.writes.scripts) evaluated_script_rule_view after)
    ∙ ap (map (λ r. r.writes.scripts)) (c.in-Ok.ensures.script_rules.on ∙ ap (map on) read)
    ∙ fused (λ r. r.writes.scripts) on (map script_rule_ref_view before)
    ∙ fused (λ r. r.writes.scripts) script_rule_ref_view before in
    rw same c.self.invariant.0

pub new-requires-clause-answers : goal.new-requires-clause-answers
new-requires-clause-answers g c =
    let before = c.self.inside.rules.script_rules.items in
    let after = c.in-Ok.rules.script_rules.items in
    let on = rule_on (meets_by g.S.Specs) c.args.platforms.now in
    let read = ap (λ p. p.script_rules) (sym c.self.view_is) in
    answers_kept g.F.Filters.holds_binary g.F.Filters.meaning g.S.Specs.spec_meaning (meets_by g.S.Specs)
    c.args.platforms.now before after (c.in-Ok.ensures.script_rules.on ∙ ap (map on) read) c.self.invariant.1

pub returns-in-Ok-clause-ok : goal.returns-in-Ok-clause-ok
returns-in-Ok-clause-ok g c =
    let facts = ap (λ p. p.facts) c.self.view_is in
    c.new.ensures ∙ (λ i. record {
      facts = facts i;
      overrides = c.in-Ok.ensures.overrides.on i;
      script_rules = c.in-Ok.ensures.script_rules.on i;
      default_filter = c.in-Ok.ensures.default_filter i;
    })

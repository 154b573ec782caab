use Rattle.std.proofs.Common.{◌∙◌, ◌∷◌, [], ap, is_some, length, lit<, map, option_map, subst, sym}
use Rattle.nextest_engines.specs.Engines.{test_view}
use Rattle.nextest_rules.specs.Accepted.{IfWritten}
use Rattle.nextest_rules.specs.Rules.{at_name}
use Rattle.nextest_settings.specs.Binaries.{AreKnownFor, EvaluatesOpen, binary_answer}
use Rattle.nextest_settings.specs.Deciding.{asked_from}
use Rattle.nextest_settings.specs.Queries.{query_in}
use Rattle.nextest_settings.specs.View.{KnowsRunWrappers}
use Rattle.nextest_elements.specs.declared.setting.Setting.TheVariants.{RunWrapper}
use Rattle.nextest_tables.specs.FileTexts.{names_in, IsIn}
use Rattle.nextest_settings.specs.Profiles.Known.{evaluated_use}
use Rattle.nextest_settings.specs.Profiles.Meaning.{profile_meaning}
use Rattle.nextest_settings.specs.Profiles.SettingsOf.{AreSettingsOf}
use Rattle.nextest_settings.proofs.KnownRules.{rules_known}
use Rattle.nextest_settings.proofs.profiles.EachRule.{each_before}
use Rattle.nextest_settings.proofs.profiles.ProfileMeaning.{means_rules}
use Rattle.nextest_settings.proofs.profiles.evaluatable.EvaluatableProfile.settings_by_answers.Goals as goal

pub open_settings_for-requires : goal.open_settings_for-requires
open_settings_for-requires g c =
    let there = each_before (λ named. IfWritten named.run_wrapper
    (IsIn (names_in c.self.inside.facts.scripts.wrapper))) evaluated_use
    c.self.inside.rules.script_rules.items c.self.invariant.0.run_wrappers in (
      lit< tt,
      subst (λ scripts. KnowsRunWrappers scripts c.self.inside.rules.script_rules.items)
          (sym c.scripts.ensures) there,
    )

pub returns-clause-settings : goal.returns-clause-settings
returns-clause-settings g c = λ are of.
    let F = g.F.Filters in
    let meaning = F.meaning in
    let same = ap (profile_meaning meaning) (sym c.self.view_is)
    ∙ means_rules meaning c.self.inside.facts c.self.inside.rules in
    let test = test_view c.args.query.now in
    let answers = c.args.answers.now in
    let profile = profile_meaning meaning c.args.self.now in
    let default = profile.default_filter.filter in
    let known : AreKnownFor (query_in F.holds profile test) profile.overrides answers.overrides.items =
    subst (AreKnownFor (query_in F.holds profile test) profile.overrides)
    (sym (are.0 ∙ ap (λ b. map (binary_answer F.holds_binary default b) profile.overrides) of))
    (rules_known F.holds F.holds_binary g.met.F.Filters.binaries_speak default test profile.overrides) in
    let here = subst (λ p. AreKnownFor (query_in F.holds p test) p.overrides c.overrides.result.now) same
    (subst (AreKnownFor (query_in F.holds profile test) profile.overrides) (sym c.overrides.ensures) known) in
    subst (λ p. AreSettingsOf meaning (query_in F.holds p test) c.args.mode p c.open_settings_for.result) (sym same)
    (record {
      values = c.open_settings_for.ensures.values here c.self.inside.facts.fields c.values-values.ensures;
      origins = c.open_settings_for.ensures.origins here;
      overrides = c.open_settings_for.ensures.overrides here;
      script_rule = c.open_settings_for.ensures.script_rule;
      wrapper = c.open_settings_for.ensures.wrapper
          ∙ (λ i. option_map (λ id. at_name id (c.scripts.ensures i).wrapper)
          (c.open_settings_for.ensures.values here c.self.inside.facts.fields c.values-values.ensures RunWrapper i));
    })

pub returns-clause-tally : goal.returns-clause-tally
returns-clause-tally g c =
    let F = g.F.Filters in
    let meaning = F.meaning in
    let same = ap (profile_meaning meaning) (sym c.self.view_is)
    ∙ means_rules meaning c.self.inside.facts c.self.inside.rules in
    let test = test_view c.args.query.now in
    subst (λ p. EvaluatesOpen c.args.answers.now.overrides.items
    (asked_from ((λ w. is_some w.scripts.run_wrapper) ∷ []) (length p.overrides) (query_in F.holds p test) [] p.script_rules)
    (g.F.Tally.Tally.numbers c.args.tally.now) (g.F.Tally.Tally.numbers c.open_settings_for.new.tally)) (sym same)
    (rw c.overrides.ensures at c.open_settings_for.ensures.tally)

use Rattle.std.proofs.Common.{◌≡◌, ◌∙◌, ◌++◌, ap, sym, subst, lit<, option_map}
use Rattle.nextest_engines.specs.Engines.{test_view}
use Rattle.nextest_rules.specs.Accepted.{IfWritten}
use Rattle.nextest_settings.specs.Queries.{query_in, evaluated_for_test}
use Rattle.nextest_rules.specs.Rules.{at_name}
use Rattle.nextest_elements.specs.declared.setting.Setting.TheVariants.{RunWrapper}
use Rattle.nextest_settings.specs.View.{KnowsRunWrappers}
use Rattle.nextest_tables.specs.FileTexts.{names_in, IsIn}
use Rattle.nextest_settings.specs.Profiles.Known.{evaluated_use}
use Rattle.nextest_settings.specs.Profiles.Meaning.{profile_meaning}
use Rattle.nextest_settings.specs.Profiles.SettingsOf.{AreSettingsOf}
use Rattle.nextest_settings.proofs.profiles.EachRule.{each_before}
use Rattle.nextest_settings.proofs.profiles.ProfileMeaning.{means_rules}
use Rattle.nextest_settings.proofs.profiles.evaluatable.EvaluatableProfile.settings_for.Goals as goal

pub settings_for-requires : goal.settings_for-requires
settings_for-requires g c =
    let there = each_before (λ named. IfWritten named.run_wrapper
    (IsIn (names_in c.self.inside.facts.scripts.wrapper))) evaluated_use
    c.self.inside.rules.script_rules.items c.self.invariant.0.run_wrappers in (
      lit< tt,
      subst (λ scripts. KnowsRunWrappers scripts c.self.inside.rules.script_rules.items)
          (sym c.scripts.ensures) there,
    )

pub returns : goal.returns
returns g c =
    let meaning = g.F.Filters.meaning in
    let same = ap (profile_meaning meaning) (sym c.self.view_is)
    ∙ means_rules meaning c.self.inside.facts c.self.inside.rules in
    let test = test_view c.args.query.now in
    record {
      settings = subst (λ p. AreSettingsOf meaning (query_in g.F.Filters.holds p test) c.args.mode p
          c.settings_for.result) (sym same) (record {
            values = c.settings_for.ensures.values c.self.inside.facts.fields c.values-values.ensures;
            origins = c.settings_for.ensures.origins;
            overrides = c.settings_for.ensures.overrides;
            script_rule = c.settings_for.ensures.script_rule;
            wrapper = c.settings_for.ensures.wrapper
                ∙ (λ i. option_map (λ id. at_name id (c.scripts.ensures i).wrapper)
                (c.settings_for.ensures.values c.self.inside.facts.fields c.values-values.ensures RunWrapper i));
          });
      tally = subst (λ p. g.F.Tally.Tally.numbers c.settings_for.new.tally
          ≡ g.F.Tally.Tally.numbers c.args.tally.now
          ++ evaluated_for_test (query_in g.F.Filters.holds p test) c.args.mode p) (sym same)
          c.settings_for.ensures.tally;
    }

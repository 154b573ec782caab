-- What a profile means whose rules code holds.
use Rattle.std.proofs.Common.{◌≡◌, map}
use Rattle.nextest_engines.specs.declared.filters.Filters as FilterGhosts
use Rattle.nextest_engines.specs.declared.filters.Tally as TallyGhosts
use Rattle.nextest_engines.specs.declared.platforms.Specs as SpecGhosts
use Rattle.nextest_settings.specs.FilterView.{filter_view}
use Rattle.nextest_settings.specs.Profile.{ProfileFacts, EvaluatableModel}
use Rattle.nextest_settings.specs.View.{evaluated_override_view, evaluated_script_rule_view, evaluated_override_meaning, evaluated_script_rule_meaning, meant_override, meant_script_rule}
use Rattle.nextest_settings.specs.declared.evaluated.EvaluatedRules.{EvaluatedRules}
use Rattle.nextest_settings.specs.Profiles.Meaning.{choice_meaning, profile_meaning}
use Rattle.nextest_settings.proofs.profiles.KnowsScripts.{fused}

module _ {F S E T N P M : Type 0} {filters : FilterGhosts.Ghosts F E T} {tally : TallyGhosts.Ghosts T}
    {specs : SpecGhosts.Ghosts S N P}
    (f : E → M) (facts : ProfileFacts) (rules : EvaluatedRules F S E T N P filters tally specs) where
  -- a profile, as its model has it
  abbrev pub held : EvaluatableModel E
  held = record {
    facts = facts;
    overrides = map evaluated_override_view rules.overrides.items;
    script_rules = map evaluated_script_rule_view rules.script_rules.items;
    default_filter = filter_view rules.default_filter;
  }

  -- what it means, rule by rule
  abbrev pub meant_profile : EvaluatableModel M
  meant_profile = record {
    facts = facts;
    overrides = map (meant_override f) rules.overrides.items;
    script_rules = map (meant_script_rule f) rules.script_rules.items;
    default_filter = choice_meaning f (filter_view rules.default_filter);
  }

  pub means_rules : profile_meaning f held ≡ meant_profile
  means_rules = λ i. record {
    facts = facts;
    overrides = fused (evaluated_override_meaning f) evaluated_override_view rules.overrides.items i;
    script_rules = fused (evaluated_script_rule_meaning f) evaluated_script_rule_view rules.script_rules.items i;
    default_filter = choice_meaning f (filter_view rules.default_filter);
  }

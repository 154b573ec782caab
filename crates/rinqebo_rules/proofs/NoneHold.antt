-- The overrides of a profile, by what they mean.
use Rattle.std.proofs.Common.{◌≡◌, ◌∙◌, List, ap, map, sym}
use Rattle.nextest_settings.specs.Profiles.Meaning.{profile_meaning}
use Rattle.nextest_rules.specs.declared.overrides.CompiledOverride.{CompiledOverride}
use Rattle.nextest_settings.specs.Profile.{EvaluatableModel}
use Rattle.nextest_settings.specs.View.{evaluated_override_meaning, evaluated_override_view, meant_override}
use Rattle.nextest_settings.specs.declared.platforms.EvaluatedRule.{EvaluatedRule as EvaluatedRule'}
use Rattle.rinqebo_rules.proofs.ListedTests.{made_twice}

-- the overrides of a profile, by what their filters mean
pub meant_overrides : {F S E T N P M : Type 0} (f : E → M) (profile : EvaluatableModel E)
    (rules : List (EvaluatedRule' (CompiledOverride F S E T N P)))
    → map evaluated_override_view rules ≡ profile.overrides
    → map (meant_override f) rules ≡ (profile_meaning f profile).overrides
meant_overrides f profile rules same =
    sym (made_twice (evaluated_override_meaning f) evaluated_override_view rules)
    ∙ ap (map (evaluated_override_meaning f)) same

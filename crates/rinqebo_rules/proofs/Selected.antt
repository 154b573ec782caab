-- Whether a test runs, as it is reported.
use Rattle.std.proofs.Common.{◌≡◌, ◌∙◌, Bool, List, Option, ap, map, option_map, subst}
use Rattle.nextest_rules.specs.Rules.{RuleId}
use Rattle.nextest_rules.specs.declared.overrides.CompiledOverride.{CompiledOverride}
use Rattle.nextest_settings.specs.Profiles.Meaning.{profile_meaning}
use Rattle.nextest_settings.specs.Chains.{first_of}
use Rattle.nextest_settings.specs.Deciding.{QueryContext}
use Rattle.nextest_settings.specs.Profile.{EvaluatableModel}
use Rattle.nextest_settings.specs.View.{evaluated_override_view, meant_override}
use Rattle.nextest_settings.specs.declared.platforms.EvaluatedRule.{EvaluatedRule as EvaluatedRule'}
use Rattle.rinqebo_report.specs.declared.report.SettingRow.{SettingRow}
use Rattle.rinqebo_rules.proofs.NoneHold.{meant_overrides}
use Rattle.rinqebo_origins.specs.RulePlaces.{id_place}
use Rattle.rinqebo_rules.specs.Runs.{IsRunReported, IsRunsRow, filtering_id, filtering_place, is_selected, runs_if}
use Rattle.rinqebo_origins.specs.TestOrigins.{Basis}

-- the row tells what the default filter and the list say
pub reported_run : {M : Type 0} (basis : Basis) (query : QueryContext M) (profile : EvaluatableModel M)
    (ignored runs : Bool) → runs ≡ runs_if (is_selected query profile) ignored → (row : SettingRow)
    → IsRunsRow basis (filtering_place profile) runs row → IsRunReported basis query profile ignored row
reported_run basis query profile ignored runs same row told =
    subst (λ b. IsRunsRow basis (filtering_place profile) b row) same told

-- the override whose default filter counts is that of what the rules of a profile mean
pub filtering_in : {F S E T N P M : Type 0} (f : E → M) (profile : EvaluatableModel E)
    (rules : List (EvaluatedRule' (CompiledOverride F S E T N P))) (found : Option RuleId)
    → map evaluated_override_view rules ≡ profile.overrides
    → found ≡ first_of filtering_id (map (meant_override f) rules)
    → option_map id_place found ≡ filtering_place (profile_meaning f profile)
filtering_in f profile rules found same is =
    ap (option_map id_place) (is ∙ ap (first_of filtering_id) (meant_overrides f profile rules same))

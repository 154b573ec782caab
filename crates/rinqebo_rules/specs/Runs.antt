-- Whether a test runs, and where the default filter is written that decides it.
use Rattle.std.specs.Prelude.{◌≡◌, Bool, true, false, not, None, Option, Some, codes, option_map, string_bytes}
use Rattle.nextest_rules.specs.Rules.{OverrideUse, RuleId}
use Rattle.nextest_settings.specs.Chains.{first_of}
use Rattle.nextest_settings.specs.Deciding.{QueryContext}
use Rattle.nextest_settings.specs.Platforms.{EvaluatedRule, filter_of_override}
use Rattle.nextest_settings.specs.Profile.{EvaluatableModel}
use Rattle.rinqebo_origins.specs.KnownOrigins.{AreOriginsAt}
use Rattle.rinqebo_origins.specs.RulePlaces.{Place, id_place}
use Rattle.rinqebo_origins.specs.TestOrigins.{Basis}
use Rattle.rinqebo_origins.specs.Reported.{ReportedScalar, ReportedValue, value_view}
use Rattle.rinqebo_request.specs.declared.request.RequestedSettings.{RequestedSettings}
use Rattle.rinqebo_request.specs.declared.request.RequestedSettings.TheVariants as asks
use Rattle.rinqebo_report.specs.declared.report.SettingRow.{SettingRow}

-- whether the default filter that counts in a profile matches a test
abbrev pub is_selected : {M : Type 0} → QueryContext M → EvaluatableModel M → Bool
is_selected query profile = query.matches profile.default_filter.filter

-- whether a test runs, by whether the default filter matches it: it runs where the filter matches
-- it, and no list says that it is ignored
abbrev pub runs_if : Bool → Bool → Bool
runs_if true ignored = not ignored
runs_if false ignored = false

-- the id of an override whose default filter would count: it has one, and its platforms hold for
-- binaries of the target
abbrev pub filtering_id : {M : Type 0} → EvaluatedRule M (OverrideUse M) → Option RuleId
filtering_id rule = option_map (λ choice. rule.writes.id) (filter_of_override rule)

-- the place of the override whose default filter counts: the first one whose would. Where there is
-- none, the default filter of the chain of profiles counts.
abbrev pub filtering_place : {M : Type 0} → EvaluatableModel M → Option Place
filtering_place profile = option_map id_place (first_of filtering_id profile.overrides)

-- whether pages show whether a test runs: where a user requests that, and beside the settings that
-- rules decide where it does not
abbrev pub shows_runs : RequestedSettings → Bool → Bool
shows_runs asks.Decided runs = not runs
shows_runs (asks.These asked settings) runs = asked

-- A row shows whether a test runs, with where the default filter is written: in the override at a
-- place, or without one in the chain of profiles.
pub record IsRunsRow (basis : Basis) (place : Option Place) (runs : Bool) (told : SettingRow)
    : Type 0 where
  pub key : string_bytes told.key ≡ codes "runs"
  pub value_reported : option_map value_view told.value
      ≡ Some (ReportedValue.scalar (ReportedScalar.boolean runs))
  pub origins_reported : AreOriginsAt basis place None (codes "default-filter") told.origins.items

-- A report shows whether a test runs, which a list may say to be ignored: whether the default
-- filter that counts matches it, and it is not ignored, with where that filter is written.
abbrev pub IsRunReported : {M : Type 0} → Basis → QueryContext M → EvaluatableModel M → Bool
    → SettingRow → Type 0
IsRunReported basis query profile ignored =
    IsRunsRow basis (filtering_place profile) (runs_if (is_selected query profile) ignored)

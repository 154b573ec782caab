use Rattle.std.proofs.Common.{◌∙◌, ap, refl, subst}
use Rattle.nextest_engines.specs.Engines.{test_view}
use Rattle.nextest_settings.specs.Profiles.Meaning.{profile_meaning}
use Rattle.nextest_settings.specs.Queries.{query_in, setting_origin, setting_value}
use Rattle.nextest_settings.specs.SettingsView.{origin_at, value_at}
use Rattle.rinqebo_rules.specs.Rows.{AreSettingsReported}
use Rattle.rinqebo_rules.specs.Runs.{runs_if, shows_runs}
use Rattle.rinqebo_origins.specs.Settings.{reported_settings}
use Rattle.rinqebo_origins.specs.TestOrigins.{wrapping_at, wrapping_id}
use Rattle.rinqebo_origins.proofs.RowsMore.{reported_alike, wrapping_alike}
use Rattle.rinqebo_rules.proofs.Selected.{reported_run}
use Rattle.rinqebo_rules.proofs.lister.Lister.rows_by.Goals as goal

pub returns-clause-told : goal.returns-clause-told
returns-clause-told g c = λ are.
    let self = c.args.self.now in
    let profile = profile_meaning g.F.Filters.meaning self.profile.now in
    let test = c.args.test.now in
    let query = query_in g.F.Filters.holds profile (test_view test.query) in
    let runs = c.runs_if-runs.ensures ∙ ap (λ s. runs_if s test.ignored) c.is_selected.ensures.answer in
    let settings = c.args.settings.now in
    let rows = c.in_ok-rows_of.field-0.items in
    record {
      binary = c.in_ok-from_str.ensures.ok;
      name = c.in_ok-from_str-2.ensures.ok;
      platform = c.reported_platform.ensures;
      run_reported = reported_run c.args.origins.now query profile test.ignored _ runs _
          c.in_ok-runs_row.ensures.told;
      run_shown = c.shows_runs.ensures ∙ ap (shows_runs self.asked.now) runs;
      ignored_reported = refl;
      settings_reported = subst (λ basis. AreSettingsReported basis query self.mode profile
          (reported_settings self.asked.now (setting_origin query self.mode profile)) rows)
          c.runs_row.ensures.same
          (reported_alike _ (wrapping_at settings) (wrapping_id query profile)
          (value_at settings) (setting_value query self.mode profile) (origin_at settings)
          (setting_origin query self.mode profile) self.mode self.asked.now rows
          (wrapping_alike _ _ are.script_rule) are.values are.origins c.in_ok-rows_of.ensures.told);
    }

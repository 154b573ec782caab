use Rattle.std.proofs.Common.{◌∙◌, refl, subst}
use Rattle.std.proofs.lemmas.List.{take_all}
use Rattle.std.specs.List.{AllZip}
use Rattle.nextest_settings.specs.SettingsView.{origin_at, value_at}
use Rattle.rinqebo_origins.specs.TestOrigins.{wrapping_at}
use Rattle.rinqebo_origins.specs.Settings.{IsSettingReported}
use Rattle.rinqebo_origins.proofs.RowsMore.{zip_more_by}
use Rattle.rinqebo_rules.proofs.rows.these_rows.Goals as goal

pub loop-setting-preserved : goal.loop-setting-preserved
loop-setting-preserved g c =
    let settings = c.args.settings.now in
    let before = c.loop-setting.invariant in
    record {
      same = c.setting_row.ensures.same ∙ before.same;
      told = zip_more_by (λ basis. IsSettingReported basis (wrapping_at settings) (value_at settings) (origin_at settings)
          c.args.mode) c.args.origins.now c.loop-setting.origins before.same c.args.told.now c.loop-setting.setting-index
          _ _ c.loop-setting-test.true refl _ _ _ before.told c.in_ok-setting_row.ensures.told
          c.in_ok-push.ensures.items;
    }

pub returns-clause-told : goal.returns-clause-told
returns-clause-told g c =
    let settings = c.args.settings.now in
    subst (λ ss. AllZip (IsSettingReported c.args.origins.now (wrapping_at settings) (value_at settings)
    (origin_at settings) c.args.mode) ss c.loop-setting.rows.items)
    (take_all c.loop-setting.setting-index c.args.told.now c.loop-setting-test.false) c.loop-setting.invariant.told
